use Rattle.cophy_core.proofs.commands.check.check_below.Goals as goal

pub judged-requires-clause-read : goal.judged-requires-clause-read
judged-requires-clause-read g c =
    let read = c.requires.read in (read.0, read.1, c.in-Ok.ensures.found read.0 read.2)

pub returns-in-Err-Malformed-clause-gives : goal.returns-in-Err-Malformed-clause-gives
returns-in-Err-Malformed-clause-gives g c =
    let read = c.requires.read in
    let broken = rw c.in-Err-Malformed.field-0-is at c.in-Err-Malformed.ensures.fault in
    rw c.in-Err-Malformed.field-0-is (read.0, read.1, broken read.0 read.2)
