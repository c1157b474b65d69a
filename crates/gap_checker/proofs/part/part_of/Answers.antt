use Rattle.std.proofs.Common.{sym}
use Rattle.gap_checker.proofs.part.part_of.Goals as goal

pub returns-in_ok-part-in-Some : goal.returns-in_ok-part-in-Some
returns-in_ok-part-in-Some c =
    record { block = c.in-Some.block.now; block_is = sym c.in-Some.ensures; part_is = c.in_ok-part-in-Some.ensures }
