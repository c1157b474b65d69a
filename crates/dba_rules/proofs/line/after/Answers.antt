use Rattle.dba_rules.proofs.Words.{after-none, after-some}
use Rattle.dba_rules.proofs.line.after.Goals as goal

pub returns-in-None : goal.returns-in-None
returns-in-None c = after-none c.args.word.now c.args.bytes.now c.in-None.ensures.cases

pub returns-in-Some : goal.returns-in-Some
returns-in-Some c = after-some c.args.word.now c.args.bytes.now c.in-Some.rest.now c.in-Some.ensures.cases.0 c.in-Some.ensures.cases.1
