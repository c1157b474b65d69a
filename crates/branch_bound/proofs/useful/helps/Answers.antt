use Rattle.std.proofs.Common.{sym}
use Rattle.bip_model.specs.Candidates.{helps_part}
use Rattle.branch_bound.proofs.Finding.{none-all}
use Rattle.branch_bound.proofs.useful.helps.Goals as goal

pub returns : goal.returns
returns c = sym (none-all (helps_part c.args.number) c.args.parts.now c.loop-q.q c.loop-q.invariant c.loop-q-test.false)
