use Rattle.std.proofs.Common.{sym}
use Rattle.bip_model.specs.Candidates.{helps_slot}
use Rattle.branch_bound.proofs.Finding.{none-all}
use Rattle.branch_bound.proofs.useful.helps_part.Goals as goal

pub returns : goal.returns
returns c = sym (none-all (helps_slot c.args.number) c.args.slots.now c.loop-s.s c.loop-s.invariant c.loop-s-test.false)
