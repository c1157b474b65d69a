use Rattle.std.proofs.Common.{◌&&◌, ◌==◌, sym}
use Rattle.bip_model.specs.Candidates.{has_cheaper}
use Rattle.branch_bound.proofs.Finding.{none-all}
use Rattle.branch_bound.proofs.useful.helps_slot.Goals as goal

pub returns : goal.returns
returns c = sym (none-all (λ grant. (grant.candidate == c.args.number) && has_cheaper grant.prices c.args.base.now) c.args.grants.now c.loop-k.k c.loop-k.invariant c.loop-k-test.false)
