use Rattle.std.proofs.Common.{◌≡◌, ◌≤◌, length}
use Rattle.std.specs.Prelude.{All}
use Rattle.adv_base.specs.declared.limits.TheConstants.{MOST_RENT}
use Rattle.relaxations.proofs.rents.write_rents.Given as goal

abbrev pub invariant-loop-number : goal.invariant-loop-number
invariant-loop-number l = record { most : All (λ rent. rent ≤ MOST_RENT) l.into; long : length l.into ≡ length l.fn.into }
