use Rattle.std.proofs.Common.{◌≡◌, ◌≤◌, length}
use Rattle.std.specs.Prelude.{All}
use Rattle.adv_base.specs.declared.limits.TheConstants.{MOST_RENT}
use Rattle.relaxations.proofs.rents.clear.Given as goal

abbrev pub invariant-loop-place : goal.invariant-loop-place
invariant-loop-place l = record { most : All (λ rent. rent ≤ MOST_RENT) l.rents; long : length l.rents ≡ length l.fn.rents }
