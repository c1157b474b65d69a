use Rattle.std.proofs.Common.{◌≡◌, ℕ, ◌<◌, length}
use Rattle.std.specs.Prelude.{Some, slice_get}
use Rattle.adv_base.specs.declared.limits.TheConstants.{MOST_CANDIDATES}
use Rattle.bip_model.specs.declared.point.Point.{Point}
use Rattle.cophy_core.proofs.commands.sweep.have_all_flags.Given as goal

-- so far
abbrev pub invariant-points : goal.invariant-points
invariant-points l = (i : ℕ) (point : Point) → i < l.at → slice_get l.points i ≡ Some point → length point.answer.config.on ≡ MOST_CANDIDATES
