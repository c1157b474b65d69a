use Rattle.std.proofs.Common.{◌≡◌, ◌≤ℤ◌, ◌<◌, ℕ}
use Rattle.bip_model.specs.Views.{AreMultipliers}
use Rattle.lagrange_bound.specs.Bounds.{lagrangian}
use Rattle.lagrange_bound.specs.Rents.{rent_multipliers, tried_price}
use Rattle.lagrange_bound.proofs.improving.improve.Given as goal

abbrev pub invariant-loop-round : goal.invariant-loop-round
invariant-loop-round l =
    record {
      within : AreMultipliers l.programme l.mult;
      room : AreMultipliers l.programme l.spare;
      best : l.best ≡ lagrangian l.programme l.budget l.fix l.mult;
      keeps : lagrangian l.programme l.budget l.fix l.initial.mult ≤ℤ l.best;
      tried : (i : ℕ) → i < l.round → lagrangian l.programme l.budget l.fix (rent_multipliers l.programme (tried_price i)) ≤ℤ l.best;
    }
