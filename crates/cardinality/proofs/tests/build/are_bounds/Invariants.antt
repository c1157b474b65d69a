use Rattle.std.proofs.Common.{ℕ, suc, ◌<◌}
use Rattle.std.specs.Prelude.{◌≤ℤ◌}
use Rattle.adv_base.specs.Limits.Numbers.{EndLimits}
use Rattle.adv_base.specs.Shares.{end_at}
use Rattle.cardinality.proofs.tests.build.are_bounds.Given as goal

abbrev pub invariant-loop-i : goal.invariant-loop-i
invariant-loop-i l = record {
  ends : (k : ℕ) → k < l.i → EndLimits (end_at l.ends k);
  rising : (k : ℕ) → suc k < l.i → end_at l.ends k ≤ℤ end_at l.ends (suc k);
}
