-- Limits of tests.
use Rattle.std.specs.Prelude.{◌≡◌, ℕ, ◌≤◌}
use Rattle.adv_base.specs.declared.workload.predicate.Test.{Test}
use Rattle.adv_base.specs.declared.workload.predicate.Test.TheVariants.{OneOf}

-- an IN has at least one item
pub record TestLimits (test : Test) : Type 0 where
  pub items : (n : ℕ) → test ≡ OneOf n → 1 ≤ n
