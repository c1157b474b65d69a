use Rattle.std.proofs.Common.{ℕ, ◌<◌}
use Rattle.adv_base.specs.Configs.{Clashes}
use Rattle.adv_base.proofs.clashes.first_clash.Given as goal

-- no candidate so far clashes with a lesser one
abbrev pub invariant-loop-second : goal.invariant-loop-second
invariant-loop-second l = (a b : ℕ) → b < l.second → Clashes l.shapes l.config a b → ⊥
