use Rattle.std.proofs.Common.{ℕ, ◌<◌}
use Rattle.planner.specs.Choices.{IsMergedBy}
use Rattle.planner.proofs.again.find_merge.Given as goal

abbrev pub invariant-loop-j : goal.invariant-loop-j
invariant-loop-j l =
    (i : ℕ) → i < l.j → (g : ℕ) → ¬ (IsMergedBy l.heads l.left l.right l.price l.merges l.f l.cost i g)
