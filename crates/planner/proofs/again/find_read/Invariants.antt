use Rattle.std.proofs.Common.{ℕ, ◌<◌}
use Rattle.planner.specs.Choices.{IsRead}
use Rattle.planner.specs.Rows.{order_of}
use Rattle.planner.proofs.again.find_read.Given as goal

abbrev pub invariant-loop-slot : goal.invariant-loop-slot
invariant-loop-slot g l =
    (s : ℕ) → s < l.slot → (k : ℕ) → ¬ (IsRead l.ways.task.now (g.O.Offers.table l.offers) (order_of l.ways l.f) l.set l.cost s k)
