use Rattle.std.proofs.Common.{◌≡◌, length}
use Rattle.budget_sweep.specs.inner.Passes as passes
use Rattle.budget_sweep.proofs.sweeping.backward.Given as goal

abbrev pub invariant-loop-turn : goal.invariant-loop-turn
invariant-loop-turn l =
    record {
      count : length l.answers.items ≡ l.turn;
      best : passes.AreBackward l.programme l.shapes l.first l.step l.count l.nodes l.answers.items;
    }
