use Rattle.std.proofs.Common.{◌≡◌, ◌+◌, length}
use Rattle.budget_sweep.specs.inner.Passes as passes
use Rattle.budget_sweep.proofs.sweeping.forward.Given as goal

abbrev pub invariant-loop-number : goal.invariant-loop-number
invariant-loop-number l =
    record {
      left : length l.answers.items + l.number ≡ l.count;
      best : passes.AreBackward l.programme l.shapes l.first l.step l.count l.nodes l.answers.items;
      count : length l.points.items ≡ l.number;
      answered : passes.AreAnswered l.programme l.shapes l.first l.step l.nodes l.points.items;
      least : passes.AreLeast l.points.items;
    }
