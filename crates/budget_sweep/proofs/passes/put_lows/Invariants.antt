use Rattle.std.proofs.Common.{◌≡◌, ◌-◌, length, map}
use Rattle.budget_sweep.specs.inner.Passes as passes
use Rattle.budget_sweep.proofs.passes.put_lows.Given as goal

abbrev pub invariant-loop-round : goal.invariant-loop-round
invariant-loop-round l =
    record {
      count : length l.points ≡ l.count;
      bare : map passes.bare l.points ≡ map passes.bare l.fn.points;
      greatest : passes.AreGreatest l.points (l.count - l.round);
    }
