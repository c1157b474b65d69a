use Rattle.std.proofs.Common.{◌≡◌, ◌-◌, ◌<◌, ◌≤◌, bit_and}
use Rattle.planner.specs.inner.Cutting.{AddsCuts}
use Rattle.planner.proofs.cuts.add_cuts.Given as goal

abbrev pub invariant-parts : goal.invariant-parts
invariant-parts l =
    record {
      within : l.right ≤ l.set;
      apart : bit_and l.right (l.set - l.right) ≡ 0;
      proper : 0 < l.right → l.right < l.set;
      adds : AddsCuts l.task l.links l.covered l.set 1 (l.set - l.right) l.initial.cuts.items l.initial.merges.items l.cuts.items l.merges.items;
    }

abbrev pub decreases-parts : goal.decreases-parts
decreases-parts l = l.right
