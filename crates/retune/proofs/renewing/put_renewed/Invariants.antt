use Rattle.std.proofs.Common.{◌≡◌, ◌≤◌, length}
use Rattle.retune.specs.inner.Renewing.{put_over}
use Rattle.retune.proofs.renewing.put_renewed.Given as goal

-- what is left gives the whole
abbrev pub invariant-loop-own : goal.invariant-loop-own
invariant-loop-own l =
    record {
      few : length l.left.items ≤ length l.parts.items;
      over : put_over l.left.items l.parts.items ≡ put_over l.initial.left.items l.initial.parts.items;
    }

abbrev pub decreases-loop-own : goal.decreases-loop-own
decreases-loop-own l = length l.left.items
