use Rattle.std.proofs.Common.{length, ◌-◌, ◌≡◌, ◌≤◌, drop}
use Rattle.sql_tokens.specs.Front.{further, comment_end}
use Rattle.sql_tokens.proofs.front.comment_end.Given as goal

-- the comment ends as the rest says
abbrev pub invariant-loop-at : goal.invariant-loop-at
invariant-loop-at l = record {
  within : l.at ≤ length l.behind;
  same : further l.at (comment_end (drop l.at l.behind)) ≡ comment_end l.behind;
}

abbrev pub decreases-loop-at : goal.decreases-loop-at
decreases-loop-at l = length l.behind - l.at
