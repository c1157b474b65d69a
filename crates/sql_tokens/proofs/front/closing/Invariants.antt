use Rattle.std.proofs.Common.{length, ◌-◌, ◌≡◌, ◌≤◌, drop, IfSome}
use Rattle.sql_tokens.specs.Front.{closing}
use Rattle.sql_tokens.proofs.Scan.{or_end}
use Rattle.sql_tokens.proofs.front.closing.Given as goal

-- the text ends as the rest says, or else where it ended last
abbrev pub invariant-loop-at : goal.invariant-loop-at
invariant-loop-at l = record {
  within : l.at ≤ length l.behind;
  end_within : IfSome l.end (λ n. n ≤ l.at);
  same : or_end l.end l.at (closing (drop l.at l.behind)) ≡ closing l.behind;
}

abbrev pub decreases-loop-at : goal.decreases-loop-at
decreases-loop-at l = length l.behind - l.at
