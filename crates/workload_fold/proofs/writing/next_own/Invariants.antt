use Rattle.std.proofs.Common.{◌≡◌, ◌≤◌, ◌-◌, length}
use Rattle.sql_tokens.specs.Ahead.{ahead}
use Rattle.workload_fold.specs.Texts.{own_tokens}
use Rattle.workload_fold.proofs.writing.next_own.Given as goal

-- what is left of the statement's tokens is what there was
abbrev pub invariant-turns : goal.invariant-turns
invariant-turns l = record {
  same : own_tokens l.text (ahead l.text l.at).tokens ≡ own_tokens l.text (ahead l.text l.from).tokens;
  on : l.from ≤ l.at;
  within : l.at ≤ length l.text;
}

abbrev pub decreases-turns : goal.decreases-turns
decreases-turns l = length l.text - l.at
