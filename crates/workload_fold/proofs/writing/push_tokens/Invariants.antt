use Rattle.std.proofs.Common.{◌≡◌, ◌≤◌, ◌-◌, ◌++◌, length}
use Rattle.sql_tokens.specs.Ahead.{ahead}
use Rattle.workload_fold.specs.Texts.{spaced, own_tokens}
use Rattle.workload_fold.proofs.writing.push_tokens.Given as goal

-- what is written and the tokens that are left are all
abbrev pub invariant-tokens : goal.invariant-tokens
invariant-tokens l = record {
  so_far : l.out.items ++ spaced l.text (own_tokens l.text (ahead l.text l.at).tokens) ≡ l.fn.out.items ++ spaced l.text (own_tokens l.text (ahead l.text l.from).tokens);
  within : l.at ≤ length l.text;
}

abbrev pub decreases-tokens : goal.decreases-tokens
decreases-tokens l = length l.text - l.at
