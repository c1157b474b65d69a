use Rattle.std.proofs.Common.{◌≡◌, ◌+◌, drop}
use Rattle.std.specs.Prelude.{fold, All}
use Rattle.std.specs.List.{enumerate_from}
use Rattle.workload_fold.specs.Groups.{joined, groups_of}
use Rattle.workload_fold.specs.inner.Gathering.{IsKept, plain_groups}
use Rattle.workload_fold.proofs.grouping.fold.Given as goal

-- the groups so far, and the rest of the statements behind them, are all groups
abbrev pub invariant-statements : goal.invariant-statements
invariant-statements l = record {
  so_far : fold (joined l.cat) (plain_groups l.groups.items) (enumerate_from (l.at + 1) (drop l.at l.statements)) ≡ groups_of l.cat l.statements;
  kept : All (IsKept l.cat) l.groups.items;
}
