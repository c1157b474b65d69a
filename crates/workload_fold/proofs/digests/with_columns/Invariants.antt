use Rattle.std.proofs.Common.{◌≡◌, take}
use Rattle.std.specs.Prelude.{fold}
use Rattle.workload_fold.specs.inner.Digests.{mixed}
use Rattle.workload_fold.proofs.digests.with_columns.Given as goal

abbrev pub invariant-columns : goal.invariant-columns
invariant-columns l = l.so_far ≡ fold mixed l.digest (take l.column-index l.columns)
