use Rattle.std.proofs.Common.{◌≡◌, ◌+◌, ◌++◌, length, map, take}
use Rattle.adv_base.specs.Offers.{Existing}
use Rattle.access_paths.specs.inner.Paths.{as_paths}
use Rattle.access_paths.proofs.paths.add_existing.Given as goal

abbrev pub invariant-loop-index : goal.invariant-loop-index
invariant-loop-index l = record {
  added : as_paths l.paths.items ≡ as_paths l.initial.paths.items ++ map Existing (take l.index-index l.table.indexes);
  few : length l.paths.items ≡ length l.initial.paths.items + l.index-index;
}
