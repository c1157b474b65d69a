use Rattle.std.proofs.Common.{◌≡◌, take}
use Rattle.std.specs.Prelude.{fold}
use Rattle.workload_fold.specs.inner.Digests.{mixed, with_item}
use Rattle.workload_fold.proofs.digests.with_items.Given as goal

abbrev pub invariant-items : goal.invariant-items
invariant-items l = l.so_far ≡ fold with_item (mixed l.digest 3) (take l.item-index l.items)
