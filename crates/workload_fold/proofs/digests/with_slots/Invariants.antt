use Rattle.std.proofs.Common.{◌≡◌, take}
use Rattle.std.specs.Prelude.{fold}
use Rattle.workload_fold.specs.inner.Digests.{with_slot}
use Rattle.workload_fold.proofs.digests.with_slots.Given as goal

abbrev pub invariant-slots : goal.invariant-slots
invariant-slots l = l.so_far ≡ fold with_slot l.digest (take l.slot-index l.slots)
