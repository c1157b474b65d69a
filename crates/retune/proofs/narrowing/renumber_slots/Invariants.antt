use Rattle.std.specs.Prelude.{slice_index_or}
use Rattle.retune.specs.inner.Renewing.{IsSlotBehind}
use Rattle.retune.proofs.Partly.{IsPartly}
use Rattle.retune.proofs.narrowing.renumber_slots.Given as goal

abbrev pub invariant-loop-slot : goal.invariant-loop-slot
invariant-loop-slot l = IsPartly (IsSlotBehind (λ n. slice_index_or l.numbers.of n 0)) l.slot-index l.initial.slot-items l.slot-items
