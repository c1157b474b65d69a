use Rattle.inum_cache.specs.inner.Cells.{SomeBelow, Takes}
use Rattle.inum_cache.specs.inner.Passes.{SlotGives}
use Rattle.inum_cache.proofs.pass.Pass.read.Given as goal

abbrev pub invariant-loop-slot : goal.invariant-loop-slot
invariant-loop-slot l =
    Takes l.self.choices.now.orders (SomeBelow l.slot (SlotGives l.self.ways l.self.choices.now.orders l.set l.front)) l.initial.cell.items l.cell.items
