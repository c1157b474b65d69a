use Rattle.inum_cache.specs.inner.Cells.{SomeBelow, Takes}
use Rattle.inum_cache.specs.inner.Passes.{PlaceGives}
use Rattle.inum_cache.proofs.pass.Pass.read_slot.Given as goal

abbrev pub invariant-loop-place : goal.invariant-loop-place
invariant-loop-place l =
    Takes l.self.choices.now.orders (SomeBelow l.place (PlaceGives l.self.ways l.self.choices.now.orders l.front l.slot)) l.initial.cell.items l.cell.items
