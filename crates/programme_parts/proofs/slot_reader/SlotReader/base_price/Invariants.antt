use Rattle.programme_parts.specs.inner.Offered as offered
use Rattle.programme_parts.proofs.slot_reader.SlotReader.base_price.Given as goal

abbrev pub invariant-loop-offer : goal.invariant-loop-offer
invariant-loop-offer l = offered.IsBaseBelow l.self.offers.now.slots.items l.self.slot l.order l.offer l.best
