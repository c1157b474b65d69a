use Rattle.programme_parts.specs.inner.Readers as reads
use Rattle.programme_parts.proofs.slot_reader.SlotReader.grants.Given as goal

abbrev pub invariant-loop-offer : goal.invariant-loop-offer
invariant-loop-offer l = reads.AreGrantsBelow l.self l.orders l.offer l.grants.items
