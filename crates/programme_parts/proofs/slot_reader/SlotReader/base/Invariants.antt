use Rattle.std.proofs.Common.{take}
use Rattle.programme_parts.specs.inner.Readers as reads
use Rattle.programme_parts.proofs.slot_reader.SlotReader.base.Given as goal

abbrev pub invariant-loop-order : goal.invariant-loop-order
invariant-loop-order l = reads.AreBases l.self (take l.order-index l.orders) l.prices.items
