use Rattle.std.proofs.Common.{◌≡◌, map, take}
use Rattle.bip_model.specs.StandsFor as stands
use Rattle.programme_parts.specs.inner.Readers as reads
use Rattle.programme_parts.proofs.slot_reader.SlotReader.prices.Given as goal

abbrev pub invariant-loop-order : goal.invariant-loop-order
invariant-loop-order l = l.prices.items ≡ map (λ order. stands.given order (reads.offer_at l.self l.offer)) (take l.order-index l.orders)
