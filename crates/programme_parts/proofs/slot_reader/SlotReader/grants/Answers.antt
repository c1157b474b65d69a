use Rattle.std.proofs.Common.{◌≤◌, length, arith}
use Rattle.programme_parts.specs.inner.Readers as reads
use Rattle.programme_parts.proofs.Reading.{grants-none, grants-all}
use Rattle.programme_parts.proofs.slot_reader.SlotReader.grants.Goals as goal

pub loop-offer-init : goal.loop-offer-init
loop-offer-init c = rw c.in_ok-grants.ensures.items (grants-none c.args.self.now.offers.now.slots.items c.args.self.now.slot c.args.orders.now)

pub returns : goal.returns
returns c =
    let reader = c.args.self.now in
    let past : length (reads.offers_of reader) ≤ c.loop-offer.offer = omega (arith, c.count-count.ensures, c.loop-offer-test.false) in
    grants-all reader.offers.now.slots.items reader.slot c.args.orders.now c.loop-offer.offer c.loop-offer.grants.items past c.loop-offer.invariant
