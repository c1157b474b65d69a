use Rattle.std.proofs.Common.{◌<◌, ◌≤◌, length, arith}
use Rattle.programme_parts.specs.inner.Readers as reads
use Rattle.programme_parts.proofs.Reading.{base-none, base-more, base-all}
use Rattle.programme_parts.proofs.slot_reader.SlotReader.base_price.Goals as goal

pub loop-offer-init : goal.loop-offer-init
loop-offer-init c = base-none c.args.self.now.offers.now.slots.items c.args.self.now.slot c.args.order.now

pub loop-offer-preserved : goal.loop-offer-preserved
loop-offer-preserved c =
    let reader = c.args.self.now in
    let below : c.loop-offer.offer < length (reads.offers_of reader) = omega (arith, c.count-offer-end.ensures, c.loop-offer-test.true) in
    base-more reader.offers.now.slots.items reader.slot c.args.order.now c.loop-offer.offer c.loop-offer.best c.given_already.result c.lesser-best.result below c.loop-offer.invariant
    c.given_already.ensures c.lesser-best.ensures

pub returns : goal.returns
returns c =
    let reader = c.args.self.now in
    let past : length (reads.offers_of reader) ≤ c.loop-offer.offer = omega (arith, c.count-offer-end.ensures, c.loop-offer-test.false) in
    base-all reader.offers.now.slots.items reader.slot c.args.order.now c.loop-offer.offer c.loop-offer.best past c.loop-offer.invariant
