use Rattle.programme_parts.proofs.Parting.{has-parted, slot-priced}
use Rattle.programme_parts.proofs.slots.slot_part.Goals as goal

pub part-requires-clause-parted : goal.part-requires-clause-parted
part-requires-clause-parted c =
    let every = c.requires.every in
    has-parted c.args.cat.now c.args.block.now c.args.shapes.now every.every c.args.offers.now.slots.items c.args.slot c.requires.named c.requires.few every.is_every every.offers_are every.candidates_are c.requires.slot

pub returns : goal.returns
returns c =
    slot-priced c.args.cat.now c.args.block.now c.args.shapes.now c.args.offers.now c.args.slot c.args.orders.now c.in_ok-part.part c.requires.named c.requires.every c.requires.slot c.in_ok-part.ensures
