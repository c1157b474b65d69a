use Rattle.programme_parts.proofs.Limits.{slot-limits}
use Rattle.programme_parts.proofs.slot_reader.SlotReader.part.Goals as goal

pub invariant_of-result : goal.invariant_of-result
invariant_of-result c =
    let reader = c.args.self.now in
    record {
      limits =
          slot-limits reader.offers.now.slots.items reader.slot c.args.orders.now c.in_ok-base.base c.in_ok-grants.grants c.requires.parted reader.offers.now.limits c.requires.few
          c.in_ok-base.ensures c.in_ok-grants.ensures;
    }
