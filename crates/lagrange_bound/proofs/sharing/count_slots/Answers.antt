use Rattle.std.proofs.Common.{◌∙◌, ◌+◌, ◌==◌, suc, List, get_or, ap}
use Rattle.std.specs.Prelude.{count_by}
use Rattle.bip_model.specs.declared.grant.Grant.{Grant}
use Rattle.lagrange_bound.specs.Rents.{slot_uses}
use Rattle.lagrange_bound.proofs.WrittenRents.{more-uses}
use Rattle.lagrange_bound.proofs.sharing.count_slots.Goals as goal

pub loop-slot-preserved : goal.loop-slot-preserved
loop-slot-preserved c = λ a below.
    more-uses (slot_uses (suc a)) c.args.slots.now c.loop-slot.slot-index c.slot-item.result (get_or c.loop-slot.uses a 0) _ _ c.loop-slot-test.true c.slot-item.is (c.loop-slot.invariant a below)
    (c.count_grants.ensures a below ∙ ap (λ (gs : List Grant). get_or c.loop-slot.uses a 0 + count_by (λ grant. grant.candidate == suc a) gs) c.as_slice.ensures)
