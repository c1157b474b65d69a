use Rattle.std.proofs.Common.{◌≡◌, ◌∙◌, arith}
use Rattle.inum_cache.specs.Numbering.{AreOrders}
use Rattle.inum_cache.proofs.Made.{choices-sizes, choices-first, choices-own}
use Rattle.inum_cache.proofs.building.choices_of.Goals as goal

pub invariant_of-result : goal.invariant_of-result
invariant_of-result c =
    let task = c.args.task.now in
    let orders = c.loop-slot.orders.items in
    let same : c.loop-slot.slot ≡ task.slots = omega (arith, c.loop-slot-test.false, c.loop-slot.auto.slot-end) in
    let are : AreOrders task orders = record { count = c.loop-slot.invariant.count ∙ same; each = λ slot below. c.loop-slot.invariant.each slot (omega (arith, below, same)) } in
    record {
      few = omega (arith, are.count, task.limits.slots_most);
      sizes = choices-sizes task orders are;
      first = choices-first task orders are;
      own = choices-own task orders are;
    }
