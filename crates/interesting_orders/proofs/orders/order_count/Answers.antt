use Rattle.std.proofs.Common.{arith}
use Rattle.std.proofs.lemmas.Grind.{common_steps}
use Rattle.interesting_orders.proofs.MarkLemmas.{AreMarks-start, interesting_orders-fold}
use Rattle.interesting_orders.proofs.orders.order_count.Goals as goal

pub loop-edge-init : goal.loop-edge-init
loop-edge-init c = AreMarks-start c.args.slot

pub returns-then-is_new_list-clause-exact : goal.returns-then-is_new_list-clause-exact
returns-then-is_new_list-clause-exact c =
    let whole = interesting_orders-fold c.args.task.now c.args.slot in
    let more = c.is_new_list.ensures _ c.loop-edge.invariant in
    let counted = c.loop-edge.invariant.counted in
    grind (arith, common_steps)

pub returns-else-is_new_list-clause-exact : goal.returns-else-is_new_list-clause-exact
returns-else-is_new_list-clause-exact c =
    let whole = interesting_orders-fold c.args.task.now c.args.slot in
    let more = c.is_new_list.ensures _ c.loop-edge.invariant in
    let counted = c.loop-edge.invariant.counted in
    grind (arith, common_steps)
