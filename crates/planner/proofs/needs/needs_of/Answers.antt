use Rattle.std.proofs.Common.{◌≡◌, List, length, subst, arith}
use Rattle.planner.specs.declared.front.Front.{Front}
use Rattle.adv_base.specs.Items.{Order}
use Rattle.planner.specs.Fronts.{listed, AreHeads, AreLinks}
use Rattle.planner.proofs.Growing.{needs_from}
use Rattle.planner.proofs.needs.needs_of.Goals as goal

pub returns : goal.returns
returns c =
    let task = c.args.task.now in
    let fronts = c.loop-k.fronts.items in
    let heads = subst (λ (l : Order). AreHeads l fronts c.in_ok-heads.heads.items) c.wanted_list.ensures.exact (subst (λ (fs : List Front). AreHeads c.wanted_list.result.now fs c.in_ok-heads.heads.items) c.as_slice.ensures.value c.in_ok-heads.ensures) in
    let end : c.loop-k.k ≡ length task.edges = omega (arith, c.len-k-end.ensures, c.loop-k-test.false, c.loop-k.auto.k-end) in
    needs_from task fronts c.in_ok-heads.heads.items c.loop-k.links.items c.loop-k.invariant.fronts c.loop-k.invariant.needed heads (subst (AreLinks (listed task) fronts task.edges c.loop-k.links.items) end c.loop-k.invariant.links)
