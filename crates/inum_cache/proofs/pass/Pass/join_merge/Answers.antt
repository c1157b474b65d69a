use Rattle.std.proofs.Common.{◌≡◌, List, Option, None, Some, sym, ◌∙◌, ap, subst}
use Rattle.adv_base.specs.declared.workload.parts.Item.{Item}
use Rattle.plan_model.specs.declared.template.Template.{Template}
use Rattle.planner.specs.Fronts.{head_at, longer_front}
use Rattle.inum_cache.specs.inner.Cells.{JoinGives, Takes}
use Rattle.inum_cache.specs.inner.Passes.{cell_in, row_in, MergeGives}
use Rattle.inum_cache.proofs.Taking.{takes-none, takes-same}
use Rattle.inum_cache.proofs.pass.Pass.join_merge.Goals as goal

pub returns-in-None : goal.returns-in-None
returns-in-None c =
    let self = c.args.self.now in
    let m = c.args.merge.now in
    let heads = self.ways.heads.items in
    let front : None ≡ longer_front (head_at heads m.left_need) (head_at heads c.args.front) m.left_need c.args.front = c.in-None.ensures ∙ ap (λ (t : Option Item). longer_front t c.head-head.result m.left_need c.args.front) c.head-need.ensures ∙ ap (λ (t : Option Item). longer_front (head_at heads m.left_need) t m.left_need c.args.front) c.head-head.ensures in
    takes-none self.choices.now.orders (MergeGives self.ways (row_in c.args.rows.now) c.args.front c.args.cut.now m) c.args.cell.now.items
    (λ t w. let clash : None ≡ Some w.0 = front ∙ w.1 in cc)

pub returns-in_ok-join_each-in-Some : goal.returns-in_ok-join_each-in-Some
returns-in_ok-join_each-in-Some c =
    let self = c.args.self.now in
    let orders = self.choices.now.orders in
    let cut = c.args.cut.now in
    let m = c.args.merge.now in
    let rows = c.args.rows.now in
    let heads = self.ways.heads.items in
    let old = c.args.cell.now.items in
    let new = c.join_each.new.cell.items in
    let g = c.in-Some.left_front in
    let front : Some g ≡ longer_front (head_at heads m.left_need) (head_at heads c.args.front) m.left_need c.args.front = c.in-Some.ensures ∙ ap (λ (t : Option Item). longer_front t c.head-head.result m.left_need c.args.front) c.head-need.ensures ∙ ap (λ (t : Option Item). longer_front (head_at heads m.left_need) t m.left_need c.args.front) c.head-head.ensures in
    let a = subst (λ (x : List Template). Takes orders (JoinGives x c.list_at-right.result.now cut.merge_price) old new) c.list_at-left.ensures c.in_ok-join_each-in-Some.ensures in
    let b = subst (λ (y : List Template). Takes orders (JoinGives (cell_in (row_in rows cut.left) g) y cut.merge_price) old new) c.list_at-right.ensures a in
    takes-same orders (JoinGives (cell_in (row_in rows cut.left) g) (cell_in (row_in rows cut.right) m.right_front) cut.merge_price) (MergeGives self.ways (row_in rows) c.args.front cut m) old new
    (λ t w. (g, sym front, w))
    (λ t w.
    let same : w.0 ≡ g = (let both : Some w.0 ≡ Some g = sym w.1 ∙ sym front in cc) in
    subst (λ k. JoinGives (cell_in (row_in rows cut.left) k) (cell_in (row_in rows cut.right) m.right_front) cut.merge_price t) same w.2)
    b
