use Rattle.std.proofs.Common.{◌≡◌, List, None, Some, sym, ◌∙◌, subst}
use Rattle.plan_model.specs.declared.template.Template.{Template}
use Rattle.planner.specs.Fronts.{head_at}
use Rattle.inum_cache.specs.inner.Cells.{JoinGives, Takes}
use Rattle.inum_cache.specs.inner.Passes.{cell_in, row_in}
use Rattle.inum_cache.proofs.Taking.{takes-unless, takes-when}
use Rattle.inum_cache.proofs.pass.Pass.join_hash.Goals as goal

pub returns-in-Some : goal.returns-in-Some
returns-in-Some c =
    let self = c.args.self.now in
    let cut = c.args.cut.now in
    let rows = c.args.rows.now in
    takes-unless self.choices.now.orders (head_at self.ways.heads.items c.args.front ≡ None) (JoinGives (cell_in (row_in rows cut.left) 0) (cell_in (row_in rows cut.right) 0) cut.hash_price) c.args.cell.now.items
    (λ none. let clash : Some c.in-Some.field-0 ≡ None = c.in-Some.ensures ∙ none in cc)

pub returns-in_ok-join_each-in-None : goal.returns-in_ok-join_each-in-None
returns-in_ok-join_each-in-None c =
    let self = c.args.self.now in
    let orders = self.choices.now.orders in
    let cut = c.args.cut.now in
    let rows = c.args.rows.now in
    let old = c.args.cell.now.items in
    let new = c.join_each.new.cell.items in
    let a = subst (λ (x : List Template). Takes orders (JoinGives x c.list_at-right.result.now cut.hash_price) old new) c.list_at-left.ensures c.in_ok-join_each-in-None.ensures in
    let b = subst (λ (y : List Template). Takes orders (JoinGives (cell_in (row_in rows cut.left) 0) y cut.hash_price) old new) c.list_at-right.ensures a in
    takes-when orders (head_at self.ways.heads.items c.args.front ≡ None) (JoinGives (cell_in (row_in rows cut.left) 0) (cell_in (row_in rows cut.right) 0) cut.hash_price) old new (sym c.in-None.ensures) b
