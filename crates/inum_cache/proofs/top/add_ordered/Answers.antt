use Rattle.std.proofs.Common.{◌≡◌, ℕ, List, All, true, sym, ◌∙◌, subst}
use Rattle.std.proofs.lemmas.Bool.{false≢true}
use Rattle.plan_model.specs.declared.template.Template.{Template}
use Rattle.inum_cache.specs.inner.Cells.{IsSmall, RaiseGives, Takes}
use Rattle.inum_cache.specs.inner.Passes.{cell_in}
use Rattle.inum_cache.specs.inner.Tops.{has_list, ordered_cost}
use Rattle.inum_cache.proofs.Taking.{takes-unless, takes-when}
use Rattle.inum_cache.proofs.top.add_ordered.Goals as goal

pub returns-then-not-has_list : goal.returns-then-not-has_list
returns-then-not-has_list c =
    let pass = c.args.pass.now in
    let task = pass.ways.task.now in
    takes-unless pass.choices.now.orders (has_list task.group task.order ≡ true) (RaiseGives (cell_in c.args.row.now 1) (ordered_cost task.group task c.args.rows)) c.args.templates.now.items
    (λ so. false≢true (c.if-not-has_list.ensures ∙ so))

pub raise_each-requires-clause-small : goal.raise_each-requires-clause-small
raise_each-requires-clause-small c = subst (All IsSmall) (sym c.cell_at.ensures) c.requires.small

pub returns : goal.returns
returns c =
    let pass = c.args.pass.now in
    let orders = pass.choices.now.orders in
    let task = pass.ways.task.now in
    let row = c.args.row.now in
    let old = c.args.templates.now.items in
    let new = c.raise_each.new.cell.items in
    let a = subst (λ (x : List Template). Takes orders (RaiseGives x c.ordered_price-price.result) old new) c.cell_at.ensures c.in_ok-raise_each.ensures in
    let b = subst (λ (p : ℕ). Takes orders (RaiseGives (cell_in row 1) p) old new) c.ordered_price-price.ensures.exact a in
    takes-when orders (has_list task.group task.order ≡ true) (RaiseGives (cell_in row 1) (ordered_cost task.group task c.args.rows)) old new (sym c.if-not-has_list.ensures) b
