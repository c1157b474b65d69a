use Rattle.std.proofs.Common.{◌<◌, length, sym, ◌∙◌, subst, arith}
use Rattle.std.proofs.lemmas.List.{get_or_default}
use Rattle.plan_model.specs.declared.template.Template.{Template}
use Rattle.inum_cache.specs.inner.Cells.{template_at, no_template, IsRaised}
use Rattle.inum_cache.proofs.Taking.{like-replaces, takes-all, takes-like, takes-more, takes-start}
use Rattle.inum_cache.proofs.cell.raise_each.Goals as goal

pub loop-template-init : goal.loop-template-init
loop-template-init c =
    takes-start c.args.choices.now.orders (λ i t. IsRaised (template_at c.args.from.now i) c.args.price t) c.args.cell.now.items

pub loop-template-preserved : goal.loop-template-preserved
loop-template-preserved c =
    let orders = c.args.choices.now.orders in
    let from = c.args.from.now in
    let i = c.loop-template.template-index in
    let within : i < length from = omega (arith, c.loop-template-test.true, c.loop-template.auto.template-index-end) in
    let is = get_or_default from i _ no_template within in
    let made = subst (λ (x : Template). IsRaised x c.args.price c.raised.result) is c.raised.ensures in
    takes-more orders (λ k t. IsRaised (template_at from k) c.args.price t) i c.args.cell.now.items c.loop-template.cell.items c.insert.new.cell.items c.loop-template.invariant
    (takes-like orders (IsRaised (template_at from i) c.args.price) c.loop-template.cell.items c.insert.new.cell.items c.raised.result made (λ t h. like-replaces orders c.raised.result t (omega (arith, made.costs, h.costs)) (λ slot. made.needs slot ∙ sym (h.needs slot))) c.in_ok-insert.ensures)

pub returns : goal.returns
returns c =
    takes-all c.args.choices.now.orders (λ k t. IsRaised (template_at c.args.from.now k) c.args.price t) c.loop-template.template-index (length c.args.from.now) c.args.cell.now.items c.loop-template.cell.items (omega (arith, c.loop-template-test.false, c.loop-template.auto.template-index-end)) c.loop-template.invariant
