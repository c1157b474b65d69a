use Rattle.std.proofs.Common.{◌<◌, length, subst, arith}
use Rattle.std.proofs.lemmas.List.{get_or_default}
use Rattle.plan_model.specs.declared.template.Template.{Template}
use Rattle.inum_cache.specs.inner.Cells.{template_at, no_template, JoinGivesOf, Takes}
use Rattle.inum_cache.proofs.Taking.{takes-all, takes-more, takes-start}
use Rattle.inum_cache.proofs.cell.join_each.Goals as goal

pub loop-one-init : goal.loop-one-init
loop-one-init c =
    takes-start c.args.choices.now.orders (λ i. JoinGivesOf (template_at c.args.left.now i) c.args.right.now c.args.price) c.args.cell.now.items

pub loop-one-preserved : goal.loop-one-preserved
loop-one-preserved c =
    let orders = c.args.choices.now.orders in
    let left = c.args.left.now in
    let right = c.args.right.now in
    let i = c.loop-one.one-index in
    let within : i < length left = omega (arith, c.loop-one-test.true, c.loop-one.auto.one-index-end) in
    let is = get_or_default left i _ no_template within in
    takes-more orders (λ k. JoinGivesOf (template_at left k) right c.args.price) i c.args.cell.now.items c.loop-one.cell.items c.join_one.new.cell.items c.loop-one.invariant
    (subst (λ (x : Template). Takes orders (JoinGivesOf x right c.args.price) c.loop-one.cell.items c.join_one.new.cell.items) is c.in_ok-join_one.ensures)

pub returns : goal.returns
returns c =
    takes-all c.args.choices.now.orders (λ k. JoinGivesOf (template_at c.args.left.now k) c.args.right.now c.args.price) c.loop-one.one-index (length c.args.left.now) c.args.cell.now.items c.loop-one.cell.items (omega (arith, c.loop-one-test.false, c.loop-one.auto.one-index-end)) c.loop-one.invariant
