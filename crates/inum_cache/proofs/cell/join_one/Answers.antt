use Rattle.std.proofs.Common.{◌<◌, length, sym, ◌∙◌, subst, arith}
use Rattle.std.proofs.lemmas.List.{get_or_default}
use Rattle.plan_model.specs.declared.template.Template.{Template}
use Rattle.inum_cache.specs.inner.Cells.{template_at, no_template, IsJoined}
use Rattle.inum_cache.proofs.Taking.{like-replaces, takes-all, takes-like, takes-more, takes-start}
use Rattle.inum_cache.proofs.cell.join_one.Goals as goal

pub loop-other-init : goal.loop-other-init
loop-other-init c =
    takes-start c.args.choices.now.orders (λ j t. IsJoined c.args.left.now (template_at c.args.right.now j) c.args.price t) c.args.cell.now.items

pub loop-other-preserved : goal.loop-other-preserved
loop-other-preserved c =
    let orders = c.args.choices.now.orders in
    let left = c.args.left.now in
    let right = c.args.right.now in
    let j = c.loop-other.other-index in
    let within : j < length right = omega (arith, c.loop-other-test.true, c.loop-other.auto.other-index-end) in
    let is = get_or_default right j _ no_template within in
    let made = subst (λ (x : Template). IsJoined left x c.args.price c.joined.result) is c.joined.ensures in
    takes-more orders (λ k t. IsJoined left (template_at right k) c.args.price t) j c.args.cell.now.items c.loop-other.cell.items c.insert.new.cell.items c.loop-other.invariant
    (takes-like orders (IsJoined left (template_at right j) c.args.price) c.loop-other.cell.items c.insert.new.cell.items c.joined.result made (λ t h. like-replaces orders c.joined.result t (omega (arith, made.costs, h.costs)) (λ slot. made.needs slot ∙ sym (h.needs slot))) c.in_ok-insert.ensures)

pub returns : goal.returns
returns c =
    takes-all c.args.choices.now.orders (λ k t. IsJoined c.args.left.now (template_at c.args.right.now k) c.args.price t) c.loop-other.other-index (length c.args.right.now) c.args.cell.now.items c.loop-other.cell.items (omega (arith, c.loop-other-test.false, c.loop-other.auto.other-index-end)) c.loop-other.invariant
