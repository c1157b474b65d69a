use Rattle.std.proofs.Common.{◌≡◌, ◌≤◌, ap, ◌∙◌, arith, set}
use Rattle.std.proofs.lemmas.List.{get_or_default, get_or-set_other, get_or-set_same, length-set}
use Rattle.plan_model.specs.declared.template.Template.{Template}
use Rattle.inum_cache.specs.inner.Cells.{template_at, no_template}
use Rattle.inum_cache.proofs.Fitting.{lower-takes, skip-takes}
use Rattle.inum_cache.proofs.Taking.{like-replaces}
use Rattle.inum_cache.proofs.cell.lower.Goals as goal

pub returns-then-template-index : goal.returns-then-template-index
returns-then-template-index c = λ orders.
    let cell = c.args.cell.now.items in
    let place = c.args.place in
    let t = c.args.template in
    let within = c.requires.within in
    let is : c.index.result.now ≡ template_at cell place = c.index.ensures ∙ get_or_default cell place _ no_template within in
    let less : t.internal ≤ (template_at cell place).internal = omega (arith, c.if-template-index.true, ap (λ (x : Template). x.internal) is) in
    lower-takes orders t cell (set cell place t) place within (length-set cell place t) c.requires.same less (get_or-set_same cell place t no_template within) (λ k other. get_or-set_other cell place k t no_template other)

pub returns-else-template-index : goal.returns-else-template-index
returns-else-template-index c = λ orders.
    let cell = c.args.cell.now.items in
    let place = c.args.place in
    let t = c.args.template in
    let within = c.requires.within in
    let is : c.index.result.now ≡ template_at cell place = c.index.ensures ∙ get_or_default cell place _ no_template within in
    let same = like-replaces orders (template_at cell place) t (omega (arith, c.if-template-index.false, ap (λ (x : Template). x.internal) is)) c.requires.same in
    skip-takes orders t cell (record { number = place; within = within; replaces = same })
