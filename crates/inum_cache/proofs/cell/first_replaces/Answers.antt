use Rattle.std.proofs.Common.{◌≡◌, Some, sym, ◌∙◌, subst, slice_get}
use Rattle.std.proofs.lemmas.Option.{get_or_from_slice_get, slice_get_within}
use Rattle.plan_model.specs.declared.template.Template.{Template}
use Rattle.inum_cache.specs.inner.Cells.{no_template, Replaces}
use Rattle.inum_cache.proofs.Fitting.{replaces-true}
use Rattle.inum_cache.proofs.cell.first_replaces.Goals as goal

pub returns-in-Some : goal.returns-in-Some
returns-in-Some c = λ so.
    let orders = c.args.choices.now.orders in
    let cell = c.args.cell.now in
    let t = c.args.template.now in
    let first = c.in-Some.first.now in
    let found : slice_get cell 0 ≡ Some first = sym c.in-Some.ensures.value in
    record {
      number = 0;
      within = slice_get_within cell 0 first found;
      replaces = subst (λ (x : Template). Replaces orders x t) (sym (get_or_from_slice_get cell 0 first no_template found)) (replaces-true orders first t (sym c.replaces.ensures ∙ so));
    }
