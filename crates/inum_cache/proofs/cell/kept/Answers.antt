use Rattle.std.proofs.Common.{◌≡◌, ◌<◌, inl, inr, List, [], length, get_or, sym, ◌∙◌, subst, arith}
use Rattle.std.proofs.lemmas.List.{get_or_default}
use Rattle.plan_model.specs.declared.template.Template.{Template}
use Rattle.inum_cache.specs.inner.Cells.{template_at, no_template, IsThin, Precedes, SomeBelow, Takes}
use Rattle.inum_cache.proofs.Taking.{takes-all, takes-more, takes-same, takes-start}
use Rattle.inum_cache.proofs.cell.kept.Goals as goal

pub loop-template-init : goal.loop-template-init
loop-template-init c =
    let orders = c.args.choices.now.orders in
    let none = c.new-templates.ensures.items in
    record {
      takes = subst (λ (xs : List Template). Takes orders (SomeBelow 0 (λ k t. template_at c.args.cell.now k ≡ t)) [] xs) (sym none) (takes-start orders (λ k t. template_at c.args.cell.now k ≡ t) []);
      thin = subst (IsThin orders) (sym none) (record { none = λ i j d less within. absurd (omega (arith, within)); in_order = λ i j d less within. absurd (omega (arith, within)) });
    }

pub keep-requires : goal.keep-requires
keep-requires c =
    let cell = c.args.cell.now in
    let kept = c.loop-template.templates.items in
    let k = c.loop-template.template-index in
    let within : k < length cell = omega (arith, c.loop-template-test.true, c.loop-template.auto.template-index-end) in
    let is = get_or_default cell k _ no_template within in
    record {
      thin = c.loop-template.invariant.thin;
      behind = λ i d inside.
          elim (c.loop-template.invariant.takes.from i inside) [
            | inl old ↦ absurd (omega (arith, old.1))
            | inr w ↦ subst (λ (x : Template). Precedes (get_or kept i d) x) (sym is) (subst (λ (x : Template). Precedes x (template_at cell k)) (w.2 ∙ sym (get_or_default kept i d no_template inside)) (c.requires w.0 k no_template w.1 within))
          ];
    }

pub loop-template-preserved : goal.loop-template-preserved
loop-template-preserved c =
    let orders = c.args.choices.now.orders in
    let cell = c.args.cell.now in
    let k = c.loop-template.template-index in
    let within : k < length cell = omega (arith, c.loop-template-test.true, c.loop-template.auto.template-index-end) in
    let is = get_or_default cell k _ no_template within in
    record {
      takes = takes-more orders (λ j t. template_at cell j ≡ t) k [] c.loop-template.templates.items c.keep.new.cell.items c.loop-template.invariant.takes
          (takes-same orders _ (λ t. template_at cell k ≡ t) c.loop-template.templates.items c.keep.new.cell.items (λ t e. sym is ∙ sym e) (λ t e. sym e ∙ sym is) c.in_ok-keep.ensures.takes);
      thin = c.in_ok-keep.ensures.thin;
    }

pub returns : goal.returns
returns c =
    let cell = c.args.cell.now in
    record {
      takes = takes-all c.args.choices.now.orders (λ k t. template_at cell k ≡ t) c.loop-template.template-index (length cell) [] c.loop-template.templates.items (omega (arith, c.loop-template-test.false, c.loop-template.auto.template-index-end)) c.loop-template.invariant.takes;
      thin = c.loop-template.invariant.thin;
    }
