use Rattle.std.proofs.Common.{◌≡◌, ◌++◌, ◌∷◌, [], List, sym, ap, ◌∙◌, subst, rules}
use Rattle.std.specs.List.{list_any, filter}
use Rattle.std.proofs.lemmas.Fn.{filter_same}
use Rattle.plan_model.specs.declared.template.Template.{Template}
use Rattle.inum_cache.specs.inner.Cells.{does_replace, IsThin, Takes}
use Rattle.inum_cache.proofs.Fitting.{any-replaced, skip-takes}
use Rattle.inum_cache.proofs.Thinning.{keep-takes, keep-thin, stays}
use Rattle.inum_cache.proofs.cell.keep.Goals as goal

pub returns-then-is_replaced-clause-takes : goal.returns-then-is_replaced-clause-takes
returns-then-is_replaced-clause-takes c =
    let orders = c.args.choices.now.orders in
    let t = c.args.template in
    let cell = c.args.cell.now.items in
    skip-takes orders t cell (any-replaced orders t cell (ap (list_any (λ one. does_replace orders one t)) (sym c.as_slice.ensures.value) ∙ sym c.is_replaced.ensures ∙ c.if-is_replaced.true))

pub returns : goal.returns
returns c =
    let orders = c.args.choices.now.orders in
    let t = c.args.template in
    let cell = c.args.cell.now.items in
    let none = ap (list_any (λ one. does_replace orders one t)) (sym c.as_slice.ensures.value) ∙ sym c.is_replaced.ensures ∙ c.if-is_replaced.false in
    let kept : c.retain.new.self.items ≡ filter (stays orders t cell) cell = filter_same _ (stays orders t cell) _ (λ x b f' k. search rules) _ _ c.retain.ensures.filtered in
    let new : c.push.new.self.items ≡ filter (stays orders t cell) cell ++ t ∷ [] = c.in_ok-push.ensures.items ∙ ap (λ (xs : List Template). xs ++ t ∷ []) kept in
    record {
      takes = subst (λ (xs : List Template). Takes orders (λ u. u ≡ t) cell xs) (sym new) (keep-takes orders t cell);
      thin = subst (IsThin orders) (sym new) (keep-thin orders t cell none c.requires.thin c.requires.behind);
    }
