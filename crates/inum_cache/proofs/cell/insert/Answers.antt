use Rattle.std.proofs.Common.{◌≡◌, ℕ, List, length, ap, sym, subst, arith}
use Rattle.plan_model.specs.declared.template.Template.{Template}
use Rattle.inum_cache.specs.inner.Cells.{place_at, template_at, IsReplaced, Takes}
use Rattle.inum_cache.proofs.Fitting.{push-takes, skip-takes}
use Rattle.inum_cache.proofs.cell.insert.Goals as goal

pub returns-then-first_replaces : goal.returns-then-first_replaces
returns-then-first_replaces c =
    let orders = c.args.choices.now.orders in
    skip-takes orders c.args.template c.args.cell.now.items (subst (λ xs. IsReplaced orders xs c.args.template) c.as_slice.ensures.value (c.first_replaces.ensures c.if-first_replaces.true))

pub lower-requires : goal.lower-requires
lower-requires c =
    let is = c.as_slice-2.ensures.value in
    record {
      within = omega (arith, c.needs_at.ensures.within c.if-needs_at.true, ap length is);
      same = subst (λ (xs : List Template). (slot : ℕ) → place_at (template_at xs c.unwrap_or-place.result.now) slot ≡ place_at c.args.template slot) is (c.needs_at.ensures.same c.if-needs_at.true);
    }

pub returns-then-needs_at : goal.returns-then-needs_at
returns-then-needs_at c = c.lower.ensures c.args.choices.now.orders

pub returns : goal.returns
returns c =
    let orders = c.args.choices.now.orders in
    subst (λ (xs : List Template). Takes orders (λ u. u ≡ c.args.template) c.args.cell.now.items xs) (sym c.in_ok-push.ensures.items) (push-takes orders c.args.template c.args.cell.now.items)
