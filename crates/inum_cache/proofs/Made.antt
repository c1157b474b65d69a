-- What a cache is made of.
use Rattle.std.proofs.Common.{◌≡◌, inl, inr, ℕ, suc, ◌<◌, ◌≤◌, List, [], length, get_or, sym, ap, ◌∙◌, subst, arith}
use Rattle.std.proofs.lemmas.Bool.{cases_lt}
use Rattle.std.proofs.lemmas.List.{get_or_past, nil_from_length}
use Rattle.adv_base.specs.Items.{Order}
use Rattle.adv_base.specs.OfferTables.{OfferLimits}
use Rattle.adv_base.proofs.Begins.{begins_length}
use Rattle.plan_model.specs.declared.task.Task.{Task}
use Rattle.plan_model.specs.declared.template.Template.{Template}
use Rattle.plan_model.specs.Orders.{interesting_orders}
use Rattle.plan_model.specs.Combinations.{IsCombination, free, AreEnough, IsIn}
use Rattle.plan_model.proofs.OrderLaws.{IsOfSlot, interesting_orders-of-slot}
use Rattle.plan_model.proofs.Decomposing.{free-limits}
use Rattle.plan_model.proofs.Exists.{has-plan}
use Rattle.plan_model.proofs.Listing.{numbers-combination}
use Rattle.interesting_orders.proofs.OrderLemmas.{interesting_orders-first, interesting_orders-few}
use Rattle.inum_cache.specs.Numbering.{size_in, order_in, AreOrders}
use Rattle.inum_cache.specs.Caches.{no_orders}
use Rattle.inum_cache.proofs.Kept.{order-same, size-same}

-- ## What combinations choose from

pub choices-sizes : (task : Task) (orders : List (List Order)) → AreOrders task orders → (slot : ℕ) → slot < length orders → size_in orders slot ≤ 203
choices-sizes task orders are slot below =
    omega (arith, size-same task orders are slot (omega (arith, below, are.count)), interesting_orders-few task slot)

pub choices-first : (task : Task) (orders : List (List Order)) → AreOrders task orders → (slot : ℕ) → slot < length orders → order_in orders slot 0 ≡ []
choices-first task orders are slot below =
    order-same task orders are slot 0 ∙ ap (λ (os : List Order). get_or os 0 []) (interesting_orders-first task slot).1

none-of : (task : Task) (slot : ℕ) → IsOfSlot slot []
none-of task slot =
    let first = interesting_orders-first task slot in
    let some : 0 < length (interesting_orders task slot) = (let e : length (interesting_orders task slot) ≡ suc (length first.0) = ap length first.1 in omega (arith, e)) in
    let is : get_or (interesting_orders task slot) 0 [] ≡ [] = ap (λ (os : List Order). get_or os 0 []) first.1 in
    subst (IsOfSlot slot) is (interesting_orders-of-slot task slot 0 [] some)

pub choices-own : (task : Task) (orders : List (List Order)) → AreOrders task orders → (slot place : ℕ) → OfferLimits slot (order_in orders slot place, 0)
choices-own task orders are slot place =
    subst (IsOfSlot slot) (sym (order-same task orders are slot place))
    (elim (cases_lt place (length (interesting_orders task slot))) [
      | inl within ↦ interesting_orders-of-slot task slot place [] within
      | inr past ↦ subst (IsOfSlot slot) (sym (get_or_past (interesting_orders task slot) place [] past)) (none-of task slot)
    ])

-- ## The combination of no orders

none-combination : (task : Task) → IsCombination task no_orders
none-combination task slot =
    let first = interesting_orders-first task in
    let some : (s : ℕ) → 0 < length (interesting_orders task s) = λ s. (let e : length (interesting_orders task s) ≡ suc (length (first s).0) = ap length (first s).1 in omega (arith, e)) in
    let is : (λ (s : ℕ). get_or (interesting_orders task s) 0 []) ≡ no_orders = λ i s. ap (λ (os : List Order). get_or os 0 []) (first s).1 i in
    subst (IsCombination task) is (numbers-combination task (λ s. 0) some) slot

-- some template asks for nothing
pub plain-is-in : (task : Task) (templates : List Template) → AreEnough task (IsIn task templates) → (internal : ℕ) × IsIn task templates no_orders internal
plain-is-in task templates enough =
    let comb = none-combination task in
    let some = has-plan task (free no_orders) (free-limits task no_orders comb) (λ slot below. omega arith) in
    let c = enough.covers no_orders some.whole comb some.valid in (
      c.internal,
      record {
        number = c.template.number;
        template = c.template.template;
        found = c.template.found;
        needs_are = λ slot. sym (nil_from_length (c.other slot) (omega (arith, begins_length [] (c.other slot) (c.fronts slot)))) ∙ c.template.needs_are slot;
        internal_is = c.template.internal_is;
      },
    )
