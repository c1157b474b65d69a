-- The least over the templates is the cached cost.
use Rattle.std.proofs.Common.{◌≡◌, inl, inr, ℕ, suc, ◌+◌, ◌<◌, ◌≤◌, List, [], length, get_or, All, Some, Option, refl, sym, ap, ◌∙◌, subst, arith}
use Rattle.std.specs.Prelude.{slice_get}
use Rattle.std.specs.Option.{option_map_or}
use Rattle.std.proofs.lemmas.Option.{slice_get-get_or, slice_get_within, get_or_from_slice_get}
use Rattle.adv_base.specs.Items.{Order}
use Rattle.adv_base.specs.Offers.{OfferTable}
use Rattle.adv_base.specs.OfferTables.{price_at, order_at, OfferTableLimits}
use Rattle.adv_base.proofs.Begins.{begins_nil}
use Rattle.plan_model.specs.declared.task.Task.{Task}
use Rattle.plan_model.specs.declared.template.Template.{Template}
use Rattle.plan_model.specs.Exchange.{sum_below}
use Rattle.plan_model.specs.Combinations.{Orders, IsOffered, IsLeastPrice, IsPriced, CachedBy, needed, IsIn}
use Rattle.plan_model.proofs.Bounds.{price_at-most}
use Rattle.plan_model.proofs.SetLaws.{sum_below-le}
use Rattle.inum_cache.specs.Numbering.{AreOrders}
use Rattle.inum_cache.specs.Templates.{FitsOrders}
use Rattle.inum_cache.specs.Caches.{no_orders, HasPlain}
use Rattle.inum_cache.specs.inner.Cells.{template_at, no_template}
use Rattle.inum_cache.specs.inner.Pricing.{best_price, own_price, template_cost, cost_at, least_cost}
use Rattle.inum_cache.proofs.Kept.{order-same}
use Rattle.inum_cache.proofs.Pricing.{least_below-le, least_below-is, best-le, best-is, sum_below-most, sum_below-more}

cost_at-is : (table : OfferTable) (orders : List (List Order)) (templates : List Template) (k : ℕ) (t : Template) → slice_get templates k ≡ Some t → cost_at table orders templates k ≡ template_cost table orders t
cost_at-is table orders templates k t found = ap (λ (o : Option Template). option_map_or (template_cost table orders) o 0) found

-- the least is at most what comes of each template
least-le : (table : OfferTable) (orders : List (List Order)) (templates : List Template) (number : ℕ) (t : Template) → slice_get templates number ≡ Some t → least_cost table orders templates (length templates) ≤ t.internal + sum_below (own_price table orders t) (length orders)
least-le table orders templates number t found =
    let low = least_below-le 1000000000000000000000000000000 (cost_at table orders templates) (length templates) number (slice_get_within templates number t found) in
    omega (arith, low, cost_at-is table orders templates number t found)

-- the price of what a template needs, by the task's orders
price-is : (task : Task) (table : OfferTable) (orders : List (List Order)) (t : Template) (slot : ℕ) → AreOrders task orders → own_price table orders t slot ≡ best_price table slot (needed task t slot)
price-is task table orders t slot are = ap (best_price table slot) (order-same task orders are slot (get_or t.needs slot 0))

module _ (task : Task) (table : OfferTable) (orders : List (List Order)) (templates : List Template) (limits : OfferTableLimits table) (are : AreOrders task orders) where
  -- it is at most what comes of any template that has a price
  template-le : (needs : Orders) (internal sum : ℕ) → IsIn task templates needs internal → IsPriced task table needs internal sum → least_cost table orders templates (length templates) ≤ sum
  template-le needs internal sum in_list priced =
      let t = in_list.template in
      let each : (slot : ℕ) → slot < length orders → own_price table orders t slot ≤ priced.prices slot = λ slot below.
      (let offered : IsOffered table slot (needed task t slot) (priced.prices slot) = subst (λ (o : Order). IsOffered table slot o (priced.prices slot)) (in_list.needs_are slot) (priced.each slot (omega (arith, below, are.count))).offered in
      omega (arith, best-le table slot (needed task t slot) (priced.prices slot) offered, price-is task table orders t slot are)) in
      let low = least-le table orders templates in_list.number t in_list.found in
      let sums : sum_below (own_price table orders t) (length orders) ≤ sum_below priced.prices (length orders) = sum_below-le (own_price table orders t) priced.prices (length orders) each in
      let whole : sum ≡ internal + sum_below priced.prices (length orders) = subst (λ n. sum ≡ internal + sum_below priced.prices n) (sym are.count) priced.sum in
      omega (arith, low, sums, whole, in_list.internal_is)

  -- each slot's least price is one
  least-price : (slot : ℕ) → HasPlain table slot → best_price table slot [] ≤ 10000000000000000000
  least-price slot own =
      let offered : IsOffered table slot [] (price_at table slot own.number) = record { number = own.number; within = own.within; begins = begins_nil (order_at table slot own.number); costs = refl } in
      omega (arith, best-le table slot [] (price_at table slot own.number) offered, price_at-most table slot own.number limits)

  module _ (internal : ℕ) (have : (slot : ℕ) → slot < length orders → HasPlain table slot) (fit : All (FitsOrders orders) templates) (plain : IsIn task templates no_orders internal) where
    -- with an offer of no order in each slot some template has a price
    least-some : least_cost table orders templates (length templates) < 1000000000000000000000000000000
    least-some =
        let t = plain.template in
        let fits = subst (FitsOrders orders) (get_or_from_slice_get templates plain.number t t plain.found) (fit plain.number t (slice_get_within templates plain.number t plain.found)) in
        let each : (slot : ℕ) → slot < length orders → own_price table orders t slot ≤ 10000000000000000000 = λ slot below.
        (let same : best_price table slot [] ≡ best_price table slot (needed task t slot) = ap (best_price table slot) (plain.needs_are slot) in
        omega (arith, least-price slot (have slot below), same, price-is task table orders t slot are)) in
        let low = least-le table orders templates plain.number t plain.found in
        let sums = sum_below-most (own_price table orders t) (length orders) 10000000000000000000 each in
        omega (arith, low, sums, fits.most, are.count, task.limits.slots_most)

    pub cached-by : (cost : ℕ) → cost ≡ least_cost table orders templates (length templates) → CachedBy (IsIn task templates) task table cost
    cached-by cost e =
        elim (least_below-is 1000000000000000000000000000000 (cost_at table orders templates) (length templates)) [
          | inl none ↦ absurd (omega (arith, none, least-some))
          | inr found ↦
              let t = template_at templates found.0 in
              let own = slice_get-get_or templates found.0 no_template found.1 in
              let whole : cost ≡ t.internal + sum_below (own_price table orders t) (length orders) = e ∙ found.2 ∙ cost_at-is table orders templates found.0 t own in
              record {
                needs = needed task t;
                internal = t.internal;
                template = record { number = found.0; template = t; found = own; needs_are = λ slot. refl; internal_is = refl };
                priced =
                    record {
                      prices = own_price table orders t;
                      each = λ slot inside.
                          let same = price-is task table orders t slot are in
                          let within : sum_below (own_price table orders t) slot + own_price table orders t slot ≤ sum_below (own_price table orders t) (length orders) = sum_below-more (own_price table orders t) (length orders) (suc slot) (omega (arith, inside, are.count)) in
                          subst (IsLeastPrice table slot (needed task t slot)) (sym same) (best-is table slot (needed task t slot) (omega (arith, same, within, whole, e, least-some)));
                      sum = subst (λ n. cost ≡ t.internal + sum_below (own_price table orders t) n) are.count whole;
                    };
                none_less = λ other above sum in_list priced_too. omega (arith, template-le other above sum in_list priced_too, e);
              }
        ]
