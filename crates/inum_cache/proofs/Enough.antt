-- The templates of one pass are enough for the task.
use Rattle.std.proofs.Common.{Global, ◌≡◌, ◌≢◌, inl, inr, ℕ, ◌+◌, ◌*◌, ◌^◌, ◌<◌, ◌≤◌, Bool, true, false, cond, not, IsTrue, List, [], length, All, Option, Some, None, refl, sym, ap, ◌∙◌, subst, arith}
use Rattle.std.proofs.Math.Nat.{one-le-pow}
use Rattle.std.proofs.Math.Pow.{pow_mono}
use Rattle.std.proofs.lemmas.Bool.{cases_Bool, cases_lt, false≢true, not-true}
use Rattle.std.proofs.lemmas.List.{get_or_default}
use Rattle.std.proofs.lemmas.Option.{slice_get-get_or, slice_get_within, get_or_from_slice_get}
use Rattle.adv_base.specs.Items.{Order, BeginsWith, is_same_order}
use Rattle.adv_base.specs.OfferTables.{OfferLimits}
use Rattle.adv_base.specs.Sets.{all_slots, has_slot}
use Rattle.adv_base.proofs.Begins.{begins_nil, begins_self, begins_trans}
use Rattle.std.specs.List.{list_any}
use Rattle.plan_model.specs.declared.plan.GroupStep.{GroupStep}
use Rattle.plan_model.specs.declared.plan.GroupStep.TheVariants.{Nothing, Sorted}
use Rattle.plan_model.specs.declared.plan.Plan.{Plan}
use Rattle.plan_model.specs.declared.plan.Plan.TheVariants.{Leaf, Sort', Merge', Hash'}
use Rattle.plan_model.specs.declared.plan.Whole.{Whole}
use Rattle.plan_model.specs.declared.task.Task.{Task}
use Rattle.plan_model.specs.declared.template.Template.{Template}
use Rattle.plan_model.specs.Plans.{IsValid, IsWhole, FitsGroup, body_sorts, covers, delivers, group_order}
use Rattle.plan_model.specs.Costs.{final_rows, group_cost, plan_cost, rows_in, sort_cost, whole_cost}
use Rattle.plan_model.specs.Orders.{interesting_orders, wanted_list}
use Rattle.plan_model.specs.Exchange.{choice, leaf_order, leaf_price, sum_below, whole_internal, ServesLike}
use Rattle.plan_model.specs.Least.{IsCostOfPlan}
use Rattle.plan_model.specs.Combinations.{Orders, IsCombination, free, needed, AreEnough, Covers, IsIn}
use Rattle.plan_model.proofs.CostBound.{whole_cost-most}
use Rattle.plan_model.proofs.Decomposing.{choice-within, exchange-cost, free-limits, sum_below-none}
use Rattle.plan_model.proofs.Exchanging.{whole-cost-splits}
use Rattle.plan_model.proofs.Listing.{combination-number, numbers-combination}
use Rattle.plan_model.proofs.OrderLaws.{interesting_orders-past}
use Rattle.plan_model.proofs.SetLaws.{has-all, has-below}
use Rattle.planner.specs.declared.ways.Ways.{Ways}
use Rattle.planner.specs.Fronts.{begins_test, listed}
use Rattle.planner.specs.Cells.{cost_at}
use Rattle.planner.specs.Rows.{order_of, sets_of}
use Rattle.planner.specs.inner.Built.{IsPlanFor}
use Rattle.planner.specs.inner.Shapes.{final_cost, is_nil}
use Rattle.plan_model.proofs.Exists.{joined, rows_most}
use Rattle.planner.proofs.Finding.{full_in}
use Rattle.planner.proofs.Fronting.{all_asked, nothing_asked}
use Rattle.planner.proofs.Lower.{IsLow}
use Rattle.planner.proofs.Reading.{begins_from_test}
use Rattle.planner.proofs.Wholes.{nil_false, nil_true, none_bound, some_bound}
use Rattle.inum_cache.specs.Numbering.{order_in, AreOrders}
use Rattle.inum_cache.specs.Templates.{FitsOrders}
use Rattle.inum_cache.specs.inner.Cells.{asks, place_at, template_at, no_template, IsRaised, IsReplaced, RaiseGives, Takes, least_fit}
use Rattle.inum_cache.specs.inner.Passes.{cell_in, row_in, every, AreRowsOf, IsFor}
use Rattle.inum_cache.specs.inner.Tops.{has_list, ordered_cost, plain_step, unordered_cost, TopGives}
use Rattle.inum_cache.proofs.Bounding.{any-is, cost-is, fit-low, fit-row, IsPlacedAt}
use Rattle.inum_cache.proofs.Fitting.{least_fit-found}
use Rattle.inum_cache.proofs.Kept.{order-same, size-same}
use Rattle.inum_cache.proofs.Passing.{every-length, every-limits, every-order, every-price}

-- ## Whole plans of templates

-- a whole plan of the template's cost, which reads each slot in the order that the template needs
pub record WholeFor (task : Task) (orders : List (List Order)) (t : Template) : Type 0 where
  pub whole : Whole
  pub valid : IsWhole task (every orders) whole
  pub costs : whole_cost task (every orders) whole ≡ t.internal
  pub reads : (slot : ℕ) → slot < task.slots → choice whole.body slot ≡ place_at t slot
  pub past : (slot : ℕ) → task.slots ≤ slot → place_at t slot ≡ 0

end-sorts : (order : Order) (b : Bool) → is_nil order ≡ b → IsTrue (not b) → order ≢ []
end-sorts order true e h = absurd (false≢true h)
end-sorts order false e h = nil_false order e

end-ordered : (order o : Order) (b : Bool) → is_nil order ≡ b → BeginsWith (cond (not b) order o) order
end-ordered order o true e = subst (BeginsWith o) (sym (nil_true order e)) (begins_nil o)
end-ordered order o false e = begins_self order

plain-sorts : (g : Option Order) → body_sorts (plain_step g) ≡ false
plain-sorts None = refl
plain-sorts (Some group) = refl

plain-fits : (g : Option Order) (o : Order) → FitsGroup g (plain_step g) o
plain-fits None o = tt
plain-fits (Some group) o = tt

group-sorts : (group order : Order) (b : Bool) → begins_test group order ≡ b → IsTrue (not b) → order ≢ []
group-sorts group order true e h = absurd (false≢true h)
group-sorts group order false e h = λ none. absurd (false≢true (sym e ∙ ap (begins_test group) none))

group-ordered : (group order : Order) (b : Bool) → begins_test group order ≡ b → BeginsWith (cond (not b) order group) order
group-ordered group order true e = begins_from_test group order e
group-ordered group order false e = begins_self order

-- a slot past the last is in no set
all-lacks : (n slot : ℕ) → n ≤ slot → has_slot (all_slots n) slot ≡ false
all-lacks n slot past =
    elim (cases_Bool (has_slot (all_slots n) slot)) [
      | inl has ↦
          let some : 1 ≤ 2 ^ n = one-le-pow n 2 (omega arith) in
          let below = has-below (all_slots n) n slot (omega arith) has in
          absurd (omega (arith, past, below))
      | inr none ↦ none
    ]

module _ (task : Task) (orders : List (List Order)) (t : Template) where
  make-whole : (body : Plan) (step : GroupStep) (fs : Bool) → IsValid (body_sorts step) task (every orders) body → covers body ≡ all_slots task.slots → FitsGroup task.group step (delivers (every orders) body) → (IsTrue fs → task.order ≢ []) → BeginsWith (cond fs task.order (group_order task.group step (delivers (every orders) body))) task.order → plan_cost task (every orders) body + group_cost task.rates step (rows_in task (all_slots task.slots)) + cond fs (sort_cost task.rates (final_rows task task.group (rows_in task (all_slots task.slots)))) 0 ≡ t.internal → ((slot : ℕ) → slot < task.slots → choice body slot ≡ place_at t slot) → ((slot : ℕ) → task.slots ≤ slot → place_at t slot ≡ 0) → WholeFor task orders t
  make-whole body step fs valid all fits sorts ordered costs reads past =
      let rows : rows_in task (covers body) ≡ rows_in task (all_slots task.slots) = ap (rows_in task) all in
      let group : group_cost task.rates step (rows_in task (covers body)) ≡ group_cost task.rates step (rows_in task (all_slots task.slots)) = ap (group_cost task.rates step) rows in
      let final : cond fs (sort_cost task.rates (final_rows task task.group (rows_in task (covers body)))) 0 ≡ cond fs (sort_cost task.rates (final_rows task task.group (rows_in task (all_slots task.slots)))) 0 = ap (λ r. cond fs (sort_cost task.rates (final_rows task task.group r)) 0) rows in
      record {
        whole = record { body = body; group = step; final_sort = fs };
        valid = record { body_valid = valid; covers_all = all; group_fits = fits; sorts_by_something = sorts; ordered = ordered };
        costs = omega (arith, costs, group, final);
        reads = reads;
        past = past;
      }

module _ (ways : Ways) (orders : List (List Order)) (x t : Template) where
  unordered-whole : IsFor ways orders (all_slots ways.task.now.slots) 0 x → IsRaised x (unordered_cost ways.task.now.group ways.task.now (rows_in ways.task.now (all_slots ways.task.now.slots))) t → WholeFor ways.task.now orders t
  unordered-whole h is =
      let task : Task = ways.task.now in
      make-whole task orders t h.plan (plain_step task.group) (not (is_nil task.order)) (subst (λ b. IsValid b task (every orders) h.plan) (sym (plain-sorts task.group)) (h.plain refl)) h.is.covers_set
      (plain-fits task.group (delivers (every orders) h.plan))
      (end-sorts task.order (is_nil task.order) refl)
      (end-ordered task.order (group_order task.group (plain_step task.group) (delivers (every orders) h.plan)) (is_nil task.order) refl)
      (omega (arith, h.is.costs, is.costs))
      (λ slot below. h.reads slot (has-all task.slots slot below) ∙ sym (is.needs slot))
      (λ slot past. is.needs slot ∙ h.others slot (all-lacks task.slots slot past))

  plain-whole : ways.task.now.group ≡ None → (p : Plan) → IsPlanFor true ways.task.now (every orders) (order_of ways 1) (all_slots ways.task.now.slots) x.internal p → IsValid false ways.task.now (every orders) p → IsRaised x 0 t → ((slot : ℕ) → slot < ways.task.now.slots → choice p slot ≡ place_at t slot) → ((slot : ℕ) → ways.task.now.slots ≤ slot → place_at t slot ≡ 0) → WholeFor ways.task.now orders t
  plain-whole e p is valid raised reads past =
      let task : Task = ways.task.now in
      let list_is : order_of ways 1 ≡ task.order = all_asked ways ∙ ap (λ (g : Option Order). wanted_list g task.order) e in
      make-whole task orders t p Nothing false valid is.covers_set
      (subst (λ g. FitsGroup g Nothing (delivers (every orders) p)) (sym e) tt)
      (λ h. absurd (false≢true h))
      (subst (λ g. BeginsWith (group_order g Nothing (delivers (every orders) p)) task.order) (sym e) (subst (BeginsWith (delivers (every orders) p)) list_is is.begins))
      (omega (arith, is.costs, raised.costs))
      reads past

  -- a body in order, or one that a sort at its top brings in order, which is then the final sort
  list-whole : ways.task.now.group ≡ None → is_nil ways.task.now.order ≡ false → (p : Plan) → IsPlanFor true ways.task.now (every orders) (order_of ways 1) (all_slots ways.task.now.slots) x.internal p → IsRaised x 0 t → ((slot : ℕ) → slot < ways.task.now.slots → choice p slot ≡ place_at t slot) → ((slot : ℕ) → ways.task.now.slots ≤ slot → place_at t slot ≡ 0) → WholeFor ways.task.now orders t
  list-whole e some (Sort' o q input) is raised reads past =
      let task : Task = ways.task.now in
      let all : ℕ = all_slots task.slots in
      let rows : sort_cost task.rates (rows_in task (covers input)) ≡ sort_cost task.rates (rows_in task all) = ap (λ s. sort_cost task.rates (rows_in task s)) is.covers_set in
      let final : sort_cost task.rates (final_rows task task.group (rows_in task all)) ≡ sort_cost task.rates (rows_in task all) = ap (λ g. sort_cost task.rates (final_rows task g (rows_in task all))) e in
      make-whole task orders t input Nothing true is.valid.1 is.covers_set
      (subst (λ g. FitsGroup g Nothing (delivers (every orders) input)) (sym e) tt)
      (λ _. nil_false task.order some)
      (begins_self task.order)
      (omega (arith, is.costs, raised.costs, rows, final))
      reads past
  list-whole e some (Leaf slot offer) is raised reads past = plain-whole e (Leaf slot offer) is is.valid raised reads past
  list-whole e some (Merge' edge p l q r) is raised reads past = plain-whole e (Merge' edge p l q r) is is.valid raised reads past
  list-whole e some (Hash' p l q r) is raised reads past = plain-whole e (Hash' p l q r) is is.valid raised reads past

  ordered-whole : (g : Option Order) → ways.task.now.group ≡ g → has_list g ways.task.now.order ≡ true → IsFor ways orders (all_slots ways.task.now.slots) 1 x → IsRaised x (ordered_cost g ways.task.now (rows_in ways.task.now (all_slots ways.task.now.slots))) t → WholeFor ways.task.now orders t
  ordered-whole None e has h is =
      list-whole e (not-true (is_nil ways.task.now.order) has) h.plan h.is is
      (λ slot below. h.reads slot (has-all ways.task.now.slots slot below) ∙ sym (is.needs slot))
      (λ slot past. is.needs slot ∙ h.others slot (all-lacks ways.task.now.slots slot past))
  ordered-whole (Some group) e has h is =
      let task : Task = ways.task.now in
      let all : ℕ = all_slots task.slots in
      let fs = not (begins_test group task.order) in
      let list_is : order_of ways 1 ≡ group = all_asked ways ∙ ap (λ (g : Option Order). wanted_list g task.order) e in
      let final : cond fs (sort_cost task.rates (final_rows task task.group (rows_in task all))) 0 ≡ final_cost task task.group_rows fs = ap (λ g. cond fs (sort_cost task.rates (final_rows task g (rows_in task all))) 0) e in
      make-whole task orders t h.plan Sorted fs h.is.valid h.is.covers_set
      (subst (λ g. FitsGroup g Sorted (delivers (every orders) h.plan)) (sym e) (subst (BeginsWith (delivers (every orders) h.plan)) list_is h.is.begins))
      (group-sorts group task.order (begins_test group task.order) refl)
      (subst (λ g. BeginsWith (cond fs task.order (group_order g Sorted (delivers (every orders) h.plan))) task.order) (sym e) (group-ordered group task.order (begins_test group task.order) refl))
      (omega (arith, h.is.costs, is.costs, final))
      (λ slot below. h.reads slot (has-all task.slots slot below) ∙ sym (is.needs slot))
      (λ slot past. is.needs slot ∙ h.others slot (all-lacks task.slots slot past))

-- ## The two facts

module _ (alloc : Global) (ways : Ways) (orders : List (List Order)) (are : AreOrders ways.task.now orders) (own : (slot place : ℕ) → OfferLimits slot (order_in orders slot place, 0)) (first : (slot : ℕ) → slot < length orders → order_in orders slot 0 ≡ []) (rows : List (List (List Template))) (done : AreRowsOf ways orders rows (sets_of ways)) (templates : List Template) (takes : Takes orders (TopGives ways.task.now (row_in rows (all_slots ways.task.now.slots)) (rows_in ways.task.now (all_slots ways.task.now.slots))) [] templates) where
  -- each template that is kept is of a whole plan
  whole-for : (k : ℕ) → k < length templates → WholeFor ways.task.now orders (template_at templates k)
  whole-for k within =
      let full : ℕ = all_slots ways.task.now.slots in
      let of-row = done.each full (full_in ways) in
      elim (takes.from k within) [
        | inl old ↦ absurd (omega (arith, old.1))
        | inr given ↦
            elim given [
              | inl w ↦ unordered-whole ways orders (template_at (cell_in (row_in rows full) 0) w.0) (template_at templates k) (of-row.plans 0 w.0 no_template w.1) w.2
              | inr w ↦ ordered-whole ways orders (template_at (cell_in (row_in rows full) 1) w.1.0) (template_at templates k) ways.task.now.group refl w.0 (of-row.plans 1 w.1.0 no_template w.1.1) w.1.2
            ]
      ]

  place-in : (k : ℕ) → k < length templates → (slot : ℕ) → place_at (template_at templates k) slot < length (interesting_orders ways.task.now slot)
  place-in k within slot =
      let task : Task = ways.task.now in
      let w = whole-for k within in
      elim (cases_lt slot task.slots) [
        | inl below ↦ omega (arith, choice-within task (every orders) w.whole w.valid slot below, every-length orders slot, size-same task orders are slot below, w.reads slot below)
        | inr past ↦ let one : length (interesting_orders task slot) ≡ 1 = ap length (interesting_orders-past task slot past) in omega (arith, one, w.past slot past)
      ]

  needed-is : (t : Template) (slot : ℕ) → asks orders t slot ≡ needed ways.task.now t slot
  needed-is t slot = order-same ways.task.now orders are slot (place_at t slot)

  is-combination : (needs : Orders) (internal : ℕ) → IsIn ways.task.now templates needs internal → IsCombination ways.task.now needs
  is-combination needs internal h slot =
      let task : Task = ways.task.now in
      let within = slice_get_within templates h.number h.template h.found in
      let same = get_or_from_slice_get templates h.number h.template no_template h.found in
      let needs_are : needed task (template_at templates h.number) slot ≡ needs slot = ap (λ (t : Template). needed task t slot) same ∙ sym (h.needs_are slot) in
      subst (λ (o : Order). list_any (is_same_order o) (interesting_orders task slot) ≡ true) needs_are
      (numbers-combination task (place_at (template_at templates h.number)) (place-in h.number within) slot)

  -- it costs what a plan does above leaves of the orders that it needs
  has-plan : (needs : Orders) (internal : ℕ) → IsIn ways.task.now templates needs internal → IsCostOfPlan ways.task.now (free needs) internal
  has-plan needs internal h =
      let task : Task = ways.task.now in
      let within = slice_get_within templates h.number h.template h.found in
      let same = get_or_from_slice_get templates h.number h.template no_template h.found in
      let t = template_at templates h.number in
      let w = whole-for h.number within in
      let limits = every-limits orders own in
      let none : sum_below (λ slot. 0) task.slots ≡ 0 = sum_below-none (λ slot. 0) task.slots (λ slot below. refl) in
      let free-leaves : sum_below (leaf_price (every orders) w.whole.body) task.slots ≡ 0 = sum_below-none (leaf_price (every orders) w.whole.body) task.slots (λ slot below. every-price orders slot (choice w.whole.body slot)) in
      let split = whole-cost-splits task (every orders) w.whole w.valid in
      let leaf : (slot : ℕ) → slot < task.slots → leaf_order (every orders) w.whole.body slot ≡ needs slot = λ slot below. every-order orders slot (choice w.whole.body slot) ∙ ap (order_in orders slot) (w.reads slot below) ∙ needed-is t slot ∙ ap (λ (u : Template). needed task u slot) same ∙ sym (h.needs_are slot) in
      let made = exchange-cost task (every orders) (free needs) w.whole (λ slot. 0) (λ slot. 0) limits w.valid (λ slot below. record { within = omega arith; serves = subst (λ (o : Order). ServesLike task slot (leaf_order (every orders) w.whole.body slot) o) (leaf slot below) (λ k d in_list asked. asked); costs = refl }) in
      let costs : whole_internal task w.whole + sum_below (λ slot. 0) task.slots ≡ internal = omega (arith, none, free-leaves, split, w.costs, ap (λ (u : Template). u.internal) same, h.internal_is) in
      subst (IsCostOfPlan task (free needs)) costs made

  module _ (needs : Orders) (whole : Whole) (comb : IsCombination ways.task.now needs) (v : IsWhole ways.task.now (free needs) whole) where
    covers-by : (cell : List Template) (price : ℕ) → ((t : Template) → RaiseGives cell price t → IsReplaced orders templates t) → least_fit orders needs cell + price ≤ whole_cost ways.task.now (free needs) whole → Covers (IsIn ways.task.now templates) needs (whole_cost ways.task.now (free needs) whole)
    covers-by cell price given low =
        let task : Task = ways.task.now in
        let most = whole_cost-most task (free needs) whole (free-limits task needs comb) v in
        let l = least_fit-found orders needs cell (omega (arith, low, most)) in
        let x = template_at cell l.number in
        let t : Template = record { internal = x.internal + price; needs = x.needs } in
        let r = given t (l.number, l.within, record { costs = refl; needs = λ slot. refl }) in
        let u = template_at templates r.number in
        record {
          other = needed task u;
          internal = u.internal;
          template = record { number = r.number; template = u; found = slice_get-get_or templates r.number no_template r.within; needs_are = λ slot. refl; internal_is = refl };
          fronts = λ slot. subst (BeginsWith (needs slot)) (needed-is u slot) (begins_trans (needs slot) (asks orders x slot) (asks orders u slot) (l.fits.fronts slot) (r.replaces.fits.fronts slot));
          less = omega (arith, r.replaces.less, l.costs, low);
        }

    placed : (slot : ℕ) → slot < ways.task.now.slots → IsPlacedAt orders needs slot
    placed slot below =
        let n = combination-number ways.task.now needs comb slot in
        record { place = n.0; within = omega (arith, n.1, size-same ways.task.now orders are slot below); is = order-same ways.task.now orders are slot n.0 ∙ n.2 }

    low : IsLow ways.task.now (free needs) (listed ways.task.now) ways.fronts.items (all_slots ways.task.now.slots) (fit-row ways orders rows first done needs placed (all_slots ways.task.now.slots))
    low = fit-low ways orders rows first done needs placed (all_slots ways.task.now.slots) (full_in ways)

    cheap : cost_at (fit-row ways orders rows first done needs placed (all_slots ways.task.now.slots)) 0 ≤ 10000000000000000000000
    cheap =
        let task : Task = ways.task.now in
        let j = joined alloc task (free needs) (free-limits task needs comb) (λ slot below. omega arith) in
        let some = ways.known.needs.some in
        let least = (low.least 0 (omega arith)).each j.plan j.valid j.covers_all (subst (λ t. BeginsWith (delivers (free needs) j.plan) t) (sym (nothing_asked ways)) refl) in
        let cost = j.cost in
        let slots_most = task.limits.slots_most in
        let eight : 2 ^ task.slots ≤ 2 ^ 8 = pow_mono slots_most in
        let all : all_slots task.slots ≤ 255 = omega arith in
        omega arith

    few : rows_in ways.task.now (all_slots ways.task.now.slots) ≤ 1000000000000
    few = rows_most ways.task.now.rows (all_slots ways.task.now.slots) ways.task.now.limits.rows_limits

    from-ordered : has_list ways.task.now.group ways.task.now.order ≡ true → least_fit orders needs (cell_in (row_in rows (all_slots ways.task.now.slots)) 1) + ordered_cost ways.task.now.group ways.task.now (rows_in ways.task.now (all_slots ways.task.now.slots)) ≤ whole_cost ways.task.now (free needs) whole → Covers (IsIn ways.task.now templates) needs (whole_cost ways.task.now (free needs) whole)
    from-ordered has = covers-by (cell_in (row_in rows (all_slots ways.task.now.slots)) 1) (ordered_cost ways.task.now.group ways.task.now (rows_in ways.task.now (all_slots ways.task.now.slots))) (λ t w. takes.given t (inr (has, w)))

    from-unordered : least_fit orders needs (cell_in (row_in rows (all_slots ways.task.now.slots)) 0) + unordered_cost ways.task.now.group ways.task.now (rows_in ways.task.now (all_slots ways.task.now.slots)) ≤ whole_cost ways.task.now (free needs) whole → Covers (IsIn ways.task.now templates) needs (whole_cost ways.task.now (free needs) whole)
    from-unordered = covers-by (cell_in (row_in rows (all_slots ways.task.now.slots)) 0) (unordered_cost ways.task.now.group ways.task.now (rows_in ways.task.now (all_slots ways.task.now.slots))) (λ t w. takes.given t (inl w))

    covered : (g : Option Order) → ways.task.now.group ≡ g → Covers (IsIn ways.task.now templates) needs (whole_cost ways.task.now (free needs) whole)
    covered None e =
        let task : Task = ways.task.now in
        let full : ℕ = all_slots task.slots in
        let all : ℕ = rows_in task full in
        let row = fit-row ways orders rows first done needs placed full in
        let some = ways.known.needs.some in
        let c0 = cost-is ways orders rows first done needs placed full 0 (omega (arith, some)) in
        let c1 = cost-is ways orders rows first done needs placed full 1 (omega (arith, some)) in
        let bound = none_bound task (free needs) ways.fronts.items row ways.known.needs.some (nothing_asked ways) (all_asked ways) low cheap few e (ap (λ (g : Option Order). wanted_list g task.order) e) whole v in
        let at-zero = bound.0 in
        let above : ordered_cost task.group task all ≡ 0 = ap (λ (g : Option Order). ordered_cost g task all) e in
        let price : unordered_cost task.group task all ≡ 0 + final_cost task all (not (is_nil task.order)) = ap (λ (g : Option Order). unordered_cost g task all) e in
        elim (cases_Bool (is_nil task.order)) [
          | inl nil ↦
              let final : final_cost task all (not (is_nil task.order)) ≡ 0 = ap (λ b. final_cost task all (not b)) nil in
              from-unordered (omega (arith, at-zero, c0, price, final))
          | inr some ↦
              let final : final_cost task all (not (is_nil task.order)) ≡ sort_cost task.rates all = ap (λ b. final_cost task all (not b)) some in
              elim bound.1 [
                | inl in-order ↦ from-ordered (ap (λ (g : Option Order). has_list g task.order) e ∙ ap not some) (omega (arith, in-order, c1, above))
                | inr sorted ↦ from-unordered (omega (arith, sorted, c0, price, final))
              ]
        ]
    covered (Some group) e =
        let task : Task = ways.task.now in
        let full : ℕ = all_slots task.slots in
        let all : ℕ = rows_in task full in
        let row = fit-row ways orders rows first done needs placed full in
        let some = ways.known.needs.some in
        let c0 = cost-is ways orders rows first done needs placed full 0 (omega (arith, some)) in
        let a1 = any-is ways orders rows first done needs placed full 1 (omega (arith, some)) in
        let bound = some_bound task (free needs) ways.fronts.items row ways.known.needs.some (nothing_asked ways) (all_asked ways) low cheap few group e (ap (λ (g : Option Order). wanted_list g task.order) e) whole v in
        let above : ordered_cost task.group task all ≡ task.rates.group_cpu * all + final_cost task task.group_rows (not (begins_test group task.order)) = ap (λ (g : Option Order). ordered_cost g task all) e in
        let hashing : unordered_cost task.group task all ≡ 2 * (task.rates.hash_cpu * all) + final_cost task task.group_rows (not (is_nil task.order)) = ap (λ (g : Option Order). unordered_cost g task all) e in
        elim bound [
          | inl sorted ↦ from-ordered (ap (λ (g : Option Order). has_list g task.order) e) (omega (arith, sorted, a1, above))
          | inr hashed ↦ from-unordered (omega (arith, hashed, c0, hashing))
        ]

  -- each fits the orders
  pub fits : All (FitsOrders orders) templates
  fits k d within =
      let task : Task = ways.task.now in
      let w = whole-for k within in
      let most = whole_cost-most task (every orders) w.whole (every-limits orders own) w.valid in
      subst (FitsOrders orders) (sym (get_or_default templates k d no_template within)) (record {
        most = omega (arith, most, w.costs);
        within = λ slot below.
            let here : slot < task.slots = omega (arith, below, are.count) in
            omega (arith, choice-within task (every orders) w.whole w.valid slot here, every-length orders slot, w.reads slot here);
        past = λ slot past. w.past slot (omega (arith, past, are.count));
      })

  pub enough : AreEnough ways.task.now (IsIn ways.task.now templates)
  enough =
      record {
        combination = is-combination;
        plan = has-plan;
        covers = λ needs whole comb v. covered needs whole comb v ways.task.now.group refl;
      }
