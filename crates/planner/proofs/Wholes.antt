-- The shape of a least whole plan.
use Rattle.std.proofs.Common.{◌≡◌, ◌≢◌, ℕ, ◌+◌, ◌*◌, ◌<◌, ◌≤◌, ◌⊎◌, inl, inr, Bool, true, false, cond, not, IsTrue, nat_lt, List, [], ◌∷◌, length, Option, Some, None, refl, sym, ap, ◌∙◌, subst, arith}
use Rattle.std.proofs.Math.Nat.{mul-le-mul}
use Rattle.std.proofs.lemmas.Bool.{false≢true}
use Rattle.std.proofs.lemmas.Bool.Decides.{nat_tests}
use Rattle.adv_base.specs.Items.{Order, BeginsWith}
use Rattle.adv_base.specs.Offers.{OfferTable}
use Rattle.adv_base.specs.Sums.{digits_within, binary_digits}
use Rattle.adv_base.specs.Sets.{all_slots}
use Rattle.plan_model.specs.declared.plan.GroupStep.{GroupStep}
use Rattle.plan_model.specs.declared.plan.GroupStep.TheVariants.{Nothing, Sorted, Hashed}
use Rattle.plan_model.specs.declared.plan.Plan.{Plan}
use Rattle.plan_model.specs.declared.plan.Whole.{Whole}
use Rattle.plan_model.specs.declared.task.Task.{Task}
use Rattle.plan_model.specs.Plans.{IsValid, IsWhole, FitsGroup, covers, delivers, body_sorts, group_order}
use Rattle.plan_model.specs.Orders.{wanted_list}
use Rattle.plan_model.specs.Costs.{plan_cost, whole_cost, rows_in, sort_cost, group_cost, final_rows}
use Rattle.planner.specs.declared.front.Front.{Front}
use Rattle.planner.specs.declared.cell.Cell.{Cell}
use Rattle.planner.specs.declared.cell.TheConstants.{IMPOSSIBLE}
use Rattle.planner.specs.declared.whole.Shape.{Shape}
use Rattle.planner.specs.Fronts.{asked, begins_test, listed}
use Rattle.planner.specs.Cells.{cost_at}
use Rattle.planner.specs.inner.Built.{front_cost}
use Rattle.planner.specs.inner.Shapes.{is_nil, cheaper, final_cost, ungrouped_shape, sorted_shape, hashed_shape, least_shape}
use Rattle.adv_base.proofs.Begins.{begins_nil, begins_self}
use Rattle.plan_model.proofs.Bounds.{digits_within-most}
use Rattle.planner.proofs.Reading.{begins_from_test, test_from_begins}
use Rattle.planner.proofs.Lower.{IsLow, begun_nil}

cheaper_split : (a b : Shape) (t : Bool) → nat_lt b.cost a.cost ≡ t → ((cheaper a b ≡ a) × (a.cost ≤ b.cost)) ⊎ ((cheaper a b ≡ b) × (b.cost < a.cost))
cheaper_split a b true e =
    let less : b.cost < a.cost = grind (arith, nat_tests) in
    inr (ap (λ t. cond t b a) e, less)
cheaper_split a b false e =
    let most : a.cost ≤ b.cost = grind (arith, nat_tests) in
    inl (ap (λ t. cond t b a) e, most)

cheaper_cases : (a b : Shape) → ((cheaper a b ≡ a) × (a.cost ≤ b.cost)) ⊎ ((cheaper a b ≡ b) × (b.cost < a.cost))
cheaper_cases a b = cheaper_split a b (nat_lt b.cost a.cost) refl

pub nil_true : (o : Order) → is_nil o ≡ true → o ≡ []
nil_true [] e = refl
nil_true (x ∷ xs) e = absurd (false≢true e)

pub nil_false : (o : Order) → is_nil o ≡ false → o ≢ []
nil_false [] e h = absurd (false≢true (sym e))
nil_false (x ∷ xs) e h = cc

-- steps above a body that serve the task and cost that
pub record Fits (group : Option Order) (task : Task) (list : Order) (fronts : List Front) (row : List Cell) (rows : ℕ) (shape : Shape) : Type 0 where
  pub front_in : shape.front < length fronts
  pub fits : (o : Order) → BeginsWith o (asked list fronts shape.front) → FitsGroup group shape.group o
  pub sorts_by : IsTrue shape.final_sort → task.order ≢ []
  pub ordered : (o : Order) → BeginsWith o (asked list fronts shape.front) → BeginsWith (cond shape.final_sort task.order (group_order group shape.group o)) task.order
  pub costs : shape.cost ≡ front_cost (body_sorts shape.group) row shape.front + group_cost task.rates shape.group rows + cond shape.final_sort (sort_cost task.rates (final_rows task group rows)) 0

module _ (task : Task) (table : OfferTable) (list : Order) (fronts : List Front) (row : List Cell) (wide : 2 ≤ length fronts) (nothing : asked list fronts 0 ≡ []) (all_list : asked list fronts 1 ≡ list) (low : IsLow task table list fronts (all_slots task.slots) row) where
  rows : ℕ
  rows = rows_in task (all_slots task.slots)

  zero_least : (p : Plan) → IsValid false task table p → covers p ≡ all_slots task.slots → cost_at row 0 ≤ plan_cost task table p
  zero_least p valid is = (low.least 0 (omega arith)).each p valid is (subst (λ t. BeginsWith (delivers table p) t) (sym nothing) refl)

  same_rows : (p : Plan) → covers p ≡ all_slots task.slots → rows_in task (covers p) ≡ rows_in task (all_slots task.slots)
  same_rows p is = ap (rows_in task) is

  -- where the task doesn't group
  module _ (list_is : list ≡ task.order) where
    fits_nil : is_nil task.order ≡ true → Fits None task list fronts row (rows_in task (all_slots task.slots)) (record { cost = cost_at row 0; front = 0; group = Nothing; final_sort = false })
    fits_nil e =
        record {
          front_in = omega arith;
          fits = λ o h. tt;
          sorts_by = λ h. absurd (false≢true h);
          ordered = λ o h. subst (BeginsWith o) (sym (nil_true task.order e)) (begins_nil o);
          costs = omega arith;
        }

    fits_ordered : Fits None task list fronts row (rows_in task (all_slots task.slots)) (record { cost = cost_at row 1; front = 1; group = Nothing; final_sort = false })
    fits_ordered =
        record {
          front_in = omega arith;
          fits = λ o h. tt;
          sorts_by = λ h. absurd (false≢true h);
          ordered = λ o h. subst (BeginsWith o) (all_list ∙ list_is) h;
          costs = omega arith;
        }

    fits_sorted : is_nil task.order ≡ false → Fits None task list fronts row (rows_in task (all_slots task.slots)) (record { cost = cost_at row 0 + sort_cost task.rates (rows_in task (all_slots task.slots)); front = 0; group = Nothing; final_sort = true })
    fits_sorted e =
        record {
          front_in = omega arith;
          fits = λ o h. tt;
          sorts_by = λ h. nil_false task.order e;
          ordered = λ o h. begins_self task.order;
          costs = omega arith;
        }

    ungrouped_bound : (body : Plan) (group : GroupStep) (final_sort : Bool) → IsValid (body_sorts group) task table body → covers body ≡ all_slots task.slots → FitsGroup None group (delivers table body) → BeginsWith (cond final_sort task.order (group_order None group (delivers table body))) task.order → (cost_at row 0 ≤ plan_cost task table body + group_cost task.rates group (rows_in task (covers body)) + cond final_sort (sort_cost task.rates (final_rows task None (rows_in task (covers body)))) 0) × ((cost_at row 1 ≤ plan_cost task table body + group_cost task.rates group (rows_in task (covers body)) + cond final_sort (sort_cost task.rates (final_rows task None (rows_in task (covers body)))) 0) ⊎ (cost_at row 0 + sort_cost task.rates (rows_in task (all_slots task.slots)) ≤ plan_cost task table body + group_cost task.rates group (rows_in task (covers body)) + cond final_sort (sort_cost task.rates (final_rows task None (rows_in task (covers body)))) 0))
    ungrouped_bound body Sorted final_sort valid is fits begins = absurd fits
    ungrouped_bound body Hashed final_sort valid is fits begins = absurd fits
    ungrouped_bound body Nothing false valid is fits begins =
        let a = zero_least body valid is in
        let b = (low.least 1 (omega arith)).each body valid is (subst (BeginsWith (delivers table body)) (sym (all_list ∙ list_is)) begins) in
        (omega arith, inl (omega arith))
    ungrouped_bound body Nothing true valid is fits begins =
        let a = zero_least body valid is in
        let price : sort_cost task.rates (rows_in task (covers body)) ≡ sort_cost task.rates (rows_in task (all_slots task.slots)) = ap (sort_cost task.rates) (same_rows body is) in
        (omega arith, inr (omega arith))

  -- where it groups
  module _ (group : Order) (list_is : list ≡ group) where
    sorts_by_group : (b : Bool) → begins_test group task.order ≡ b → IsTrue (not b) → task.order ≢ []
    sorts_by_group true t h e = absurd (false≢true h)
    sorts_by_group false t h e = absurd (false≢true (sym t ∙ ap (begins_test group) e))

    ordered_group : (b : Bool) → begins_test group task.order ≡ b → BeginsWith (cond (not b) task.order group) task.order
    ordered_group true t = begins_from_test group task.order t
    ordered_group false t = begins_self task.order

    sorts_by_hashed : (b : Bool) → is_nil task.order ≡ b → IsTrue (not b) → task.order ≢ []
    sorts_by_hashed true t h = absurd (false≢true h)
    sorts_by_hashed false t h = nil_false task.order t

    ordered_hashed : (b : Bool) → is_nil task.order ≡ b → BeginsWith (cond (not b) task.order []) task.order
    ordered_hashed true t = subst (BeginsWith []) (sym (nil_true task.order t)) refl
    ordered_hashed false t = begins_self task.order

    fits_sorted_group : Fits (Some group) task list fronts row (rows_in task (all_slots task.slots)) (sorted_shape task group row (rows_in task (all_slots task.slots)))
    fits_sorted_group =
        record {
          front_in = omega arith;
          fits = λ o h. subst (BeginsWith o) (all_list ∙ list_is) h;
          sorts_by = sorts_by_group (begins_test group task.order) refl;
          ordered = λ o h. ordered_group (begins_test group task.order) refl;
          costs = refl;
        }

    fits_hashed_group : Fits (Some group) task list fronts row (rows_in task (all_slots task.slots)) (hashed_shape task row (rows_in task (all_slots task.slots)))
    fits_hashed_group =
        record {
          front_in = omega arith;
          fits = λ o h. tt;
          sorts_by = sorts_by_hashed (is_nil task.order) refl;
          ordered = λ o h. ordered_hashed (is_nil task.order) refl;
          costs = refl;
        }

    final_most : (b : Bool) → final_cost task task.group_rows b ≤ sort_cost task.rates task.group_rows
    final_most true = omega arith
    final_most false = omega arith

    grouped_bound : (body : Plan) (step : GroupStep) (final_sort : Bool) → IsValid (body_sorts step) task table body → covers body ≡ all_slots task.slots → FitsGroup (Some group) step (delivers table body) → BeginsWith (cond final_sort task.order (group_order (Some group) step (delivers table body))) task.order → ((sorted_shape task group row (rows_in task (all_slots task.slots))).cost ≤ plan_cost task table body + group_cost task.rates step (rows_in task (covers body)) + cond final_sort (sort_cost task.rates (final_rows task (Some group) (rows_in task (covers body)))) 0) ⊎ ((hashed_shape task row (rows_in task (all_slots task.slots))).cost ≤ plan_cost task table body + group_cost task.rates step (rows_in task (covers body)) + cond final_sort (sort_cost task.rates (final_rows task (Some group) (rows_in task (covers body)))) 0)
    grouped_bound body Nothing final_sort valid is fits begins = absurd fits
    grouped_bound body Sorted false valid is fits begins =
        let b = (low.least_any 1 (omega arith)).each body valid is (subst (BeginsWith (delivers table body)) (sym (all_list ∙ list_is)) fits) in
        let price : task.rates.group_cpu * rows_in task (covers body) ≡ task.rates.group_cpu * rows_in task (all_slots task.slots) = ap (λ t. task.rates.group_cpu * t) (same_rows body is) in
        let none : final_cost task task.group_rows (not (begins_test group task.order)) ≡ 0 = ap (λ t. final_cost task task.group_rows (not t)) (test_from_begins group task.order begins) in
        inl (omega arith)
    grouped_bound body Sorted true valid is fits begins =
        let b = (low.least_any 1 (omega arith)).each body valid is (subst (BeginsWith (delivers table body)) (sym (all_list ∙ list_is)) fits) in
        let price : task.rates.group_cpu * rows_in task (covers body) ≡ task.rates.group_cpu * rows_in task (all_slots task.slots) = ap (λ t. task.rates.group_cpu * t) (same_rows body is) in
        let most = final_most (not (begins_test group task.order)) in
        inl (omega arith)
    grouped_bound body Hashed false valid is fits begins =
        let a = zero_least body valid is in
        let price : task.rates.hash_cpu * rows_in task (covers body) ≡ task.rates.hash_cpu * rows_in task (all_slots task.slots) = ap (λ t. task.rates.hash_cpu * t) (same_rows body is) in
        let none : final_cost task task.group_rows (not (is_nil task.order)) ≡ 0 = ap (λ t. final_cost task task.group_rows (not (is_nil t))) (begun_nil task.order begins) in
        inr (omega arith)
    grouped_bound body Hashed true valid is fits begins =
        let a = zero_least body valid is in
        let price : task.rates.hash_cpu * rows_in task (covers body) ≡ task.rates.hash_cpu * rows_in task (all_slots task.slots) = ap (λ t. task.rates.hash_cpu * t) (same_rows body is) in
        let most = final_most (not (is_nil task.order)) in
        inr (omega arith)

-- a shape that fits, can be had, and is no dearer than a whole plan
pub record IsLeastShape (task : Task) (table : OfferTable) (list : Order) (fronts : List Front) (row : List Cell) (shape : Shape) : Type 0 where
  pub fits : Fits task.group task list fronts row (rows_in task (all_slots task.slots)) shape
  pub possible : shape.cost < IMPOSSIBLE
  pub least : (whole : Whole) → IsWhole task table whole → shape.cost ≤ whole_cost task table whole

sort_most : (task : Task) (rows : ℕ) → rows ≤ 1000000000000 → sort_cost task.rates rows ≤ 64000000000000000000
unfolding sort_cost binary_digits
sort_most task rows few =
    let rate : task.rates.sort_cpu ≤ 1000000 = task.rates.limits.sort_cpu_most in
    let digits : digits_within 64 rows ≤ 64 = digits_within-most 64 rows in
    let whole : rows * digits_within 64 rows ≤ 1000000000000 * 64 = mul-le-mul few digits in
    let all : task.rates.sort_cpu * (rows * digits_within 64 rows) ≤ 1000000 * (1000000000000 * 64) = mul-le-mul rate whole in
    omega arith

module _ (task : Task) (table : OfferTable) (fronts : List Front) (row : List Cell) (wide : 2 ≤ length fronts) (nothing : asked (listed task) fronts 0 ≡ []) (all_list : asked (listed task) fronts 1 ≡ listed task) (low : IsLow task table (listed task) fronts (all_slots task.slots) row) (cheap : cost_at row 0 ≤ 10000000000000000000000) (few : rows_in task (all_slots task.slots) ≤ 1000000000000) where
  none_costs : task.group ≡ None → (whole : Whole) → whole_cost task table whole ≡ plan_cost task table whole.body + group_cost task.rates whole.group (rows_in task (covers whole.body)) + cond whole.final_sort (sort_cost task.rates (final_rows task None (rows_in task (covers whole.body)))) 0
  none_costs e whole = ap (λ (g : Option Order). plan_cost task table whole.body + group_cost task.rates whole.group (rows_in task (covers whole.body)) + cond whole.final_sort (sort_cost task.rates (final_rows task g (rows_in task (covers whole.body)))) 0) e

  pub none_bound : (e : task.group ≡ None) (list_is : listed task ≡ task.order) (whole : Whole) → IsWhole task table whole → (cost_at row 0 ≤ whole_cost task table whole) × ((cost_at row 1 ≤ whole_cost task table whole) ⊎ (cost_at row 0 + sort_cost task.rates (rows_in task (all_slots task.slots)) ≤ whole_cost task table whole))
  none_bound e list_is whole w =
      subst (λ (t : ℕ). (cost_at row 0 ≤ t) × ((cost_at row 1 ≤ t) ⊎ (cost_at row 0 + sort_cost task.rates (rows_in task (all_slots task.slots)) ≤ t))) (sym (none_costs e whole)) (ungrouped_bound task table (listed task) fronts row wide nothing all_list low list_is whole.body whole.group whole.final_sort w.body_valid w.covers_all (subst (λ (g : Option Order). FitsGroup g whole.group (delivers table whole.body)) e w.group_fits) (subst (λ (g : Option Order). BeginsWith (cond whole.final_sort task.order (group_order g whole.group (delivers table whole.body))) task.order) e w.ordered))

  none_fits : (shape : Shape) → task.group ≡ None → Fits None task (listed task) fronts row (rows_in task (all_slots task.slots)) shape → Fits task.group task (listed task) fronts row (rows_in task (all_slots task.slots)) shape
  none_fits shape e h = subst (λ (g : Option Order). Fits g task (listed task) fronts row (rows_in task (all_slots task.slots)) shape) (sym e) h

  none_split : (e : task.group ≡ None) (list_is : listed task ≡ task.order) (sort : sort_cost task.rates (rows_in task (all_slots task.slots)) ≤ 64000000000000000000) (b : Bool) → is_nil task.order ≡ b → IsLeastShape task table (listed task) fronts row (ungrouped_shape task row (rows_in task (all_slots task.slots)))
  none_split e list_is sort true nil =
      let shape : Shape = record { cost = cost_at row 0; front = 0; group = Nothing; final_sort = false } in
      let is : ungrouped_shape task row (rows_in task (all_slots task.slots)) ≡ shape = ap (λ t. cond t shape (cheaper (record { cost = cost_at row 1; front = 1; group = Nothing; final_sort = false }) (record { cost = cost_at row 0 + sort_cost task.rates (rows_in task (all_slots task.slots)); front = 0; group = Nothing; final_sort = true }))) nil in
      let here : IsLeastShape task table (listed task) fronts row shape = record {
        fits = none_fits shape e (fits_nil task table (listed task) fronts row wide nothing all_list low list_is nil);
        possible = omega arith;
        least = λ whole w. (none_bound e list_is whole w).0;
      } in
      subst (IsLeastShape task table (listed task) fronts row) (sym is) here
  none_split e list_is sort false some =
      let a : Shape = record { cost = cost_at row 1; front = 1; group = Nothing; final_sort = false } in
      let b : Shape = record { cost = cost_at row 0 + sort_cost task.rates (rows_in task (all_slots task.slots)); front = 0; group = Nothing; final_sort = true } in
      let is : ungrouped_shape task row (rows_in task (all_slots task.slots)) ≡ cheaper a b = ap (λ t. cond t (record { cost = cost_at row 0; front = 0; group = Nothing; final_sort = false }) (cheaper a b)) some in
      let here : IsLeastShape task table (listed task) fronts row (cheaper a b) =
      elim (cheaper_cases a b) [
        | inl h ↦ subst (IsLeastShape task table (listed task) fronts row) (sym h.0) (record {
          fits = none_fits a e (fits_ordered task table (listed task) fronts row wide nothing all_list low list_is);
          possible = (let most = h.1 in omega arith);
          least = λ whole w. (let most = h.1 in elim ((none_bound e list_is whole w).1) [ inl x ↦ x | inr x ↦ omega arith ]);
        })
        | inr h ↦ subst (IsLeastShape task table (listed task) fronts row) (sym h.0) (record {
          fits = none_fits b e (fits_sorted task table (listed task) fronts row wide nothing all_list low list_is some);
          possible = omega arith;
          least = λ whole w. (let less = h.1 in elim ((none_bound e list_is whole w).1) [ inl x ↦ omega arith | inr x ↦ x ]);
        })
      ] in
      subst (IsLeastShape task table (listed task) fronts row) (sym is) here

  pub none_shape : task.group ≡ None → IsLeastShape task table (listed task) fronts row (ungrouped_shape task row (rows_in task (all_slots task.slots)))
  none_shape e =
      let list : Order = listed task in
      let list_is : list ≡ task.order = ap (λ (g : Option Order). wanted_list g task.order) e in
      let sort = sort_most task (rows_in task (all_slots task.slots)) few in
      none_split e list_is sort (is_nil task.order) refl

  pub some_bound : (group : Order) (e : task.group ≡ Some group) (list_is : listed task ≡ group) (whole : Whole) → IsWhole task table whole → ((sorted_shape task group row (rows_in task (all_slots task.slots))).cost ≤ whole_cost task table whole) ⊎ ((hashed_shape task row (rows_in task (all_slots task.slots))).cost ≤ whole_cost task table whole)
  some_bound group e list_is whole w =
      let costs : whole_cost task table whole ≡ plan_cost task table whole.body + group_cost task.rates whole.group (rows_in task (covers whole.body)) + cond whole.final_sort (sort_cost task.rates (final_rows task (Some group) (rows_in task (covers whole.body)))) 0 = ap (λ (g : Option Order). plan_cost task table whole.body + group_cost task.rates whole.group (rows_in task (covers whole.body)) + cond whole.final_sort (sort_cost task.rates (final_rows task g (rows_in task (covers whole.body)))) 0) e in
      subst (λ (t : ℕ). ((sorted_shape task group row (rows_in task (all_slots task.slots))).cost ≤ t) ⊎ ((hashed_shape task row (rows_in task (all_slots task.slots))).cost ≤ t)) (sym costs) (grouped_bound task table (listed task) fronts row wide nothing all_list low group list_is whole.body whole.group whole.final_sort w.body_valid w.covers_all (subst (λ (g : Option Order). FitsGroup g whole.group (delivers table whole.body)) e w.group_fits) (subst (λ (g : Option Order). BeginsWith (cond whole.final_sort task.order (group_order g whole.group (delivers table whole.body))) task.order) e w.ordered))

  pub some_shape : (group : Order) → task.group ≡ Some group → IsLeastShape task table (listed task) fronts row (cheaper (sorted_shape task group row (rows_in task (all_slots task.slots))) (hashed_shape task row (rows_in task (all_slots task.slots))))
  some_shape group e =
      let list_is : listed task ≡ group = ap (λ (g : Option Order). wanted_list g task.order) e in
      let a = sorted_shape task group row (rows_in task (all_slots task.slots)) in
      let b = hashed_shape task row (rows_in task (all_slots task.slots)) in
      let rate : task.rates.hash_cpu ≤ 1000000 = task.rates.limits.hash_cpu_most in
      let hash : task.rates.hash_cpu * rows_in task (all_slots task.slots) ≤ 1000000 * 1000000000000 = mul-le-mul rate few in
      let sort = sort_most task task.group_rows task.limits.group_rows_limits.most in
      let most = final_most task table (listed task) fronts row wide nothing all_list low group list_is (not (is_nil task.order)) in
      let low_b : b.cost < IMPOSSIBLE = omega arith in
      elim (cheaper_cases a b) [
        | inl h ↦ subst (IsLeastShape task table (listed task) fronts row) (sym h.0) (record {
          fits = subst (λ (g : Option Order). Fits g task (listed task) fronts row (rows_in task (all_slots task.slots)) a) (sym e) (fits_sorted_group task table (listed task) fronts row wide nothing all_list low group list_is);
          possible = (let m = h.1 in omega arith);
          least = λ whole w. (let m = h.1 in elim (some_bound group e list_is whole w) [ inl x ↦ x | inr x ↦ omega arith ]);
        })
        | inr h ↦ subst (IsLeastShape task table (listed task) fronts row) (sym h.0) (record {
          fits = subst (λ (g : Option Order). Fits g task (listed task) fronts row (rows_in task (all_slots task.slots)) b) (sym e) (fits_hashed_group task table (listed task) fronts row wide nothing all_list low group list_is);
          possible = low_b;
          least = λ whole w. (let m = h.1 in elim (some_bound group e list_is whole w) [ inl x ↦ omega arith | inr x ↦ x ]);
        })
      ]

  shape_split : (g : Option Order) → task.group ≡ g → IsLeastShape task table (listed task) fronts row (least_shape g task row (rows_in task (all_slots task.slots)))
  shape_split None e = none_shape e
  shape_split (Some group) e = some_shape group e

  pub shape_is : (shape : Shape) → shape ≡ least_shape task.group task row (rows_in task (all_slots task.slots)) → IsLeastShape task table (listed task) fronts row shape
  shape_is shape is = subst (IsLeastShape task table (listed task) fronts row) (sym is) (shape_split task.group refl)
