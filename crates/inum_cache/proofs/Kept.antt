-- Of templates that are enough, of which none replaces another, each is of a combination that is kept, and all of these are there.
use Rattle.std.proofs.Common.{◌≡◌, ◌⊎◌, inl, inr, ℕ, zero, suc, ◌<◌, ◌≤◌, List, [], ◌∷◌, length, get_or, refl, sym, ap, ◌∙◌, subst, arith}
use Rattle.std.specs.Prelude.{AllPairs}
use Rattle.std.proofs.lemmas.Bool.{cases_Bool, cases_lt, false≢true}
use Rattle.std.proofs.lemmas.List.{get_or_past}
use Rattle.std.proofs.lemmas.Option.{slice_get_within, get_or_from_slice_get}
use Rattle.adv_base.specs.Items.{Order, BeginsWith, is_same_order}
use Rattle.adv_base.proofs.Begins.{begins_both, begins_trans}
use Rattle.adv_base.proofs.ItemLaws.{is_same_order-decides}
use Rattle.plan_model.specs.declared.task.Task.{Task}
use Rattle.plan_model.specs.declared.template.Template.{Template}
use Rattle.plan_model.specs.Orders.{interesting_orders}
use Rattle.plan_model.specs.Least.{IsCostOfPlan}
use Rattle.plan_model.specs.Combinations.{Orders, free, IsEach, IsKept, needed, AreEnough, IsIn, AreKept}
use Rattle.plan_model.proofs.OrderLaws.{interesting_orders-past, past-none}
use Rattle.inum_cache.specs.Numbering.{size_in, order_in, AreOrders}
use Rattle.inum_cache.specs.inner.Cells.{asks, place_at, template_at, no_template, Replaces}

-- ## Orders by place

single-at : (place : ℕ) → get_or {A = Order} ([] ∷ []) place [] ≡ []
single-at zero = refl
single-at (suc place) = refl

pub order-same : (task : Task) (orders : List (List Order)) → AreOrders task orders → (slot place : ℕ) → order_in orders slot place ≡ get_or (interesting_orders task slot) place []
order-same task orders are slot place =
    elim (cases_lt slot task.slots) [
      | inl below ↦ ap (λ (os : List Order). get_or os place []) (are.each slot below)
      | inr past ↦
          ap (λ (os : List Order). get_or os place []) (get_or_past orders slot [] (omega (arith, past, are.count)))
          ∙ sym (ap (λ (os : List Order). get_or os place []) (interesting_orders-past task slot past) ∙ single-at place)
    ]

pub size-same : (task : Task) (orders : List (List Order)) → AreOrders task orders → (slot : ℕ) → slot < task.slots → size_in orders slot ≡ length (interesting_orders task slot)
size-same task orders are slot below = ap length (are.each slot below)

-- ## Whether two combinations ask for the same

differ : (a b : Orders) (n : ℕ) → ((slot : ℕ) × (slot < n) × (b slot ≡ a slot → ⊥)) ⊎ ((slot : ℕ) → slot < n → a slot ≡ b slot)
differ a b zero = inr (λ slot below. absurd (omega (arith, below)))
differ a b (suc n) =
    elim (differ a b n) [
      | inl w ↦ inl (w.0, omega (arith, w.1), w.2)
      | inr before ↦
          elim (cases_Bool (is_same_order (a n) (b n))) [
            | inl so ↦
                let last : a n ≡ b n = (is_same_order-decides (a n) (b n)).0 so in
                inr (λ slot below.
                elim (cases_lt slot n) [
                  | inl less ↦ before slot less
                  | inr more ↦ let here : n ≡ slot = omega (arith, below, more) in subst (λ s. a s ≡ b s) here last
                ])
            | inr not_so ↦
                inl (n, omega arith, λ e. false≢true (sym not_so ∙ (is_same_order-decides (a n) (b n)).1 (sym e)))
          ]
    ]

-- ## Templates of which none replaces another

-- where one of the templates stands
record StandsAt (orders : List (List Order)) (templates : List Template) (needs : Orders) (internal : ℕ) : Type 0 where
  number : ℕ
  within : number < length templates
  needs_are : (slot : ℕ) → needs slot ≡ asks orders (template_at templates number) slot
  internal_is : internal ≡ (template_at templates number).internal

module _ (task : Task) (orders : List (List Order)) (are : AreOrders task orders) (templates : List Template) (enough : AreEnough task (IsIn task templates)) (none : AllPairs (λ one other. ¬ Replaces orders one other × ¬ Replaces orders other one) templates) where
  stands : (needs : Orders) (internal : ℕ) → IsIn task templates needs internal → StandsAt orders templates needs internal
  stands needs internal h =
      let same = get_or_from_slice_get templates h.number h.template no_template h.found in
      let t = template_at templates h.number in
      record {
        number = h.number;
        within = slice_get_within templates h.number h.template h.found;
        needs_are = λ slot. h.needs_are slot ∙ sym (ap (λ (u : Template). needed task u slot) same) ∙ sym (order-same task orders are slot (place_at t slot));
        internal_is = h.internal_is ∙ sym (ap (λ (u : Template). u.internal) same);
      }

  lone : (i k : ℕ) → i < length templates → k < length templates → Replaces orders (template_at templates i) (template_at templates k) → i ≡ k
  lone i k i_in k_in r =
      elim (cases_lt i k) [
        | inl less ↦ absurd ((none i k no_template less k_in).0 r)
        | inr past ↦
            elim (cases_lt k i) [
              | inl more ↦ absurd ((none k i no_template more i_in).1 r)
              | inr same ↦ omega (arith, past, same)
            ]
      ]

  -- one that asks for no more and costs no more is the same
  is-itself : (needs other : Orders) (internal above : ℕ) → IsIn task templates needs internal → IsIn task templates other above → ((slot : ℕ) → BeginsWith (needs slot) (other slot)) → above ≤ internal → (above ≡ internal) × ((slot : ℕ) → other slot ≡ needs slot)
  is-itself needs other internal above h g fronts cheap =
      let a = stands needs internal h in
      let b = stands other above g in
      let x = template_at templates b.number in
      let r : Replaces orders x (template_at templates a.number) = record {
        less = omega (arith, a.internal_is, b.internal_is, cheap);
        fits = record { fronts = λ slot. subst (λ (o : Order). BeginsWith o (asks orders x slot)) (a.needs_are slot) (subst (BeginsWith (needs slot)) (b.needs_are slot) (fronts slot)) };
      } in
      let same = lone b.number a.number b.within a.within r in (
        b.internal_is ∙ ap (λ k. (template_at templates k).internal) same ∙ sym a.internal_is,
        λ slot. b.needs_are slot ∙ ap (λ k. asks orders (template_at templates k) slot) same ∙ sym (a.needs_are slot),
      )

  each-of : (needs : Orders) (internal : ℕ) → IsIn task templates needs internal → IsEach task needs internal
  each-of needs internal h =
      let comb = enough.combination needs internal h in
      record {
        combination = comb;
        least = record {
          plan = enough.plan needs internal h;
          none_less = λ whole v.
              let c = enough.covers needs whole comb v in
              elim (cases_lt c.internal internal) [
                | inl less ↦
                    let w = is-itself needs c.other internal c.internal h c.template c.fronts (omega (arith, less)) in
                    absurd (omega (arith, less, w.0))
                | inr more ↦ omega (arith, more, c.less)
              ];
        };
      }

  is-kept : (needs : Orders) (internal : ℕ) → IsIn task templates needs internal → IsKept task needs internal
  is-kept needs internal h =
      record {
        each = each-of needs internal h;
        none_weaker = λ weaker other w each.
            let plan = each.least.plan in
            let c = enough.covers weaker plan.whole each.combination plan.valid in
            elim (cases_lt internal other) [
              | inl dearer ↦ dearer
              | inr cheap ↦
                  let s = is-itself needs c.other internal c.internal h c.template (λ slot. begins_trans (needs slot) (weaker slot) (c.other slot) (w.fronts slot) (c.fronts slot)) (omega (arith, c.less, plan.costs, cheap)) in
                  absurd (w.differs (begins_both (weaker w.slot) (needs w.slot) (subst (BeginsWith (weaker w.slot)) (s.1 w.slot) (c.fronts w.slot)) (w.fronts w.slot)))
            ];
      }

  all-kept : (needs : Orders) (internal : ℕ) → IsKept task needs internal → IsIn task templates needs internal
  all-kept needs internal kept =
      let comb = kept.each.combination in
      let plan = kept.each.least.plan in
      let c = enough.covers needs plan.whole comb plan.valid in
      let low : c.internal ≤ internal = omega (arith, c.less, plan.costs) in
      elim (differ needs c.other task.slots) [
        | inl w ↦
            let dearer = kept.none_weaker c.other c.internal (record { fronts = c.fronts; slot = w.0; of_task = w.1; differs = w.2 }) (each-of c.other c.internal c.template) in
            absurd (omega (arith, dearer, low))
        | inr below ↦
            let others = enough.combination c.other c.internal c.template in
            let same : (slot : ℕ) → needs slot ≡ c.other slot = λ slot.
            elim (cases_lt slot task.slots) [
              | inl less ↦ below slot less
              | inr past ↦ past-none task slot (needs slot) past (comb slot) ∙ sym (past-none task slot (c.other slot) past (others slot))
            ] in
            let alike : needs ≡ c.other = λ i slot. same slot i in
            let above = subst (λ (f : Orders). IsCostOfPlan task (free f) c.internal) (sym alike) (enough.plan c.other c.internal c.template) in
            let cost : internal ≡ c.internal = omega (arith, low, kept.each.least.none_less above.whole above.valid, above.costs) in
            record {
              number = c.template.number;
              template = c.template.template;
              found = c.template.found;
              needs_are = λ slot. same slot ∙ c.template.needs_are slot;
              internal_is = cost ∙ c.template.internal_is;
            }
      ]

  pub are-kept : AreKept task templates
  are-kept = record { kept = is-kept; all = all-kept }
