-- Laws of the interesting orders of a slot, and of what orders begin with.
use Rattle.std.proofs.Common.{◌≡◌, ◌⊎◌, inl, inr, ℕ, ◌<◌, ◌≤◌, ◌==◌, Bool, true, false, cond, ◌||◌, List, [], ◌∷◌, ◌++◌, All, Option, Some, None, refl, sym, ap, ◌∙◌, subst, arith}
use Rattle.std.specs.Prelude.{slice_get}
use Rattle.std.specs.Option.{ForSome}
use Rattle.std.specs.List.{list_any, list_all, flat_map}
use Rattle.std.proofs.lemmas.Option.{get_or_from_slice_get, slice_get_within}
use Rattle.std.proofs.lemmas.Map.Keys.{any_passes_from_place}
use Rattle.std.proofs.lemmas.Bool.{cases_Bool, false≢true, eqb-true, ltb-true, and_parts, or_cases, or_left, or_right}
use Rattle.std.proofs.lemmas.Bool.Decides.{Decides-eqb}
use Rattle.std.proofs.lemmas.List.Elements.{All-head, All-tail, All-cons, All-nil, All-append}
use Rattle.std.proofs.lemmas.List.Folds.{list_any-append}
use Rattle.std.proofs.lemmas.List.Sums.{AllPass-from_list_all, list_all-from_AllPass}
use Rattle.adv_base.specs.declared.workload.parts.Item.{Item}
use Rattle.adv_base.specs.declared.workload.parts.Item.TheVariants.{Up, Down, Made}
use Rattle.adv_base.specs.Items.{Order, AreApart, AreWithinSlots, is_within_slots, BeginsWith, is_up_of, is_same_order, is_own_list}
use Rattle.adv_base.specs.Sets.{has_slot}
use Rattle.adv_base.proofs.Begins.{begins_all}
use Rattle.adv_base.proofs.ItemLaws.{is_same_order-decides, order_same}
use Rattle.plan_model.specs.declared.edge.TaskEdge.{TaskEdge}
use Rattle.plan_model.specs.declared.task.Task.{Task}
use Rattle.plan_model.specs.Limits.Tasks.{EdgeLimits}
use Rattle.adv_base.specs.OfferTables.{OfferLimits}
use Rattle.plan_model.specs.Orders.{need_order, needs_at, edge_orders, own_list, wanted_list, without_repeats, interesting_orders}
use Rattle.plan_model.specs.Exchange.{IsNeed, IsFront, ServesLike}

-- what holds of each of some orders holds of one among them
pub All-among : (P : Order → Type 0) (o : Order) (orders : List Order) → All P orders → list_any (is_same_order o) orders ≡ true → P o
All-among P o [] h among = absurd (false≢true among)
All-among P o (x ∷ xs) h among =
    elim (or_cases (is_same_order o x) (list_any (is_same_order o) xs) among) [
      | inl here ↦ subst P (sym ((is_same_order-decides o x).0 here)) (All-head P x xs h)
      | inr later ↦ All-among P o xs (All-tail P x xs h) later
    ]

-- what holds of each item of an order holds of each item with which it begins
pub All-front : (p : Item → Bool) (o r : Order) → list_all p o ≡ true → BeginsWith o r → list_all p r ≡ true
All-front p o r h begins =
    list_all-from_AllPass p r (begins_all (λ item. p item ≡ true) o r (AllPass-from_list_all p o h) begins)

-- ## Each interesting order

-- an order that an offer of the slot may have, at no price
abbrev pub IsOfSlot : ℕ → Order → Type 0
IsOfSlot slot order = OfferLimits slot (order, 0)

none-of-slot : (slot : ℕ) → IsOfSlot slot []
none-of-slot slot =
    record {
      price = omega arith;
      own = All-nil (λ (item : Item). is_up_of slot item ≡ true);
      apart = λ i j d below within. absurd (omega (arith, below, within));
    }

single-of-slot : (slot column : ℕ) → IsOfSlot slot (Up slot column ∷ [])
single-of-slot slot column =
    record {
      price = omega arith;
      own =
          All-cons (λ (item : Item). is_up_of slot item ≡ true) (Up slot column) [] ((Decides-eqb slot slot).1 refl)
          (All-nil (λ (item : Item). is_up_of slot item ≡ true));
      apart = λ i j d below within. absurd (omega (arith, below, within));
    }

needs-of-slot : (slot at' column : ℕ) (here : Bool) (need : Option Item) → (here ≡ true → at' ≡ slot) → ForSome need (λ item. item ≡ Up at' column) → All (IsOfSlot slot) (needs_at slot here need)
needs-of-slot slot at' column false need same h = All-nil (IsOfSlot slot)
needs-of-slot slot at' column true None same h = All-nil (IsOfSlot slot)
needs-of-slot slot at' column true (Some item) same h =
    let is : item ≡ Up slot column = h item refl ∙ ap (λ s. Up s column) (same refl) in
    All-cons (IsOfSlot slot) (item ∷ []) [] (rw is (single-of-slot slot column)) (All-nil (IsOfSlot slot))

edge-of-slot : (n slot : ℕ) (edge : TaskEdge) → EdgeLimits n edge → All (IsOfSlot slot) (edge_orders slot edge)
edge-of-slot n slot edge l =
    All-append (IsOfSlot slot) (needs_at slot (edge.left == slot) edge.left_need) (needs_at slot (edge.right == slot) edge.right_need)
    (needs-of-slot slot edge.left edge.left_column (edge.left == slot) edge.left_need (eqb-true edge.left slot) l.left_item)
    (needs-of-slot slot edge.right edge.right_column (edge.right == slot) edge.right_need (eqb-true edge.right slot) l.right_item)

edges-of-slot : (n slot : ℕ) (edges : List TaskEdge) → All (EdgeLimits n) edges → All (IsOfSlot slot) (flat_map (edge_orders slot) edges)
edges-of-slot n slot [] l = All-nil (IsOfSlot slot)
edges-of-slot n slot (e ∷ es) l =
    All-append (IsOfSlot slot) (edge_orders slot e) (flat_map (edge_orders slot) es)
    (edge-of-slot n slot e (All-head (EdgeLimits n) e es l)) (edges-of-slot n slot es (All-tail (EdgeLimits n) e es l))

own-of-slot : (slot : ℕ) (order : Order) → AreApart order → All (IsOfSlot slot) (own_list slot order)
own-of-slot slot [] a = All-nil (IsOfSlot slot)
own-of-slot slot (x ∷ xs) a =
    elim (cases_Bool (list_all (is_up_of slot) (x ∷ xs))) [
      | inl own ↦
          rw own
          (All-cons (IsOfSlot slot) (x ∷ xs) [] (record { price = omega arith; own = AllPass-from_list_all (is_up_of slot) (x ∷ xs) own; apart = a })
          (All-nil (IsOfSlot slot)))
      | inr other ↦ rw other (All-nil (IsOfSlot slot))
    ]

All-without_repeats : (P : Order → Type 0) (before xs : List Order) → All P xs → All P (without_repeats before xs)
All-without_repeats P before [] h = All-nil P
All-without_repeats P before (x ∷ xs) h =
    elim (cases_Bool (list_any (is_same_order x) before)) [
      | inl known ↦ rw known (All-without_repeats P before xs (All-tail P x xs h))
      | inr new ↦
          rw new (All-cons P x (without_repeats (before ++ x ∷ []) xs) (All-head P x xs h) (All-without_repeats P (before ++ x ∷ []) xs (All-tail P x xs h)))
    ]

wanted-of : (P : Order → Type 0) (group : Option Order) (order : Order) → ForSome group P → P order → P (wanted_list group order)
wanted-of P None order h g = g
wanted-of P (Some group) order h g = h group refl

wanted-apart : (task : Task) → AreApart (wanted_list task.group task.order)
wanted-apart task =
    wanted-of AreApart task.group task.order (λ group is. (task.limits.group_list group is).list.apart) task.limits.order_list.apart

-- each order is of upward columns of the slot, and none of them stands twice
pub interesting_orders-of-slot : (task : Task) (slot : ℕ) → All (IsOfSlot slot) (interesting_orders task slot)
unfolding interesting_orders
interesting_orders-of-slot task slot =
    let wanted = wanted_list task.group task.order in
    All-without_repeats (IsOfSlot slot) [] ([] ∷ (flat_map (edge_orders slot) task.edges ++ own_list slot wanted))
    (All-cons (IsOfSlot slot) [] (flat_map (edge_orders slot) task.edges ++ own_list slot wanted) (none-of-slot slot)
    (All-append (IsOfSlot slot) (flat_map (edge_orders slot) task.edges) (own_list slot wanted)
    (edges-of-slot task.slots slot task.edges task.limits.each_edge)
    (own-of-slot slot wanted (wanted-apart task))))

-- ## What is among the interesting orders

without_repeats-keeps : (o : Order) (before xs : List Order) → list_any (is_same_order o) xs ≡ true → (list_any (is_same_order o) before ≡ true) ⊎ (list_any (is_same_order o) (without_repeats before xs) ≡ true)
without_repeats-keeps o before [] h = absurd (false≢true h)
without_repeats-keeps o before (x ∷ xs) h =
    elim (cases_Bool (list_any (is_same_order x) before)) [
      | inl known ↦
          elim (or_cases (is_same_order o x) (list_any (is_same_order o) xs) h) [
            | inl here ↦
                let same : x ≡ o = sym ((is_same_order-decides o x).0 here) in
                inl (subst (λ t. list_any (is_same_order t) before ≡ true) same known)
            | inr later ↦
                elim (without_repeats-keeps o before xs later) [
                  | inl before' ↦ inl before'
                  | inr kept ↦ inr (rw known kept)
                ]
          ]
      | inr new ↦
          let rest = without_repeats (before ++ x ∷ []) xs in
          elim (cases_Bool (is_same_order o x)) [
            | inl here ↦ inr (rw new (or_left (is_same_order o x) (list_any (is_same_order o) rest) here))
            | inr other ↦
                elim (or_cases (is_same_order o x) (list_any (is_same_order o) xs) h) [
                  | inl here ↦ absurd (false≢true (sym other ∙ here))
                  | inr later ↦
                      elim (without_repeats-keeps o (before ++ x ∷ []) xs later) [
                        | inl among ↦
                            let parts : (list_any (is_same_order o) before || list_any (is_same_order o) (x ∷ [])) ≡ true = sym (list_any-append (is_same_order o) before (x ∷ [])) ∙ among in
                            elim (or_cases (list_any (is_same_order o) before) (list_any (is_same_order o) (x ∷ [])) parts) [
                              | inl before' ↦ inl before'
                              | inr last ↦
                                  elim (or_cases (is_same_order o x) false last) [
                                    | inl here ↦ absurd (false≢true (sym other ∙ here))
                                    | inr none ↦ absurd (false≢true none)
                                  ]
                            ]
                        | inr kept ↦ inr (rw new (or_right (is_same_order o x) (list_any (is_same_order o) rest) kept))
                      ]
                ]
          ]
    ]

-- an order that stands among those that are gathered is kept
gathered-among : (task : Task) (slot : ℕ) (o : Order) → list_any (is_same_order o) ([] ∷ (flat_map (edge_orders slot) task.edges ++ own_list slot (wanted_list task.group task.order))) ≡ true → list_any (is_same_order o) (interesting_orders task slot) ≡ true
unfolding interesting_orders
gathered-among task slot o h =
    elim (without_repeats-keeps o [] ([] ∷ (flat_map (edge_orders slot) task.edges ++ own_list slot (wanted_list task.group task.order))) h) [
      | inl none ↦ absurd (false≢true none)
      | inr kept ↦ kept
    ]

-- the empty order is among them
pub none-among : (task : Task) (slot : ℕ) → list_any (is_same_order []) (interesting_orders task slot) ≡ true
none-among task slot = gathered-among task slot [] refl

any-flat_map : (o : Order) (slot : ℕ) (edges : List TaskEdge) → list_any (λ edge. list_any (is_same_order o) (edge_orders slot edge)) edges ≡ true → list_any (is_same_order o) (flat_map (edge_orders slot) edges) ≡ true
any-flat_map o slot [] h = absurd (false≢true h)
any-flat_map o slot (e ∷ es) h =
    rw (list_any-append (is_same_order o) (edge_orders slot e) (flat_map (edge_orders slot) es))
    (elim (or_cases (list_any (is_same_order o) (edge_orders slot e)) (list_any (λ edge. list_any (is_same_order o) (edge_orders slot edge)) es) h) [
      | inl here ↦ or_left (list_any (is_same_order o) (edge_orders slot e)) (list_any (is_same_order o) (flat_map (edge_orders slot) es)) here
      | inr later ↦
          or_right (list_any (is_same_order o) (edge_orders slot e)) (list_any (is_same_order o) (flat_map (edge_orders slot) es)) (any-flat_map o slot es later)
    ])

-- an order of an edge at the slot is among them
pub edge-among : (task : Task) (slot k : ℕ) (edge : TaskEdge) (o : Order) → slice_get task.edges k ≡ Some edge → list_any (is_same_order o) (edge_orders slot edge) ≡ true → list_any (is_same_order o) (interesting_orders task slot) ≡ true
edge-among task slot k edge o found h =
    let gathered : list_any (is_same_order o) (flat_map (edge_orders slot) task.edges) ≡ true = any-flat_map o slot task.edges (any_passes_from_place (λ edge. list_any (is_same_order o) (edge_orders slot edge)) task.edges k edge found h) in
    let own = own_list slot (wanted_list task.group task.order) in
    let all : list_any (is_same_order o) (flat_map (edge_orders slot) task.edges ++ own) ≡ true =
    list_any-append (is_same_order o) (flat_map (edge_orders slot) task.edges) own
    ∙ or_left (list_any (is_same_order o) (flat_map (edge_orders slot) task.edges)) (list_any (is_same_order o) own) gathered in
    gathered-among task slot o (or_right (is_same_order o []) (list_any (is_same_order o) (flat_map (edge_orders slot) task.edges ++ own)) all)

-- the list to group by, or else to order by, is among them where it is of the slot alone
pub list-among : (task : Task) (slot : ℕ) → is_own_list slot (wanted_list task.group task.order) ≡ true → list_any (is_same_order (wanted_list task.group task.order)) (interesting_orders task slot) ≡ true
list-among task slot own =
    let o = wanted_list task.group task.order in
    let alone : own_list slot o ≡ o ∷ [] = rw own in
    let here : list_any (is_same_order o) (own_list slot o) ≡ true = ap (list_any (is_same_order o)) alone ∙ or_left (is_same_order o o) false (order_same o) in
    let all : list_any (is_same_order o) (flat_map (edge_orders slot) task.edges ++ own_list slot o) ≡ true =
    list_any-append (is_same_order o) (flat_map (edge_orders slot) task.edges) (own_list slot o)
    ∙ or_right (list_any (is_same_order o) (flat_map (edge_orders slot) task.edges)) (list_any (is_same_order o) (own_list slot o)) here in
    gathered-among task slot o (or_right (is_same_order o []) (list_any (is_same_order o) (flat_map (edge_orders slot) task.edges ++ own_list slot o)) all)

-- ## What an operator asks of a slot's order is among the slot's interesting orders

need-in : (slot at' column : ℕ) (need : Option Item) → ForSome need (λ item. item ≡ Up at' column) → list_all (is_up_of slot) (need_order need) ≡ true → (need_order need ≡ []) ⊎ (list_any (is_same_order (need_order need)) (needs_at slot (at' == slot) need) ≡ true)
need-in slot at' column None h own = inl refl
need-in slot at' column (Some item) h own =
    let is : item ≡ Up at' column = h item refl in
    let first : is_up_of slot item ≡ true = (and_parts (is_up_of slot item) true own).0 in
    let here : (at' == slot) ≡ true = sym (ap (is_up_of slot) is) ∙ first in
    let alone : list_any (is_same_order (item ∷ [])) (needs_at slot true (Some item)) ≡ true = or_left (is_same_order (item ∷ []) (item ∷ [])) false (order_same (item ∷ [])) in
    inr (subst (λ (b : Bool). list_any (is_same_order (item ∷ [])) (needs_at slot b (Some item)) ≡ true) (sym here) alone)

edge-in : (n slot : ℕ) (edge : TaskEdge) (left : Bool) → EdgeLimits n edge → list_all (is_up_of slot) (need_order (cond left edge.left_need edge.right_need)) ≡ true → (need_order (cond left edge.left_need edge.right_need) ≡ []) ⊎ (list_any (is_same_order (need_order (cond left edge.left_need edge.right_need))) (edge_orders slot edge) ≡ true)
edge-in n slot edge true l own =
    let o = need_order edge.left_need in
    elim (need-in slot edge.left edge.left_column edge.left_need l.left_item own) [
      | inl none ↦ inl none
      | inr among ↦
          inr (list_any-append (is_same_order o) (needs_at slot (edge.left == slot) edge.left_need) (needs_at slot (edge.right == slot) edge.right_need)
          ∙ or_left (list_any (is_same_order o) (needs_at slot (edge.left == slot) edge.left_need)) (list_any (is_same_order o) (needs_at slot (edge.right == slot) edge.right_need)) among)
    ]
edge-in n slot edge false l own =
    let o = need_order edge.right_need in
    elim (need-in slot edge.right edge.right_column edge.right_need l.right_item own) [
      | inl none ↦ inl none
      | inr among ↦
          inr (list_any-append (is_same_order o) (needs_at slot (edge.left == slot) edge.left_need) (needs_at slot (edge.right == slot) edge.right_need)
          ∙ or_right (list_any (is_same_order o) (needs_at slot (edge.left == slot) edge.left_need)) (list_any (is_same_order o) (needs_at slot (edge.right == slot) edge.right_need)) among)
    ]

edge-limits : (task : Task) (k : ℕ) (edge : TaskEdge) → slice_get task.edges k ≡ Some edge → EdgeLimits task.slots edge
edge-limits task k edge found =
    subst (EdgeLimits task.slots) (get_or_from_slice_get task.edges k edge edge found)
    (task.limits.each_edge k edge (slice_get_within task.edges k edge found))

need-among : (task : Task) (slot : ℕ) (order : Order) → IsNeed task order → list_all (is_up_of slot) order ≡ true → (order ≡ []) ⊎ (list_any (is_same_order order) (interesting_orders task slot) ≡ true)
need-among task slot order need own =
    let left = has_slot need.set need.edge.left in
    let o = need_order (cond left need.edge.left_need need.edge.right_need) in
    let is : order ≡ o = need.needed in
    elim (edge-in task.slots slot need.edge left (edge-limits task need.number need.edge need.found) (subst (λ t. list_all (is_up_of slot) t ≡ true) is own)) [
      | inl none ↦ inl (is ∙ none)
      | inr among ↦
          inr (subst (λ t. list_any (is_same_order t) (interesting_orders task slot) ≡ true) (sym is) (edge-among task slot need.number need.edge o need.found among))
    ]

own-some : (slot : ℕ) (order : Order) → list_all (is_up_of slot) order ≡ true → (order ≡ []) ⊎ (is_own_list slot order ≡ true)
own-some slot [] own = inl refl
own-some slot (x ∷ xs) own = inr own

list-in : (task : Task) (slot : ℕ) (order : Order) → order ≡ wanted_list task.group task.order → list_all (is_up_of slot) order ≡ true → (order ≡ []) ⊎ (list_any (is_same_order order) (interesting_orders task slot) ≡ true)
list-in task slot order is own =
    elim (own-some slot order own) [
      | inl none ↦ inl none
      | inr listed ↦
          inr (subst (λ t. list_any (is_same_order t) (interesting_orders task slot) ≡ true) (sym is) (list-among task slot (subst (λ t. is_own_list slot t ≡ true) is listed)))
    ]

-- a front of upward columns of one slot is among the slot's interesting orders
pub front-among : (task : Task) (slot : ℕ) (order : Order) → IsFront task order → list_all (is_up_of slot) order ≡ true → list_any (is_same_order order) (interesting_orders task slot) ≡ true
front-among task slot order front own =
    let none : order ≡ [] → list_any (is_same_order order) (interesting_orders task slot) ≡ true = λ e. subst (λ t. list_any (is_same_order t) (interesting_orders task slot) ≡ true) (sym e) (none-among task slot) in
    elim front [
      | inl need ↦ elim (need-among task slot order need own) [ inl empty ↦ none empty | inr among ↦ among ]
      | inr is ↦ elim (list-in task slot order is own) [ inl empty ↦ none empty | inr among ↦ among ]
    ]

-- An order that begins with each interesting order with which one of the slot's begins also begins with each front with
-- which that one begins.
pub front-served : (task : Task) (slot : ℕ) (o r order : Order) → list_all (is_up_of slot) o ≡ true → ServesLike task slot o r → IsFront task order → BeginsWith o order → BeginsWith r order
front-served task slot o r order own serves front begins =
    All-among (λ q. BeginsWith o q → BeginsWith r q) order (interesting_orders task slot) serves
    (front-among task slot order front (All-front (is_up_of slot) o order own begins)) begins

-- ## Slots past those of the task have no interesting order but the empty one

needs-past : (slot at' : ℕ) (need : Option Item) → at' < slot → needs_at slot (at' == slot) need ≡ []
needs-past slot at' need below =
    elim (cases_Bool (at' == slot)) [
      | inl same ↦ let equal : at' ≡ slot = eqb-true at' slot same in absurd (omega (arith, equal, below))
      | inr other ↦ ap (λ (b : Bool). needs_at slot b need) other
    ]

edges-past : (n slot : ℕ) (edges : List TaskEdge) → n ≤ slot → All (EdgeLimits n) edges → flat_map (edge_orders slot) edges ≡ []
edges-past n slot [] past limits = refl
edges-past n slot (e ∷ es) past limits =
    let l = All-head (EdgeLimits n) e es limits in
    let left = needs-past slot e.left e.left_need (omega (arith, past, l.left_slot)) in
    let right = needs-past slot e.right e.right_need (omega (arith, past, l.right_slot)) in
    let rest = edges-past n slot es past (All-tail (EdgeLimits n) e es limits) in
    ap (λ t. (t ++ needs_at slot (e.right == slot) e.right_need) ++ flat_map (edge_orders slot) es) left
    ∙ (ap (λ t. t ++ flat_map (edge_orders slot) es) right ∙ rest)

item-past : (n slot : ℕ) (item : Item) → n ≤ slot → is_within_slots n item ≡ true → is_up_of slot item ≡ true → ⊥
item-past n slot (Up s c) past within own =
    let below : s < n = ltb-true s n within in
    let same : s ≡ slot = eqb-true s slot own in
    omega (arith, past, below, same)
item-past n slot (Down s c) past within own = false≢true own
item-past n slot (Made k) past within own = false≢true own

own-past : (n slot : ℕ) (order : Order) → n ≤ slot → AreWithinSlots n order → own_list slot order ≡ []
own-past n slot [] past within = refl
own-past n slot (x ∷ xs) past within =
    elim (cases_Bool (list_all (is_up_of slot) (x ∷ xs))) [
      | inl own ↦ absurd (item-past n slot x past (All-head (λ item. is_within_slots n item ≡ true) x xs within) (and_parts (is_up_of slot x) (list_all (is_up_of slot) xs) own).0)
      | inr other ↦ rw other refl
    ]

wanted-within : (task : Task) → AreWithinSlots task.slots (wanted_list task.group task.order)
wanted-within task =
    wanted-of (AreWithinSlots task.slots) task.group task.order (λ group is. (task.limits.group_list group is).list.within) task.limits.order_list.within

pub interesting_orders-past : (task : Task) (slot : ℕ) → task.slots ≤ slot → interesting_orders task slot ≡ [] ∷ []
unfolding interesting_orders
interesting_orders-past task slot past =
    let edges = edges-past task.slots slot task.edges past task.limits.each_edge in
    let own = own-past task.slots slot (wanted_list task.group task.order) past (wanted-within task) in
    let gathered : flat_map (edge_orders slot) task.edges ++ own_list slot (wanted_list task.group task.order) ≡ [] = ap (λ t. t ++ own_list slot (wanted_list task.group task.order)) edges ∙ own in
    ap (λ t. without_repeats [] ([] ∷ t)) gathered

-- an order of such a slot is the empty one
pub past-none : (task : Task) (slot : ℕ) (o : Order) → task.slots ≤ slot → list_any (is_same_order o) (interesting_orders task slot) ≡ true → o ≡ []
past-none task slot o past among =
    let alone : list_any (is_same_order o) ([] ∷ []) ≡ true = subst (λ t. list_any (is_same_order o) t ≡ true) (interesting_orders-past task slot past) among in
    elim (or_cases (is_same_order o []) false alone) [
      | inl same ↦ (is_same_order-decides o []).0 same
      | inr none ↦ absurd (false≢true none)
    ]
