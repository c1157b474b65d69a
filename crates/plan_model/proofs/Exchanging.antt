-- A valid plan's cost splits into its internal cost and its leaves' prices, and its leaves can be exchanged.
use Rattle.std.proofs.Common.{◌≡◌, inl, inr, ℕ, ◌+◌, ◌^◌, bit_and, Bool, true, false, cond, [], length, All, Option, Some, None, refl, sym, ap, ◌∙◌, subst, arith}
use Rattle.std.specs.List.{list_all}
use Rattle.std.proofs.lemmas.Bool.{cases_Bool, cases_eq, cases_lt, false≢true}
use Rattle.std.proofs.lemmas.List.Sums.{list_all-from_AllPass}
use Rattle.std.proofs.lemmas.Option.{slice_get-get_or, slice_get_past}
use Rattle.adv_base.specs.Items.{Order, BeginsWith, is_up_of}
use Rattle.adv_base.specs.Offers.{Offer, OfferTable}
use Rattle.adv_base.specs.Sets.{has_slot}
use Rattle.plan_model.specs.declared.plan.GroupStep.{GroupStep}
use Rattle.plan_model.specs.declared.plan.GroupStep.TheVariants.{Nothing, Sorted, Hashed}
use Rattle.plan_model.specs.declared.plan.Plan.{Plan}
use Rattle.plan_model.specs.declared.plan.Plan.TheVariants.{Leaf, Sort', Merge', Hash'}
use Rattle.plan_model.specs.declared.plan.Whole.{Whole}
use Rattle.plan_model.specs.declared.task.Task.{Task}
use Rattle.adv_base.specs.OfferTables.{price_at, order_at, OfferTableLimits}
use Rattle.plan_model.specs.Orders.{wanted_list}
use Rattle.plan_model.specs.Plans.{covers, delivers, side_need, is_column_of, Merges, IsValid, FitsGroup, group_order, IsWhole, body_sorts}
use Rattle.plan_model.specs.Costs.{plan_cost, whole_cost}
use Rattle.plan_model.specs.Exchange.{internal, whole_internal, choice, leaf_price, sum_over, sum_below, exchange, exchange_whole, Replaces, AreReplaced, IsFront, IsExchanged, IsWholeExchanged}
use Rattle.plan_model.proofs.OrderLaws.{front-served}
use Rattle.plan_model.proofs.SetLaws.{has-left, has-right, has-right-where, has-other, has-apart_right, has-single, has-all, sum_over-joined, sum_over-single, sum_over-all}

-- ## The cost splits

pub cost-splits : (sorts : Bool) (task : Task) (table : OfferTable) (plan : Plan) → IsValid sorts task table plan → plan_cost task table plan ≡ internal task plan + sum_over (covers plan) (leaf_price table plan) task.slots
cost-splits sorts task table (Leaf slot offer) v =
    let single : sum_over (2 ^ slot) (leaf_price table (Leaf slot offer)) task.slots ≡ price_at table slot offer = sum_over-single slot (leaf_price table (Leaf slot offer)) task.slots v.0 in
    omega (arith, single)
cost-splits sorts task table (Sort' order p input) v =
    let below = cost-splits false task table input v.1 in
    omega (arith, below)
cost-splits sorts task table (Merge' edge p left q right) v =
    let joined : sum_over (covers left + covers right) (leaf_price table (Merge' edge p left q right)) task.slots ≡ sum_over (covers left) (leaf_price table left) task.slots + sum_over (covers right) (leaf_price table right) task.slots =
    sum_over-joined (covers left) (covers right) (price_at table) (choice left) (choice right) task.slots v.2 in
    omega (arith, joined, cost-splits true task table left v.0, cost-splits true task table right v.1)
cost-splits sorts task table (Hash' p left q right) v =
    let joined : sum_over (covers left + covers right) (leaf_price table (Hash' p left q right)) task.slots ≡ sum_over (covers left) (leaf_price table left) task.slots + sum_over (covers right) (leaf_price table right) task.slots =
    sum_over-joined (covers left) (covers right) (price_at table) (choice left) (choice right) task.slots v.2 in
    omega (arith, joined, cost-splits false task table left v.0, cost-splits false task table right v.1)

pub whole-cost-splits : (task : Task) (table : OfferTable) (whole : Whole) → IsWhole task table whole → whole_cost task table whole ≡ whole_internal task whole + sum_below (leaf_price table whole.body) task.slots
whole-cost-splits task table whole v =
    let body = cost-splits (body_sorts whole.group) task table whole.body v.body_valid in
    let all : sum_over (covers whole.body) (leaf_price table whole.body) task.slots ≡ sum_below (leaf_price table whole.body) task.slots =
    sum_over-all (covers whole.body) (leaf_price table whole.body) task.slots (λ slot below. ap (λ set. has_slot set slot) v.covers_all ∙ has-all task.slots slot below) in
    omega (arith, body, all)

-- ## What the tree alone says

pub covers-exchange : (chosen : ℕ → ℕ) (plan : Plan) → covers (exchange chosen plan) ≡ covers plan
covers-exchange chosen (Leaf slot offer) = refl
covers-exchange chosen (Sort' order p input) = covers-exchange chosen input
covers-exchange chosen (Merge' edge p left q right) = rw (covers-exchange chosen left, covers-exchange chosen right) refl
covers-exchange chosen (Hash' p left q right) = rw (covers-exchange chosen left, covers-exchange chosen right) refl

pub internal-exchange : (task : Task) (chosen : ℕ → ℕ) (plan : Plan) → internal task (exchange chosen plan) ≡ internal task plan
internal-exchange task chosen (Leaf slot offer) = refl
internal-exchange task chosen (Sort' order p input) = rw (internal-exchange task chosen input, covers-exchange chosen input) refl
internal-exchange task chosen (Merge' edge p left q right) =
    rw (internal-exchange task chosen left, internal-exchange task chosen right, covers-exchange chosen left, covers-exchange chosen right) refl
internal-exchange task chosen (Hash' p left q right) =
    rw (internal-exchange task chosen left, internal-exchange task chosen right, covers-exchange chosen left, covers-exchange chosen right) refl

pub whole-internal-exchange : (task : Task) (chosen : ℕ → ℕ) (whole : Whole) → whole_internal task (exchange_whole chosen whole) ≡ whole_internal task whole
whole-internal-exchange task chosen whole = rw (internal-exchange task chosen whole.body, covers-exchange chosen whole.body) refl

pub single-is : (own slot : ℕ) → has_slot (2 ^ own) slot ≡ true → own ≡ slot
single-is own slot has =
    elim (cases_eq own slot) [
      | inl same ↦ same
      | inr other ↦ absurd (false≢true (sym (has-other own slot (λ e. other (sym e))) ∙ has))
    ]

choice-joined : (chosen : ℕ → ℕ) (left right : Plan) (slot : ℕ) → bit_and (covers left) (covers right) ≡ 0 → has_slot (covers left + covers right) slot ≡ true → (has_slot (covers left) slot ≡ true → choice (exchange chosen left) slot ≡ chosen slot) → (has_slot (covers right) slot ≡ true → choice (exchange chosen right) slot ≡ chosen slot) → cond (has_slot (covers (exchange chosen left)) slot) (choice (exchange chosen left) slot) (choice (exchange chosen right) slot) ≡ chosen slot
choice-joined chosen left right slot apart has l r =
    ap (λ set. cond (has_slot set slot) (choice (exchange chosen left) slot) (choice (exchange chosen right) slot)) (covers-exchange chosen left)
    ∙ elim (cases_Bool (has_slot (covers left) slot)) [
      | inl here ↦ ap (λ (b : Bool). cond b (choice (exchange chosen left) slot) (choice (exchange chosen right) slot)) here ∙ l here
      | inr other ↦
          ap (λ (b : Bool). cond b (choice (exchange chosen left) slot) (choice (exchange chosen right) slot)) other
          ∙ r (has-right-where (covers left) (covers right) slot apart has other)
    ]

-- a leaf of the exchanged plan is the chosen offer
pub choice-exchange : (sorts : Bool) (task : Task) (table : OfferTable) (chosen : ℕ → ℕ) (plan : Plan) (slot : ℕ) → IsValid sorts task table plan → has_slot (covers plan) slot ≡ true → choice (exchange chosen plan) slot ≡ chosen slot
choice-exchange sorts task table chosen (Leaf own offer) slot v has =
    ap chosen (single-is own slot has)
choice-exchange sorts task table chosen (Sort' order p input) slot v has = choice-exchange false task table chosen input slot v.1 has
choice-exchange sorts task table chosen (Merge' edge p left q right) slot v has =
    choice-joined chosen left right slot v.2 has (choice-exchange true task table chosen left slot v.0) (choice-exchange true task table chosen right slot v.1)
choice-exchange sorts task table chosen (Hash' p left q right) slot v has =
    choice-joined chosen left right slot v.2 has (choice-exchange false task table chosen left slot v.0) (choice-exchange false task table chosen right slot v.1)

-- ## Leaf by leaf

abbrev EachReplaced : Task → OfferTable → OfferTable → (ℕ → ℕ) → Plan → Type 0
EachReplaced task old new chosen (Leaf slot offer) = Replaces task slot (order_at old slot offer) new (chosen slot)
EachReplaced task old new chosen (Sort' order p input) = EachReplaced task old new chosen input
EachReplaced task old new chosen (Merge' edge p left q right) = EachReplaced task old new chosen left × EachReplaced task old new chosen right
EachReplaced task old new chosen (Hash' p left q right) = EachReplaced task old new chosen left × EachReplaced task old new chosen right

-- the leaves of the left side, and of the right
left-replaced : (task : Task) (old new : OfferTable) (chosen : ℕ → ℕ) (left right : Plan) → bit_and (covers left) (covers right) ≡ 0 → ((slot : ℕ) → has_slot (covers left + covers right) slot ≡ true → Replaces task slot (order_at old slot (cond (has_slot (covers left) slot) (choice left slot) (choice right slot))) new (chosen slot)) → AreReplaced task old new chosen left
left-replaced task old new chosen left right apart h slot has =
    subst (λ (b : Bool). Replaces task slot (order_at old slot (cond b (choice left slot) (choice right slot))) new (chosen slot)) has
    (h slot (has-left (covers left) (covers right) slot apart has))

right-replaced : (task : Task) (old new : OfferTable) (chosen : ℕ → ℕ) (left right : Plan) → bit_and (covers left) (covers right) ≡ 0 → ((slot : ℕ) → has_slot (covers left + covers right) slot ≡ true → Replaces task slot (order_at old slot (cond (has_slot (covers left) slot) (choice left slot) (choice right slot))) new (chosen slot)) → AreReplaced task old new chosen right
right-replaced task old new chosen left right apart h slot has =
    subst (λ (b : Bool). Replaces task slot (order_at old slot (cond b (choice left slot) (choice right slot))) new (chosen slot))
    (has-apart_right (covers left) (covers right) slot apart has)
    (h slot (has-right (covers left) (covers right) slot apart has))

each-replaced : (sorts : Bool) (task : Task) (old new : OfferTable) (chosen : ℕ → ℕ) (plan : Plan) → IsValid sorts task old plan → AreReplaced task old new chosen plan → EachReplaced task old new chosen plan
each-replaced sorts task old new chosen (Leaf slot offer) v h = h slot (has-single slot)
each-replaced sorts task old new chosen (Sort' order p input) v h = each-replaced false task old new chosen input v.1 h
each-replaced sorts task old new chosen (Merge' edge p left q right) v h = (
  each-replaced true task old new chosen left v.0 (left-replaced task old new chosen left right v.2 h),
  each-replaced true task old new chosen right v.1 (right-replaced task old new chosen left right v.2 h),
)
each-replaced sorts task old new chosen (Hash' p left q right) v h = (
  each-replaced false task old new chosen left v.0 (left-replaced task old new chosen left right v.2 h),
  each-replaced false task old new chosen right v.1 (right-replaced task old new chosen left right v.2 h),
)

-- ## What the exchanged plan serves

order_at-own : (table : OfferTable) (slot offer : ℕ) → OfferTableLimits table → list_all (is_up_of slot) (order_at table slot offer) ≡ true
order_at-own table slot offer limits =
    elim (cases_lt offer (length (table slot))) [
      | inl within ↦
          let none : Offer = ([], 0) in
          rw (slice_get-get_or (table slot) offer none within) (list_all-from_AllPass (is_up_of slot) _ (limits slot offer none within).own)
      | inr past ↦ rw (slice_get_past (table slot) offer past) refl
    ]

pub serves-exchange : (task : Task) (old new : OfferTable) (chosen : ℕ → ℕ) (plan : Plan) → OfferTableLimits old → EachReplaced task old new chosen plan → (order : Order) → IsFront task order → BeginsWith (delivers old plan) order → BeginsWith (delivers new (exchange chosen plan)) order
serves-exchange task old new chosen (Leaf slot offer) limits h order front begins =
    front-served task slot (order_at old slot offer) (order_at new slot (chosen slot)) order (order_at-own old slot offer limits) h.serves front begins
serves-exchange task old new chosen (Sort' o p input) limits h order front begins = begins
serves-exchange task old new chosen (Merge' edge p left q right) limits h order front begins = serves-exchange task old new chosen left limits h.0 order front begins
serves-exchange task old new chosen (Hash' p left q right) limits h order front begins = begins

-- ## The exchanged plan is valid

merges-exchange : (task : Task) (number a b : ℕ) (o r o' r' : Order) → ((order : Order) → IsFront task order → BeginsWith o order → BeginsWith o' order) → ((order : Order) → IsFront task order → BeginsWith r order → BeginsWith r' order) → Merges task number a b o r → Merges task number a b o' r'
merges-exchange task number a b o r o' r' left right m =
    record {
      edge = m.edge;
      found = m.found;
      crossing = m.crossing;
      left_begins = left (side_need m.edge a) (inl (record { number = number; edge = m.edge; found = m.found; set = a; needed = refl })) m.left_begins;
      right_begins = right (side_need m.edge b) (inl (record { number = number; edge = m.edge; found = m.found; set = b; needed = refl })) m.right_begins;
    }

valid-exchange : (sorts : Bool) (task : Task) (old new : OfferTable) (chosen : ℕ → ℕ) (plan : Plan) → OfferTableLimits old → IsValid sorts task old plan → EachReplaced task old new chosen plan → IsValid sorts task new (exchange chosen plan)
valid-exchange sorts task old new chosen (Leaf slot offer) limits v h = (v.0, h.exists)
valid-exchange sorts task old new chosen (Sort' order p input) limits v h =
    (v.0, valid-exchange false task old new chosen input limits v.1 h, subst (λ (set : ℕ). All (λ item. is_column_of set item ≡ true) order) (sym (covers-exchange chosen input)) v.2)
valid-exchange sorts task old new chosen (Merge' edge p left q right) limits v h =
    rw (covers-exchange chosen left, covers-exchange chosen right) (
      valid-exchange true task old new chosen left limits v.0 h.0,
      valid-exchange true task old new chosen right limits v.1 h.1,
      v.2,
      merges-exchange task edge (covers left) (covers right) (delivers old left) (delivers old right) (delivers new (exchange chosen left)) (delivers new (exchange chosen right))
          (serves-exchange task old new chosen left limits h.0) (serves-exchange task old new chosen right limits h.1) v.3,
    )
valid-exchange sorts task old new chosen (Hash' p left q right) limits v h =
    rw (covers-exchange chosen left, covers-exchange chosen right)
    (valid-exchange false task old new chosen left limits v.0 h.0, valid-exchange false task old new chosen right limits v.1 h.1, v.2, v.3)

pub leaves-exchange : (sorts : Bool) (task : Task) (old new : OfferTable) (chosen : ℕ → ℕ) (plan : Plan) → OfferTableLimits old → IsValid sorts task old plan → AreReplaced task old new chosen plan → IsExchanged sorts task old new plan (exchange chosen plan)
leaves-exchange sorts task old new chosen plan limits v h =
    let each = each-replaced sorts task old new chosen plan v h in
    record {
      valid = valid-exchange sorts task old new chosen plan limits v each;
      covers_same = covers-exchange chosen plan;
      costs_same = internal-exchange task chosen plan;
      serves_same = serves-exchange task old new chosen plan limits each;
    }

-- ## Whole plans

group-exchange : (task : Task) (group : Option Order) (step : GroupStep) (o r : Order) → wanted_list task.group task.order ≡ wanted_list group task.order → ((order : Order) → IsFront task order → BeginsWith o order → BeginsWith r order) → FitsGroup group step o → FitsGroup group step r
group-exchange task None Nothing o r same serves fits = fits
group-exchange task None Sorted o r same serves fits = fits
group-exchange task None Hashed o r same serves fits = fits
group-exchange task (Some group) Nothing o r same serves fits = fits
group-exchange task (Some group) Sorted o r same serves fits = serves group (inr (sym same)) fits
group-exchange task (Some group) Hashed o r same serves fits = fits

order-exchange : (task : Task) (group : Option Order) (step : GroupStep) (o r : Order) → wanted_list task.group task.order ≡ wanted_list group task.order → ((order : Order) → IsFront task order → BeginsWith o order → BeginsWith r order) → FitsGroup group step o → BeginsWith (group_order group step o) task.order → BeginsWith (group_order group step r) task.order
order-exchange task None Nothing o r same serves fits ordered = serves task.order (inr (sym same)) ordered
order-exchange task None Sorted o r same serves fits ordered = absurd fits
order-exchange task None Hashed o r same serves fits ordered = absurd fits
order-exchange task (Some group) Nothing o r same serves fits ordered = absurd fits
order-exchange task (Some group) Sorted o r same serves fits ordered = ordered
order-exchange task (Some group) Hashed o r same serves fits ordered = ordered

final-exchange : (task : Task) (group : Option Order) (step : GroupStep) (last : Bool) (o r : Order) → wanted_list task.group task.order ≡ wanted_list group task.order → ((order : Order) → IsFront task order → BeginsWith o order → BeginsWith r order) → FitsGroup group step o → BeginsWith (cond last task.order (group_order group step o)) task.order → BeginsWith (cond last task.order (group_order group step r)) task.order
final-exchange task group step true o r same serves fits ordered = ordered
final-exchange task group step false o r same serves fits ordered = order-exchange task group step o r same serves fits ordered

pub whole-exchange : (task : Task) (old new : OfferTable) (chosen : ℕ → ℕ) (whole : Whole) → OfferTableLimits old → IsWhole task old whole → AreReplaced task old new chosen whole.body → IsWholeExchanged task new whole (exchange_whole chosen whole)
whole-exchange task old new chosen whole limits v h =
    let body = leaves-exchange (body_sorts whole.group) task old new chosen whole.body limits v.body_valid h in
    record {
      valid =
          record {
            body_valid = body.valid;
            covers_all = body.covers_same ∙ v.covers_all;
            group_fits = group-exchange task task.group whole.group (delivers old whole.body) (delivers new (exchange chosen whole.body)) refl body.serves_same v.group_fits;
            sorts_by_something = v.sorts_by_something;
            ordered = final-exchange task task.group whole.group whole.final_sort (delivers old whole.body) (delivers new (exchange chosen whole.body)) refl body.serves_same v.group_fits v.ordered;
          };
      costs_same = whole-internal-exchange task chosen whole;
    }
