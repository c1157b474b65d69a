-- What offering the offers of a slot to the cells of a row gives.
use Rattle.std.proofs.Common.{◌≡◌, ℕ, ◌^◌, ◌<◌, ◌≤◌, inl, inr, Bool, true, false, List, [], ◌∷◌, length, take, IsTrue, ◌↔◌, refl, sym, ap, ◌∙◌, subst, arith}
use Rattle.std.proofs.lemmas.Bool.{false≢true, and_parts, and_from, cases_Bool}
use Rattle.adv_base.specs.Items.{Order, BeginsWith, is_same_item}
use Rattle.adv_base.specs.Offers.{OfferTable}
use Rattle.plan_model.specs.declared.task.Task.{Task}
use Rattle.adv_base.specs.OfferTables.{price_at, order_at}
use Rattle.adv_base.proofs.ItemLaws.{same_item, same_from}
use Rattle.planner.specs.declared.front.Front.{Front}
use Rattle.planner.specs.declared.cell.Cell.{Cell}
use Rattle.planner.specs.Fronts.{asked, begins_test}
use Rattle.planner.specs.Cells.{cell_at, cost_at}
use Rattle.planner.specs.inner.Steps.{offered, better, AreOffers, OfferMade, SlotBound}
use Rattle.planner.proofs.Steps.{better_cases, better_lower}

pub begins_from_test : (o f : Order) → begins_test o f ≡ true → BeginsWith o f
begins_from_test o [] h = refl
begins_from_test [] (y ∷ ys) h = absurd (false≢true h)
begins_from_test (x ∷ xs) (y ∷ ys) h =
    let p = and_parts (is_same_item x y) (begins_test xs ys) h in
    let rest : take (length ys) xs ≡ ys = begins_from_test xs ys p.1 in
    let here : x ≡ y = same_item x y p.0 in
    cc

pub test_from_begins : (o f : Order) → BeginsWith o f → begins_test o f ≡ true
test_from_begins o [] h = refl
test_from_begins [] (y ∷ ys) h = cc
test_from_begins (x ∷ xs) (y ∷ ys) h =
    let whole : x ∷ take (length ys) xs ≡ y ∷ ys = h in
    let here : x ≡ y = cc in
    let rest : take (length ys) xs ≡ ys = cc in
    and_from (is_same_item x y) (begins_test xs ys) (same_from x y here) (test_from_begins xs ys rest)

-- any test of what an order begins with is this one
pub test_is : (o f : Order) (t : Bool) → (IsTrue t ↔ BeginsWith o f) → t ≡ begins_test o f
test_is o f true is = sym (test_from_begins o f (is.0 refl))
test_is o f false is =
    elim (cases_Bool (begins_test o f)) [
      | inl passes ↦ absurd (false≢true (is.1 (begins_from_test o f passes)))
      | inr fails ↦ sym fails
    ]

offered_lower_at : (cell : Cell) (b : Bool) (price : ℕ) → (offered cell b price).cost ≤ cell.cost
offered_lower_at cell true price = (better_lower cell price).0
offered_lower_at cell false price = omega arith

-- rows before and after one offer
module _ (task : Task) (table : OfferTable) (list : Order) (fronts : List Front) (set slot offer : ℕ) (old new : List Cell) (each : (f : ℕ) → f < length fronts → cell_at new f ≡ offered (cell_at old f) (begins_test (order_at table slot offer) (asked list fronts f)) (price_at table slot offer)) where
  pub offered_lower : (f : ℕ) → f < length fronts → cost_at new f ≤ cost_at old f
  offered_lower f within =
      subst (λ (x : Cell). x.cost ≤ cost_at old f) (sym (each f within)) (offered_lower_at (cell_at old f) (begins_test (order_at table slot offer) (asked list fronts f)) (price_at table slot offer))

  pub offered_bound : (f : ℕ) → f < length fronts → BeginsWith (order_at table slot offer) (asked list fronts f) → cost_at new f ≤ price_at table slot offer
  offered_bound f within begins =
      let test = test_from_begins (order_at table slot offer) (asked list fronts f) begins in
      let is : cell_at new f ≡ better (cell_at old f) (price_at table slot offer) = each f within ∙ ap (λ b. offered (cell_at old f) b (price_at table slot offer)) test in
      subst (λ (x : Cell). x.cost ≤ price_at table slot offer) (sym is) (better_lower (cell_at old f) (price_at table slot offer)).1

  offer_split : (slot_in : slot < task.slots) (offer_in : offer < length (table slot)) (set_is : 2 ^ slot ≡ set) (f : ℕ) → f < length fronts → OfferMade task table (asked list fronts f) set (cost_at old f) → (b : Bool) → begins_test (order_at table slot offer) (asked list fronts f) ≡ b → cell_at new f ≡ offered (cell_at old f) b (price_at table slot offer) → OfferMade task table (asked list fronts f) set (cost_at new f)
  offer_split slot_in offer_in set_is f within before false test is =
      subst (λ (x : Cell). OfferMade task table (asked list fronts f) set x.cost) (sym is) before
  offer_split slot_in offer_in set_is f within before true test is =
      elim (better_cases (cell_at old f) (price_at table slot offer)) [
        | inl h ↦ subst (λ (x : Cell). OfferMade task table (asked list fronts f) set x.cost) (sym (is ∙ h.0)) before
        | inr h ↦
            let cost : cost_at new f ≡ price_at table slot offer = ap (λ (x : Cell). x.cost) is ∙ h.0 in
            inr (record {
              slot = slot;
              offer = offer;
              read = record {
                slot_in = slot_in;
                offer_in = offer_in;
                set_is = set_is;
                begins = begins_from_test (order_at table slot offer) (asked list fronts f) test;
                costs = cost;
              };
            })
      ]

  pub offered_made : slot < task.slots → offer < length (table slot) → 2 ^ slot ≡ set → AreOffers task table list fronts set old → AreOffers task table list fronts set new
  offered_made slot_in offer_in set_is before =
      record { each = λ f within. offer_split slot_in offer_in set_is f within (before.each f within) (begins_test (order_at table slot offer) (asked list fronts f)) refl (each f within) }

pub slot_lower : (table : OfferTable) (order : Order) (slot cost less : ℕ) → less ≤ cost → SlotBound table order slot cost → SlotBound table order slot less
slot_lower table order slot cost less low h =
    record { each = λ offer within begins. let w = h.each offer within begins in omega arith }
