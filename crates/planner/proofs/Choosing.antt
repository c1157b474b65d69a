-- What is found again.
use Rattle.std.proofs.Common.{◌≡◌, ℕ, ◌<◌, true, ◌==◌, ◌&&◌, List, length, Option, sym, subst}
use Rattle.std.proofs.lemmas.Bool.{and_parts, and_from, eqb-true, eq-eqb}
use Rattle.adv_base.specs.Items.{Order}
use Rattle.adv_base.specs.Offers.{OfferTable}
use Rattle.adv_base.specs.declared.workload.parts.Item.{Item}
use Rattle.adv_base.specs.OfferTables.{price_at, order_at}
use Rattle.planner.specs.declared.cell.Cell.{Cell}
use Rattle.planner.specs.declared.cell.Choice.{Choice}
use Rattle.planner.specs.declared.cell.Choice.TheVariants.{Read, MergeOf, HashOf}
use Rattle.planner.specs.declared.cuts.Cut.{Cut}
use Rattle.planner.specs.declared.cuts.Merge.{Merge}
use Rattle.planner.specs.declared.ways.Ways.{Ways}
use Rattle.planner.specs.Fronts.{begins_test, listed}
use Rattle.planner.specs.Cuts.{cut_at, merge_at}
use Rattle.planner.specs.Choices.{IsMergedBy}
use Rattle.planner.specs.Rows.{width, sets_of, cuts_of, merges_in}
use Rattle.planner.specs.inner.Built.{GivesOffer, IsChosen, IsCutChoice, IsJoinChoice}
use Rattle.planner.proofs.Reading.{begins_from_test, test_from_begins}
use Rattle.planner.proofs.Upper.{merge_choice, hash_choice}

pub offer_from_test : (table : OfferTable) (slot : ℕ) (order : Order) (cost k : ℕ) → k < length (table slot) → ((price_at table slot k == cost) && begins_test (order_at table slot k) order) ≡ true → GivesOffer table slot order cost k
offer_from_test table slot order cost k within h =
    let p = and_parts (price_at table slot k == cost) (begins_test (order_at table slot k) order) h in
    record {
      within = within;
      begins = begins_from_test (order_at table slot k) order p.1;
      costs = sym (eqb-true (price_at table slot k) cost p.0);
    }

pub test_from_offer : (table : OfferTable) (slot : ℕ) (order : Order) (cost k : ℕ) → GivesOffer table slot order cost k → ((price_at table slot k == cost) && begins_test (order_at table slot k) order) ≡ true
test_from_offer table slot order cost k h =
    and_from (price_at table slot k == cost) (begins_test (order_at table slot k) order) (eq-eqb (price_at table slot k) cost (sym h.costs)) (test_from_begins (order_at table slot k) order h.begins)

-- the same of rows at hand
pub merged_at : (ways : Ways) (rows : ℕ → List Cell) (cut : Cut) (left right : List Cell) (merges : List Merge) (heads : List (Option Item)) (f cost j g : ℕ) → heads ≡ ways.heads.items → left ≡ rows cut.left → right ≡ rows cut.right → merges ≡ merges_in ways cut → IsMergedBy heads left right cut.merge_price merges f cost j g → IsMergedBy ways.heads.items (rows cut.left) (rows cut.right) cut.merge_price (merges_in ways cut) f cost j g
merged_at ways rows cut left right merges heads f cost j g heads_is left_is right_is merges_is h =
    subst (λ hs. IsMergedBy hs (rows cut.left) (rows cut.right) cut.merge_price (merges_in ways cut) f cost j g) heads_is (subst (λ ms. IsMergedBy heads (rows cut.left) (rows cut.right) cut.merge_price ms f cost j g) merges_is (subst (λ l. IsMergedBy heads l (rows cut.right) cut.merge_price merges f cost j g) left_is (subst (λ r. IsMergedBy heads left r cut.merge_price merges f cost j g) right_is h)))

-- a join that was found is one of the task
module _ (ways : Ways) (table : OfferTable) (rows : ℕ → List Cell) (set f : ℕ) (within : set < sets_of ways) (front_in : f < width ways) where
  cut_chosen : (k : ℕ) → k < length (cuts_of ways set) → (cost : ℕ) (choice : Choice) → IsCutChoice ways rows (cut_at (cuts_of ways set) k) f cost choice → IsChosen ways.task.now table (listed ways.task.now) ways.fronts.items rows set f cost choice
  cut_chosen k inside cost (Read slot offer) h = absurd h
  cut_chosen k inside cost (MergeOf edge a g h') h =
      let cut : Cut = cut_at (cuts_of ways set) k in
      let w = h.1 in
      let c = merge_choice ways set k within inside rows f cost w.0 g front_in w.1 in
      subst (λ x. IsChosen ways.task.now table (listed ways.task.now) ways.fronts.items rows set f cost (MergeOf edge x g h')) (sym h.0) (subst (λ x. IsChosen ways.task.now table (listed ways.task.now) ways.fronts.items rows set f cost (MergeOf x cut.left g h')) (sym w.2) (subst (λ x. IsChosen ways.task.now table (listed ways.task.now) ways.fronts.items rows set f cost (MergeOf (merge_at (merges_in ways cut) w.0).edge cut.left g x)) (sym w.3) c))
  cut_chosen k inside cost (HashOf a) h =
      let cut : Cut = cut_at (cuts_of ways set) k in
      subst (λ x. IsChosen ways.task.now table (listed ways.task.now) ways.fronts.items rows set f cost (HashOf x)) (sym h.0) (hash_choice ways set k within inside rows f cost front_in h.1)

  pub join_chosen : (cost : ℕ) (choice : Choice) → IsJoinChoice ways rows (cuts_of ways set) f cost choice → IsChosen ways.task.now table (listed ways.task.now) ways.fronts.items rows set f cost choice
  join_chosen cost choice h = cut_chosen h.number h.within cost choice h.joins
