-- What offering costs to the cells of a row gives.
use Rattle.std.proofs.Common.{◌≡◌, ℕ, ◌+◌, ◌<◌, ◌≤◌, ◌⊎◌, inl, inr, Bool, true, false, nat_lt, List, length, Option, Some, None, refl, sym, ap, ◌∙◌, subst, arith}
use Rattle.std.proofs.lemmas.Bool.{cases_lt}
use Rattle.std.proofs.lemmas.Bool.Decides.{nat_tests}
use Rattle.std.proofs.lemmas.List.{get_or_past}
use Rattle.adv_base.specs.declared.workload.parts.Item.{Item}
use Rattle.planner.specs.declared.cell.Cell.{Cell}
use Rattle.planner.specs.declared.cuts.Merge.{Merge}
use Rattle.planner.specs.Fronts.{head_at, longer_front}
use Rattle.planner.specs.Cells.{blank, cell_at, cost_at, any_at}
use Rattle.planner.specs.inner.Steps.{better, merged, hashed, IsStep}
use Rattle.planner.specs.Cuts.{merge_at}
use Rattle.planner.specs.Choices.{IsMerged, IsHashed, MergeBound, MergesBound, HashBound}

better_split : (cell : Cell) (cost : ℕ) (b : Bool) → nat_lt cost cell.cost ≡ b → ((better cell cost ≡ cell) × (cell.cost ≤ cost)) ⊎ (((better cell cost).cost ≡ cost) × (cost < cell.cost))
better_split cell cost true e =
    let less : cost < cell.cost = grind (arith, nat_tests) in
    inr (rw e refl, less)
better_split cell cost false e =
    let most : cell.cost ≤ cost = grind (arith, nat_tests) in
    inl (rw e refl, most)

-- what `better` gives
pub better_cases : (cell : Cell) (cost : ℕ) → ((better cell cost ≡ cell) × (cell.cost ≤ cost)) ⊎ (((better cell cost).cost ≡ cost) × (cost < cell.cost))
better_cases cell cost = better_split cell cost (nat_lt cost cell.cost) refl

pub better_lower : (cell : Cell) (cost : ℕ) → ((better cell cost).cost ≤ cell.cost) × ((better cell cost).cost ≤ cost)
better_lower cell cost =
    elim (better_cases cell cost) [
      | inl h ↦ let e : (better cell cost).cost ≡ cell.cost = ap (λ (x : Cell). x.cost) h.0 in (omega arith, omega (arith, h.1))
      | inr h ↦ (omega (arith, h.0, h.1), omega (arith, h.0))
    ]

merged_lower : (cell : Cell) (o : Option ℕ) (left : List Cell) (base : ℕ) → (merged cell o left base).cost ≤ cell.cost
merged_lower cell None left base = omega arith
merged_lower cell (Some g) left base = (better_lower cell (any_at left g + base)).0

hashed_lower : (cell : Cell) (head : Option Item) (cost : ℕ) → (hashed cell head cost).cost ≤ cell.cost
hashed_lower cell None cost = (better_lower cell cost).0
hashed_lower cell (Some head) cost = omega arith

-- rows of one length that fall within it fall
pub lower_past : (old new : List Cell) → length new ≡ length old → ((f : ℕ) → f < length old → cost_at new f ≤ cost_at old f) → (f : ℕ) → cost_at new f ≤ cost_at old f
lower_past old new len within f =
    elim (cases_lt f (length old)) [
      | inl h ↦ within f h
      | inr h ↦
          let a : cell_at old f ≡ blank = get_or_past old f blank h in
          let b : cell_at new f ≡ blank = get_or_past new f blank (omega arith) in
          let e : cost_at new f ≡ cost_at old f = ap (λ (x : Cell). x.cost) (b ∙ sym a) in
          omega arith
    ]

-- one merge of the list, offered to each cell
module _ (heads : List (Option Item)) (left right old new : List Cell) (price : ℕ) (merges : List Merge) (j : ℕ) (within : j < length merges) (base : ℕ) (base_is : base ≡ any_at right (merge_at merges j).right_front + price) (same : length new ≡ length old) (each : (f : ℕ) → f < length old → cell_at new f ≡ merged (cell_at old f) (longer_front (head_at heads (merge_at merges j).left_need) (head_at heads f) (merge_at merges j).left_need f) left base) where
  merged_split : (f : ℕ) → (o : Option ℕ) → longer_front (head_at heads (merge_at merges j).left_need) (head_at heads f) (merge_at merges j).left_need f ≡ o → cell_at new f ≡ merged (cell_at old f) o left base → (cost_at new f ≡ cost_at old f) ⊎ IsMerged heads left right price merges f (cost_at new f)
  merged_split f None e is = inl (ap (λ (x : Cell). x.cost) is)
  merged_split f (Some g) e is =
      elim (better_cases (cell_at old f) (any_at left g + base)) [
        | inl h ↦ inl (ap (λ (x : Cell). x.cost) (is ∙ h.0))
        | inr h ↦ inr (record {
          number = j;
          front = g;
          by_merge = record { within = within; serves = e; costs = ap (λ (x : Cell). x.cost) is ∙ h.0 ∙ ap (λ t. any_at left g + t) base_is };
        })
      ]

  pub merge_step : IsStep (length old) (IsMerged heads left right price merges) old new
  merge_step =
      record {
        count = same;
        lower = lower_past old new same (λ f h. subst (λ (x : Cell). x.cost ≤ cost_at old f) (sym (each f h)) (merged_lower (cell_at old f) (longer_front (head_at heads (merge_at merges j).left_need) (head_at heads f) (merge_at merges j).left_need f) left base));
        made = λ f h. merged_split f _ refl (each f h);
      }

  pub merge_bound : (f : ℕ) → f < length old → MergeBound heads left right price (merge_at merges j) f (cost_at new f)
  merge_bound f h =
      record {
        each = λ g serves.
            let is : cell_at new f ≡ better (cell_at old f) (any_at left g + base) = each f h ∙ ap (λ t. merged (cell_at old f) t left base) serves in
            let low : cost_at new f ≤ any_at left g + base = subst (λ (x : Cell). x.cost ≤ any_at left g + base) (sym is) (better_lower (cell_at old f) (any_at left g + base)).1 in
            omega arith;
      }

-- a hash join, offered to each cell
module _ (heads : List (Option Item)) (left right old new : List Cell) (price : ℕ) (cost : ℕ) (cost_is : cost ≡ cost_at left 0 + cost_at right 0 + price) (same : length new ≡ length old) (each : (f : ℕ) → f < length old → cell_at new f ≡ hashed (cell_at old f) (head_at heads f) cost) where
  hashed_split : (f : ℕ) → (o : Option Item) → head_at heads f ≡ o → cell_at new f ≡ hashed (cell_at old f) o cost → (cost_at new f ≡ cost_at old f) ⊎ IsHashed heads left right price f (cost_at new f)
  hashed_split f (Some head) e is = inl (ap (λ (x : Cell). x.cost) is)
  hashed_split f None e is =
      elim (better_cases (cell_at old f) cost) [
        | inl h ↦ inl (ap (λ (x : Cell). x.cost) (is ∙ h.0))
        | inr h ↦ inr (record { asks_nothing = e; costs = ap (λ (x : Cell). x.cost) is ∙ h.0 ∙ cost_is })
      ]

  pub hash_step : IsStep (length old) (IsHashed heads left right price) old new
  hash_step =
      record {
        count = same;
        lower = lower_past old new same (λ f h. subst (λ (x : Cell). x.cost ≤ cost_at old f) (sym (each f h)) (hashed_lower (cell_at old f) (head_at heads f) cost));
        made = λ f h. hashed_split f (head_at heads f) refl (each f h);
      }

  pub hash_bound : (f : ℕ) → f < length old → HashBound heads left right price f (cost_at new f)
  hash_bound f h =
      record {
        bound = λ none.
            let is : cell_at new f ≡ better (cell_at old f) cost = each f h ∙ ap (λ t. hashed (cell_at old f) t cost) none in
            let low : cost_at new f ≤ cost = subst (λ (x : Cell). x.cost ≤ cost) (sym is) (better_lower (cell_at old f) cost).1 in
            omega arith;
      }

pub step_then : (width : ℕ) (Makes : ℕ → ℕ → Type 0) (x y z : List Cell) → IsStep width Makes x y → IsStep width Makes y z → IsStep width Makes x z
step_then width Makes x y z s t =
    record {
      count = t.count ∙ s.count;
      lower = λ f. omega (arith, s.lower f, t.lower f);
      made = λ f h.
          elim (t.made f h) [
            | inr makes ↦ inr makes
            | inl same ↦
                elim (s.made f h) [
                  | inl before ↦ inl (same ∙ before)
                  | inr makes ↦ inr (subst (Makes f) (sym same) makes)
                ]
          ];
    }

-- a step that something makes is one that something wider makes
pub step_wider : (width : ℕ) (Makes Others : ℕ → ℕ → Type 0) (x y : List Cell) → ((f cost : ℕ) → Makes f cost → Others f cost) → IsStep width Makes x y → IsStep width Others x y
step_wider width Makes Others x y wider s =
    record {
      count = s.count;
      lower = s.lower;
      made = λ f h. elim (s.made f h) [ inl same ↦ inl same | inr makes ↦ inr (wider f (cost_at y f) makes) ];
    }

-- a bound stays where the cost falls
pub merge_falls : (heads : List (Option Item)) (left right : List Cell) (price : ℕ) (merge : Merge) (f cost less : ℕ) → less ≤ cost → MergeBound heads left right price merge f cost → MergeBound heads left right price merge f less
merge_falls heads left right price merge f cost less low h =
    record { each = λ g serves. let w = h.each g serves in omega arith }

pub merges_fall : (heads : List (Option Item)) (left right : List Cell) (price : ℕ) (merges : List Merge) (f cost less : ℕ) → less ≤ cost → MergesBound heads left right price merges f cost → MergesBound heads left right price merges f less
merges_fall heads left right price merges f cost less low h =
    record { each = λ j within. merge_falls heads left right price (merge_at merges j) f cost less low (h.each j within) }

pub hash_falls : (heads : List (Option Item)) (left right : List Cell) (price f cost less : ℕ) → less ≤ cost → HashBound heads left right price f cost → HashBound heads left right price f less
hash_falls heads left right price f cost less low h = record { bound = λ none. let w = h.bound none in omega arith }
