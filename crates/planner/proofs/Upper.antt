-- Each cost of a closed table below that of no plan is the cost of a plan.
use Rattle.std.proofs.Common.{Box, Global, ◌≡◌, ℕ, zero, suc, ◌-◌, ◌<◌, ◌≤◌, inl, inr, Bool, true, false, List, length, drop, refl, sym, ◌∙◌, subst, arith}
use denote.RawPtr.{null_ptr}
use Rattle.std.specs.List.{list_any, slice_range}
use Rattle.std.proofs.lemmas.List.{length-take, length-drop}
use Rattle.std.proofs.lemmas.Bool.{cases_eq}
use Rattle.adv_base.specs.Items.{Order}
use Rattle.adv_base.specs.Offers.{OfferTable}
use Rattle.plan_model.specs.declared.plan.Plan.{Plan}
use Rattle.plan_model.specs.declared.plan.Plan.TheVariants.{Leaf, Sort', Merge', Hash'}
use Rattle.plan_model.specs.declared.task.Task.{Task}
use Rattle.plan_model.specs.Plans.{crosses}
use Rattle.planner.specs.declared.cell.Cell.{Cell}
use Rattle.planner.specs.declared.cell.TheConstants.{IMPOSSIBLE}
use Rattle.planner.specs.declared.cuts.Cut.{Cut}
use Rattle.planner.specs.declared.ways.Ways.{Ways}
use Rattle.planner.specs.Fronts.{asked, listed}
use Rattle.planner.specs.Cells.{cost_at, any_at}
use Rattle.planner.specs.Cuts.{cut_at, merge_at, IsCut, IsCutOf}
use Rattle.planner.specs.Choices.{IsMerge, IsHash, IsHashed, IsMergedBy}
use Rattle.planner.specs.Rows.{width, order_of, cuts_of, merges_in, sets_of, AreRows, IsCutBy}
use Rattle.planner.specs.inner.Built.{front_cost, IsPlanFor}
use Rattle.planner.proofs.Begins.{nil_from_first}
use Rattle.planner.proofs.Merging.{MergeMeans, merge_means, merge_gives, any_crossing}
use Rattle.planner.proofs.Lower.{AreBlank, IsLow, rows_low}
use Rattle.planner.proofs.Building.{read_built, sort_built, merge_built, hash_built, valid_sorting, sort_wanted}

range_some : {X : Type 0} (xs : List X) (i j : ℕ) → i < j → j ≤ length xs → 0 < length (slice_range xs i j)
range_some xs i j some most = omega (arith, length-take (j - i) (drop i xs), length-drop i xs)

-- what the cuts of a set say
module _ (ways : Ways) (set k : ℕ) (within : set < sets_of ways) (inside : k < length (cuts_of ways set)) where
  pub facts : IsCutOf ways.task.now ways.links.items ways.merges.items set (cut_at (cuts_of ways set) k)
  facts = (ways.known.cut.sets set within).each k inside

  pub means_at : (j : ℕ) → j < length (merges_in ways (cut_at (cuts_of ways set) k)) → MergeMeans ways.task.now (listed ways.task.now) ways.fronts.items (cut_at (cuts_of ways set) k).left (cut_at (cuts_of ways set) k).right (merge_at (merges_in ways (cut_at (cuts_of ways set) k)) j)
  means_at j h =
      merge_means ways.task.now (listed ways.task.now) ways.fronts.items ways.links.items (length ways.task.now.edges) (cut_at (cuts_of ways set) k).left (cut_at (cuts_of ways set) k).right (merges_in ways (cut_at (cuts_of ways set) k)) ways.known.needs.linked facts.crossings j h

  -- a merge of the cut's list is one of its edge
  pub merged_is : (left right : List Cell) (f cost j g : ℕ) → f < width ways → IsMergedBy ways.heads.items left right (cut_at (cuts_of ways set) k).merge_price (merges_in ways (cut_at (cuts_of ways set) k)) f cost j g → IsMerge ways.task.now (listed ways.task.now) ways.fronts.items left right (cut_at (cuts_of ways set) k).left (cut_at (cuts_of ways set) k).right f cost (merge_at (merges_in ways (cut_at (cuts_of ways set) k)) j).edge g (merge_at (merges_in ways (cut_at (cuts_of ways set) k)) j).right_front
  merged_is left right f cost j g front_in by_merge =
      merge_gives ways.task.now (listed ways.task.now) ways.fronts.items ways.heads.items left right (cut_at (cuts_of ways set) k).left (cut_at (cuts_of ways set) k).right f cost (cut_at (cuts_of ways set) k).merge_price (merges_in ways (cut_at (cuts_of ways set) k)) j g ways.known.needs.first front_in facts.merge (means_at j by_merge.within) by_merge

  -- some edge crosses the cut
  pub crossed : list_any (crosses (cut_at (cuts_of ways set) k).left (cut_at (cuts_of ways set) k).right) ways.task.now.edges ≡ true
  crossed =
      let cut : Cut = cut_at (cuts_of ways set) k in
      let some = facts.some in
      let most = facts.within in
      let first : 0 < length (merges_in ways cut) = range_some ways.merges.items cut.from cut.to some most in
      let m = means_at 0 first in
      any_crossing cut.left cut.right ways.task.now.edges (merge_at (merges_in ways cut) 0).edge m.edge m.found m.crossing

  pub hashed_is : (left right : List Cell) (f cost : ℕ) → f < width ways → IsHashed ways.heads.items left right (cut_at (cuts_of ways set) k).hash_price f cost → IsHash ways.task.now (listed ways.task.now) ways.fronts.items left right (cut_at (cuts_of ways set) k).left (cut_at (cuts_of ways set) k).right f cost
  hashed_is left right f cost front_in h =
      record {
        crossed = crossed;
        asks_nothing = nil_from_first (order_of ways f) (sym (ways.known.needs.first.each f front_in) ∙ h.asks_nothing);
        costs = omega (arith, h.costs, facts.hash);
      }

  -- how the parts' own cells give the cost
  pub merge_choice : (rows : ℕ → List Cell) (f cost j g : ℕ) → f < width ways → IsMergedBy ways.heads.items (rows (cut_at (cuts_of ways set) k).left) (rows (cut_at (cuts_of ways set) k).right) (cut_at (cuts_of ways set) k).merge_price (merges_in ways (cut_at (cuts_of ways set) k)) f cost j g → IsCut set (cut_at (cuts_of ways set) k).left × IsMerge ways.task.now (listed ways.task.now) ways.fronts.items (rows (cut_at (cuts_of ways set) k).left) (rows (set - (cut_at (cuts_of ways set) k).left)) (cut_at (cuts_of ways set) k).left (set - (cut_at (cuts_of ways set) k).left) f cost (merge_at (merges_in ways (cut_at (cuts_of ways set) k)) j).edge g (merge_at (merges_in ways (cut_at (cuts_of ways set) k)) j).right_front
  merge_choice rows f cost j g front_in h =
      let cut : Cut = cut_at (cuts_of ways set) k in
      let merge = merge_at (merges_in ways cut) j in
      (facts.parts, subst (λ b. IsMerge ways.task.now (listed ways.task.now) ways.fronts.items (rows cut.left) (rows b) cut.left b f cost merge.edge g merge.right_front) facts.rest (merged_is (rows cut.left) (rows cut.right) f cost j g front_in h))

  pub hash_choice : (rows : ℕ → List Cell) (f cost : ℕ) → f < width ways → IsHashed ways.heads.items (rows (cut_at (cuts_of ways set) k).left) (rows (cut_at (cuts_of ways set) k).right) (cut_at (cuts_of ways set) k).hash_price f cost → IsCut set (cut_at (cuts_of ways set) k).left × IsHash ways.task.now (listed ways.task.now) ways.fronts.items (rows (cut_at (cuts_of ways set) k).left) (rows (set - (cut_at (cuts_of ways set) k).left)) (cut_at (cuts_of ways set) k).left (set - (cut_at (cuts_of ways set) k).left) f cost
  hash_choice rows f cost front_in h =
      let cut : Cut = cut_at (cuts_of ways set) k in
      (facts.parts, subst (λ b. IsHash ways.task.now (listed ways.task.now) ways.fronts.items (rows cut.left) (rows b) cut.left b f cost) facts.rest (hashed_is (rows cut.left) (rows cut.right) f cost front_in h))

-- a plan of that cost
pub record HasPlan (sorts : Bool) (task : Task) (table : OfferTable) (order : Order) (set cost : ℕ) : Type 0 where
  pub plan : Plan
  pub is : IsPlanFor sorts task table order set cost plan

module _ (alloc : Global) (ways : Ways) (table : OfferTable) (rows : ℕ → List Cell) (closed : AreRows ways table rows (sets_of ways)) (blanks : AreBlank ways rows) where
  zero_in : 0 < width ways
  zero_in = omega (arith, ways.known.needs.some)

  module _ (set : ℕ) (within : set < sets_of ways) where
    module _ (smaller : (s : ℕ) → s < set → (sorts : Bool) (f : ℕ) → f < width ways → front_cost sorts (rows s) f < IMPOSSIBLE → HasPlan sorts ways.task.now table (asked (listed ways.task.now) ways.fronts.items f) s (front_cost sorts (rows s) f)) (f : ℕ) (front_in : f < width ways) (possible : cost_at (rows set) f < IMPOSSIBLE) where
      by_cut : (k : ℕ) → k < length (cuts_of ways set) → IsCutBy ways rows (cut_at (cuts_of ways set) k) f (cost_at (rows set) f) → HasPlan false ways.task.now table (asked (listed ways.task.now) ways.fronts.items f) set (cost_at (rows set) f)
      by_cut k inside (inl hash) =
          let a : ℕ = (cut_at (cuts_of ways set) k).left in
          let c = hash_choice ways set k within inside rows f (cost_at (rows set) f) front_in hash in
          let some = c.0.some in
          let less = c.0.less in
          let costs = c.1.costs in
          let l = smaller a less false 0 zero_in (omega arith) in
          let r = smaller (set - a) (omega arith) false 0 zero_in (omega arith) in
          let box : Box (Unit {0}) Global = record { ptr = null_ptr; alloc = alloc; value = tt } in
          record {
            plan = Hash' box l.plan box r.plan;
            is = hash_built false ways.task.now table (listed ways.task.now) ways.fronts.items (rows a) (rows (set - a)) set a f (cost_at (rows set) f) l.plan r.plan (Hash' box l.plan box r.plan) (refl, refl) c.0 c.1 l.is r.is;
          }
      by_cut k inside (inr m) =
          let a : ℕ = (cut_at (cuts_of ways set) k).left in
          let merge = merge_at (merges_in ways (cut_at (cuts_of ways set) k)) m.number in
          let c = merge_choice ways set k within inside rows f (cost_at (rows set) f) m.number m.front front_in m.by_merge in
          let some = c.0.some in
          let less = c.0.less in
          let costs = c.1.costs in
          let l = smaller a less true m.front c.1.left_in (omega arith) in
          let r = smaller (set - a) (omega arith) true merge.right_front c.1.right_in (omega arith) in
          let box : Box (Unit {0}) Global = record { ptr = null_ptr; alloc = alloc; value = tt } in
          record {
            plan = Merge' merge.edge box l.plan box r.plan;
            is = merge_built false ways.task.now table (listed ways.task.now) ways.fronts.items (rows a) (rows (set - a)) set a f (cost_at (rows set) f) merge.edge m.front merge.right_front l.plan r.plan (Merge' merge.edge box l.plan box r.plan) (refl, refl, refl) c.0 c.1 l.is r.is;
          }

      plain : HasPlan false ways.task.now table (asked (listed ways.task.now) ways.fronts.items f) set (cost_at (rows set) f)
      plain =
          elim ((closed.each set within).made f front_in) [
            | inl none ↦ absurd (omega arith)
            | inr made ↦
                elim made [
                  | inl o ↦ record {
                    plan = Leaf o.slot o.offer;
                    is = read_built false ways.task.now table (asked (listed ways.task.now) ways.fronts.items f) set (cost_at (rows set) f) o.slot o.offer o.read;
                  }
                  | inr j ↦ by_cut j.number j.within j.joins
                ]
          ]

    sorted : (low : IsLow ways.task.now table (listed ways.task.now) ways.fronts.items set (rows set)) → ((f : ℕ) → f < width ways → cost_at (rows set) f < IMPOSSIBLE → HasPlan false ways.task.now table (asked (listed ways.task.now) ways.fronts.items f) set (cost_at (rows set) f)) → (f : ℕ) → f < width ways → any_at (rows set) f < IMPOSSIBLE → HasPlan true ways.task.now table (asked (listed ways.task.now) ways.fronts.items f) set (any_at (rows set) f)
    sorted low plans f front_in possible =
        elim (cases_eq (any_at (rows set) f) (cost_at (rows set) f)) [
          | inl same ↦
              let w = plans f front_in (omega arith) in
              record {
                plan = w.plan;
                is = record {
                  valid = valid_sorting ways.task.now table w.plan w.is.valid;
                  covers_set = w.is.covers_set;
                  begins = w.is.begins;
                  costs = w.is.costs ∙ sym same;
                  sorts_wanted = w.is.sorts_wanted;
                };
              }
          | inr differ ↦
              elim ((closed.each set within).sorted f front_in) [
                | inl same ↦ absurd (differ same)
                | inr sorting ↦
                    let costs = sorting.costs in
                    let input = plans 0 zero_in (omega arith) in
                    let box : Box (Unit {0}) Global = record { ptr = null_ptr; alloc = alloc; value = tt } in
                    let order : Order = asked (listed ways.task.now) ways.fronts.items f in
                    record {
                      plan = Sort' order box input.plan;
                      is = sort_built ways.task.now table (listed ways.task.now) ways.fronts.items (rows set) set f (any_at (rows set) f) input.plan (Sort' order box input.plan) (refl, refl) input.is sorting (sort_wanted ways table set f (rows set) input.plan front_in differ (low.least_any f front_in) sorting input.is);
                    }
              ]
        ]

  plans_below : (n s : ℕ) → s < n → s < sets_of ways → (sorts : Bool) (f : ℕ) → f < width ways → front_cost sorts (rows s) f < IMPOSSIBLE → HasPlan sorts ways.task.now table (asked (listed ways.task.now) ways.fronts.items f) s (front_cost sorts (rows s) f)
  plans_below zero s below within sorts f front_in possible = absurd (omega arith)
  plans_below (suc n) s below within false f front_in possible =
      plain s within (λ t less. plans_below n t (omega arith) (omega arith)) f front_in possible
  plans_below (suc n) s below within true f front_in possible =
      sorted s within (rows_low ways table rows closed blanks s within) (λ h h_in cheap. plain s within (λ t less. plans_below n t (omega arith) (omega arith)) h h_in cheap) f front_in possible

  pub plans : (s : ℕ) → s < sets_of ways → (sorts : Bool) (f : ℕ) → f < width ways → front_cost sorts (rows s) f < IMPOSSIBLE → HasPlan sorts ways.task.now table (asked (listed ways.task.now) ways.fronts.items f) s (front_cost sorts (rows s) f)
  plans s within = plans_below (suc s) s (omega arith) within
