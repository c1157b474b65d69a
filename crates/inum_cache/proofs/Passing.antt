-- What a pass gives to a list of templates is of plans.
use Rattle.std.proofs.Common.{Box, Global, ◌≡◌, inl, inr, ℕ, zero, suc, ◌+◌, ◌-◌, ◌^◌, ◌<◌, true, false, cond, List, [], ◌∷◌, length, map, get_or, All, bit_and, refl, sym, ap, ◌∙◌, subst, arith}
use denote.RawPtr.{null_ptr}
use Rattle.std.specs.Prelude.{slice_get, slice_index_or}
use Rattle.std.specs.Option.{option_map_or}
use Rattle.std.proofs.Math.ListN.{replicate}
use Rattle.std.proofs.lemmas.Bool.{cases_Bool, cases_lt, cases_eq, false≢true, eq-eqb, ne_eqb}
use Rattle.std.proofs.lemmas.List.{get_or-map, get_or-replicate, get_or_default, get_or_past, length-map}
use Rattle.adv_base.specs.Items.{Order, BeginsWith}
use Rattle.adv_base.specs.Offers.{Offer}
use Rattle.adv_base.specs.OfferTables.{price_at, order_at, OfferLimits, OfferTableLimits}
use Rattle.adv_base.specs.Sets.{has_slot}
use Rattle.plan_model.specs.declared.plan.Plan.{Plan}
use Rattle.plan_model.specs.declared.plan.Plan.TheVariants.{Leaf, Sort', Merge', Hash'}
use Rattle.plan_model.specs.declared.template.Template.{Template}
use Rattle.plan_model.specs.Exchange.{choice}
use Rattle.plan_model.proofs.CostBound.{valid-most}
use Rattle.plan_model.proofs.Exchanging.{single-is}
use Rattle.plan_model.proofs.SetLaws.{has-left, has-right, has-apart, has-right-where, has-single}
use Rattle.planner.specs.declared.cell.Cell.{Cell}
use Rattle.planner.specs.declared.cuts.Cut.{Cut}
use Rattle.planner.specs.declared.cuts.Merge.{Merge}
use Rattle.planner.specs.declared.front.Front.TheVariants.{Any, Listed}
use Rattle.planner.specs.declared.ways.Ways.{Ways}
use Rattle.planner.specs.Fronts.{first_item, front_order, listed}
use Rattle.planner.specs.Cells.{blank, any_at, cost_at}
use Rattle.planner.specs.Cuts.{cut_at, merge_at}
use Rattle.planner.specs.Choices.{IsHash, IsHashed, IsMerge, IsMergedBy, IsSorting}
use Rattle.planner.specs.Rows.{width, order_of, cuts_of, merges_in, sets_of}
use Rattle.planner.specs.Sorts.{IsWantedList}
use Rattle.planner.specs.inner.Built.{IsPlanFor}
use Rattle.planner.proofs.Building.{front_wanted, hash_built, merge_built, read_built, sort_built}
use Rattle.planner.proofs.Reading.{begins_from_test}
use Rattle.planner.proofs.Tabling.{all_columns}
use Rattle.planner.proofs.Upper.{facts, hashed_is, merged_is}
use Rattle.inum_cache.specs.Numbering.{size_in, order_in}
use Rattle.inum_cache.specs.inner.Cells.{place_at, template_at, no_template, joined_place, IsJoined, IsSmall, Takes}
use Rattle.inum_cache.specs.inner.Passes.{cell_in, row_in, every, IsFor, IsGiven, AreRowsOf, ReadGives, HashGives, MergeGives, SortGives}

-- ## Each slot offers each of its orders for nothing

order-of-every : (xs : List Order) (k : ℕ) → option_map_or (λ (o : Offer). o.0) (slice_get (map (λ (o : Order). (o, 0)) xs) k) [] ≡ get_or xs k []
order-of-every [] k = refl
order-of-every (x ∷ xs) zero = refl
order-of-every (x ∷ xs) (suc k) = order-of-every xs k

price-of-every : (xs : List Order) (k : ℕ) → option_map_or (λ (o : Offer). o.1) (slice_get (map (λ (o : Order). (o, 0)) xs) k) 0 ≡ 0
price-of-every [] k = refl
price-of-every (x ∷ xs) zero = refl
price-of-every (x ∷ xs) (suc k) = price-of-every xs k

pub every-order : (orders : List (List Order)) (slot place : ℕ) → order_at (every orders) slot place ≡ order_in orders slot place
every-order orders slot place = order-of-every (get_or orders slot []) place

pub every-price : (orders : List (List Order)) (slot place : ℕ) → price_at (every orders) slot place ≡ 0
every-price orders slot place = price-of-every (get_or orders slot []) place

pub every-length : (orders : List (List Order)) (slot : ℕ) → length (every orders slot) ≡ size_in orders slot
every-length orders slot = length-map (get_or orders slot []) (λ (o : Order). (o, 0))

pub every-limits : (orders : List (List Order)) → ((slot place : ℕ) → OfferLimits slot (order_in orders slot place, 0)) → OfferTableLimits (every orders)
every-limits orders own slot k d within =
    let inside : k < length (get_or orders slot []) = omega (arith, within, every-length orders slot) in
    subst (OfferLimits slot) (sym (get_or-map (λ (o : Order). (o, 0)) (get_or orders slot []) k [] d inside)) (own slot k)

-- ## Rows of one cost

-- a row in which the front g, and each below, has one cost
row-with : ℕ → ℕ → List Cell
row-with c g = replicate (suc g) (record { cost = c; any = c })

any-with : (c g : ℕ) → any_at (row-with c g) g ≡ c
unfolding row-with
any-with c g = ap (λ (x : Cell). x.any) (get_or-replicate (suc g) g (record { cost = c; any = c }) blank (omega arith))

cost-with : (c : ℕ) → cost_at (row-with c 0) 0 ≡ c
unfolding row-with
cost-with c = ap (λ (x : Cell). x.cost) (get_or-replicate 1 0 (record { cost = c; any = c }) blank (omega arith))

-- ## Places of joined templates

joined-left : (left right : Template) (slot : ℕ) → place_at right slot ≡ 0 → joined_place left.needs right.needs slot ≡ place_at left slot
joined-left left right slot none =
    elim (cases_eq (place_at left slot) 0) [
      | inl nil ↦ ap (λ b. cond b (place_at right slot) (place_at left slot)) (eq-eqb (place_at left slot) 0 nil) ∙ none ∙ sym nil
      | inr some ↦ ap (λ b. cond b (place_at right slot) (place_at left slot)) (ne_eqb (place_at left slot) 0 some)
    ]

joined-right : (left right : Template) (slot : ℕ) → place_at left slot ≡ 0 → joined_place left.needs right.needs slot ≡ place_at right slot
joined-right left right slot nil =
    ap (λ b. cond b (place_at right slot) (place_at left slot)) (eq-eqb (place_at left slot) 0 nil)

-- what a join of plans of disjoint sets reads
module _ (left right both : Template) (l r : Plan) (a b set price : ℕ) (sum : a + b ≡ set) (apart : bit_and a b ≡ 0) (is : IsJoined left right price both) (l_reads : (slot : ℕ) → has_slot a slot ≡ true → choice l slot ≡ place_at left slot) (l_others : (slot : ℕ) → has_slot a slot ≡ false → place_at left slot ≡ 0) (r_reads : (slot : ℕ) → has_slot b slot ≡ true → choice r slot ≡ place_at right slot) (r_others : (slot : ℕ) → has_slot b slot ≡ false → place_at right slot ≡ 0) where
  joined-reads : (slot : ℕ) → has_slot set slot ≡ true → cond (has_slot a slot) (choice l slot) (choice r slot) ≡ place_at both slot
  joined-reads slot has =
      elim (cases_Bool (has_slot a slot)) [
        | inl here ↦
            ap (λ t. cond t (choice l slot) (choice r slot)) here ∙ l_reads slot here
            ∙ sym (is.needs slot ∙ joined-left left right slot (r_others slot (has-apart a b slot apart here)))
        | inr other ↦
            let there = has-right-where a b slot apart (ap (λ s. has_slot s slot) sum ∙ has) other in
            ap (λ t. cond t (choice l slot) (choice r slot)) other ∙ r_reads slot there
            ∙ sym (is.needs slot ∙ joined-right left right slot (l_others slot other))
      ]

  joined-others : (slot : ℕ) → has_slot set slot ≡ false → place_at both slot ≡ 0
  joined-others slot lacks =
      elim (cases_Bool (has_slot a slot)) [
        | inl here ↦ absurd (false≢true (sym lacks ∙ sym (ap (λ s. has_slot s slot) sum) ∙ has-left a b slot apart here))
        | inr other ↦
            elim (cases_Bool (has_slot b slot)) [
              | inl there ↦ absurd (false≢true (sym lacks ∙ sym (ap (λ s. has_slot s slot) sum) ∙ has-right a b slot apart there))
              | inr neither ↦ is.needs slot ∙ joined-right left right slot (l_others slot other) ∙ r_others slot neither
            ]
      ]

-- ## What is given is of plans

module _ (alloc : Global) (ways : Ways) (orders : List (List Order)) (rows : ℕ → List (List Template)) (set : ℕ) (within : set < sets_of ways) (done : (s : ℕ) → s < set → (f : ℕ) → All (IsFor ways orders s f) (cell_in (rows s) f)) (f : ℕ) (front_in : f < width ways) where
  given-read : (t : Template) → ReadGives ways orders set f t → IsFor ways orders set f t
  given-read t w =
      let slot = w.0 in
      let slot_in = w.1 in
      let set_is = w.2.0 in
      let place = w.2.1.0 in
      let leaf = w.2.1.2.1 in
      let offer_in : place < length (every orders slot) = omega (arith, w.2.1.1, every-length orders slot) in
      record {
        plan = Leaf slot place;
        is = read_built true ways.task.now (every orders) (order_of ways f) set t.internal slot place (record {
          slot_in = slot_in;
          offer_in = offer_in;
          set_is = set_is;
          begins = subst (λ (o : Order). BeginsWith o (order_of ways f)) (sym (every-order orders slot place)) (begins_from_test (order_in orders slot place) (order_of ways f) w.2.1.2.0);
          costs = leaf.costs ∙ sym (every-price orders slot place);
        });
        plain = λ zeroth. (slot_in, offer_in);
        reads = λ s has.
            let same = single-is slot s (ap (λ x. has_slot x s) set_is ∙ has) in
            subst (λ x. place ≡ place_at t x) same (sym leaf.here);
        others = λ s lacks.
            leaf.others s (λ same. false≢true (sym lacks ∙ sym (ap (λ x. has_slot x s) set_is) ∙ subst (λ x. has_slot (2 ^ slot) x ≡ true) (sym same) (has-single slot)));
      }

  module _ (k : ℕ) (inside : k < length (cuts_of ways set)) where
    left-for : (g i : ℕ) → i < length (cell_in (rows (cut_at (cuts_of ways set) k).left) g) → IsFor ways orders (cut_at (cuts_of ways set) k).left g (template_at (cell_in (rows (cut_at (cuts_of ways set) k).left) g) i)
    left-for g i there =
        done (cut_at (cuts_of ways set) k).left (facts ways set k within inside).parts.less g i no_template there

    right-for : (g i : ℕ) → i < length (cell_in (rows (cut_at (cuts_of ways set) k).right) g) → IsFor ways orders (set - (cut_at (cuts_of ways set) k).left) g (template_at (cell_in (rows (cut_at (cuts_of ways set) k).right) g) i)
    right-for g i there =
        let parts = (facts ways set k within inside).parts in
        let some = parts.some in
        let less = parts.less in
        let rest = (facts ways set k within inside).rest in
        subst (λ s. IsFor ways orders s g (template_at (cell_in (rows (cut_at (cuts_of ways set) k).right) g) i)) rest (done (cut_at (cuts_of ways set) k).right (omega arith) g i no_template there)

    given-hash : (t : Template) → HashGives ways rows f (cut_at (cuts_of ways set) k) t → IsFor ways orders set f t
    given-hash t w =
        let c : Cut = cut_at (cuts_of ways set) k in
        let a : ℕ = c.left in
        let fs = facts ways set k within inside in
        let less = fs.parts.less in
        let x = template_at (cell_in (rows c.left) 0) w.1.0 in
        let y = template_at (cell_in (rows c.right) 0) w.1.2.0 in
        let l = left-for 0 w.1.0 w.1.1 in
        let r = right-for 0 w.1.2.0 w.1.2.1 in
        let is : IsJoined x y c.hash_price t = w.1.2.2 in
        let lrow = row-with x.internal 0 in
        let rrow = row-with y.internal 0 in
        let hashed : IsHashed ways.heads.items lrow rrow c.hash_price f t.internal = record { asks_nothing = w.0; costs = omega (arith, is.costs, cost-with x.internal, cost-with y.internal) } in
        let joins = subst (λ b. IsHash ways.task.now (listed ways.task.now) ways.fronts.items lrow rrow a b f t.internal) fs.rest (hashed_is ways set k within inside lrow rrow f t.internal front_in hashed) in
        let lplan : IsPlanFor false ways.task.now (every orders) (order_of ways 0) a (cost_at lrow 0) l.plan = record { valid = l.plain refl; covers_set = l.is.covers_set; begins = l.is.begins; costs = l.is.costs ∙ sym (cost-with x.internal); sorts_wanted = l.is.sorts_wanted } in
        let rplan : IsPlanFor false ways.task.now (every orders) (order_of ways 0) (set - a) (cost_at rrow 0) r.plan = record { valid = r.plain refl; covers_set = r.is.covers_set; begins = r.is.begins; costs = r.is.costs ∙ sym (cost-with y.internal); sorts_wanted = r.is.sorts_wanted } in
        let box : Box (Unit {0}) Global = record { ptr = null_ptr; alloc = alloc; value = tt } in
        let made = hash_built false ways.task.now (every orders) (listed ways.task.now) ways.fronts.items lrow rrow set a f t.internal l.plan r.plan (Hash' box l.plan box r.plan) (refl, refl) fs.parts joins lplan rplan in
        let sum : a + (set - a) ≡ set = omega arith in
        record {
          plan = Hash' box l.plan box r.plan;
          is = record { valid = made.valid; covers_set = made.covers_set; begins = made.begins; costs = made.costs; sorts_wanted = made.sorts_wanted };
          plain = λ zeroth. made.valid;
          reads = λ slot has. ap (λ s. cond (has_slot s slot) (choice l.plan slot) (choice r.plan slot)) l.is.covers_set ∙ joined-reads x y t l.plan r.plan a (set - a) set c.hash_price sum fs.parts.apart is l.reads l.others r.reads r.others slot has;
          others = joined-others x y t l.plan r.plan a (set - a) set c.hash_price sum fs.parts.apart is l.reads l.others r.reads r.others;
        }

    given-merge : (j : ℕ) → j < length (merges_in ways (cut_at (cuts_of ways set) k)) → (t : Template) → MergeGives ways rows f (cut_at (cuts_of ways set) k) (merge_at (merges_in ways (cut_at (cuts_of ways set) k)) j) t → IsFor ways orders set f t
    given-merge j j_in t w =
        let c : Cut = cut_at (cuts_of ways set) k in
        let m : Merge = merge_at (merges_in ways c) j in
        let a : ℕ = c.left in
        let g = w.0 in
        let h : ℕ = m.right_front in
        let fs = facts ways set k within inside in
        let less = fs.parts.less in
        let x = template_at (cell_in (rows c.left) g) w.2.0 in
        let y = template_at (cell_in (rows c.right) h) w.2.2.0 in
        let l = left-for g w.2.0 w.2.1 in
        let r = right-for h w.2.2.0 w.2.2.1 in
        let is : IsJoined x y c.merge_price t = w.2.2.2 in
        let lrow = row-with x.internal g in
        let rrow = row-with y.internal h in
        let merged : IsMergedBy ways.heads.items lrow rrow c.merge_price (merges_in ways c) f t.internal j g = record { within = j_in; serves = w.1; costs = omega (arith, is.costs, any-with x.internal g, any-with y.internal h) } in
        let joins = subst (λ b. IsMerge ways.task.now (listed ways.task.now) ways.fronts.items lrow rrow a b f t.internal m.edge g h) fs.rest (merged_is ways set k within inside lrow rrow f t.internal j g front_in merged) in
        let lplan : IsPlanFor true ways.task.now (every orders) (order_of ways g) a (any_at lrow g) l.plan = record { valid = l.is.valid; covers_set = l.is.covers_set; begins = l.is.begins; costs = l.is.costs ∙ sym (any-with x.internal g); sorts_wanted = l.is.sorts_wanted } in
        let rplan : IsPlanFor true ways.task.now (every orders) (order_of ways h) (set - a) (any_at rrow h) r.plan = record { valid = r.is.valid; covers_set = r.is.covers_set; begins = r.is.begins; costs = r.is.costs ∙ sym (any-with y.internal h); sorts_wanted = r.is.sorts_wanted } in
        let box : Box (Unit {0}) Global = record { ptr = null_ptr; alloc = alloc; value = tt } in
        let made = merge_built false ways.task.now (every orders) (listed ways.task.now) ways.fronts.items lrow rrow set a f t.internal m.edge g h l.plan r.plan (Merge' m.edge box l.plan box r.plan) (refl, refl, refl) fs.parts joins lplan rplan in
        let sum : a + (set - a) ≡ set = omega arith in
        record {
          plan = Merge' m.edge box l.plan box r.plan;
          is = record { valid = made.valid; covers_set = made.covers_set; begins = made.begins; costs = made.costs; sorts_wanted = made.sorts_wanted };
          plain = λ zeroth. made.valid;
          reads = λ slot has. ap (λ s. cond (has_slot s slot) (choice l.plan slot) (choice r.plan slot)) l.is.covers_set ∙ joined-reads x y t l.plan r.plan a (set - a) set c.merge_price sum fs.parts.apart is l.reads l.others r.reads r.others slot has;
          others = joined-others x y t l.plan r.plan a (set - a) set c.merge_price sum fs.parts.apart is l.reads l.others r.reads r.others;
        }

  wanted : 0 < f → IsWantedList ways.task.now (order_of ways f)
  wanted some =
      front_wanted ways.task.now ways.fronts.items f (slice_index_or ways.fronts.items f Any) refl front_in ways.known.needs.needed (λ any.
      let asks_none : order_of ways f ≡ [] = ap (front_order (listed ways.task.now)) any in
      elim (cases_lt f 2) [
        | inl less ↦
            let one : f ≡ 1 = omega arith in
            let listed_is : slice_index_or ways.fronts.items f Any ≡ Listed = ap (λ k. slice_index_or ways.fronts.items k Any) one ∙ ways.known.needs.all in
            cc
        | inr past ↦
            let count = ways.known.needs.first.count in
            ways.known.needs.apart.asks f (omega arith) (omega arith) (ways.known.needs.first.each f front_in ∙ ap first_item asks_none)
      ])

  module _ (input : List Template) (input_for : 0 < f → All (IsFor ways orders set 0) input) where
    given-sort : (t : Template) → SortGives ways set f input t → IsFor ways orders set f t
    given-sort t w =
        let some = w.0 in
        let x = template_at input w.2.0 in
        let is = w.2.2 in
        let from = input_for some w.2.0 no_template w.2.1 in
        let row = row-with x.internal 0 in
        let inner : IsPlanFor false ways.task.now (every orders) (order_of ways 0) set (cost_at row 0) from.plan = record { valid = from.plain refl; covers_set = from.is.covers_set; begins = from.is.begins; costs = from.is.costs ∙ sym (cost-with x.internal); sorts_wanted = from.is.sorts_wanted } in
        let sorting : IsSorting ways.task.now (listed ways.task.now) ways.fronts.items row set f t.internal = record { columns = all_columns set (order_of ways f) w.1; costs = omega (arith, is.costs, cost-with x.internal) } in
        let box : Box (Unit {0}) Global = record { ptr = null_ptr; alloc = alloc; value = tt } in
        record {
          plan = Sort' (order_of ways f) box from.plan;
          is = sort_built ways.task.now (every orders) (listed ways.task.now) ways.fronts.items row set f t.internal from.plan (Sort' (order_of ways f) box from.plan) (refl, refl) inner sorting (wanted some);
          plain = λ zeroth. absurd (omega (arith, some, zeroth));
          reads = λ slot has. from.reads slot has ∙ sym (is.needs slot);
          others = λ slot lacks. is.needs slot ∙ from.others slot lacks;
        }

    pub given-for : (t : Template) → IsGiven ways orders rows input set f t → IsFor ways orders set f t
    given-for t (inl (inl sort)) = given-sort t sort
    given-for t (inl (inr read)) = given-read t read
    given-for t (inr w) =
        elim w.2 [ inl hash ↦ given-hash w.0 w.1 t hash | inr merge ↦ given-merge w.0 w.1 merge.0 merge.1 t merge.2 ]

    pub cell-for : (cell : List Template) → Takes orders (IsGiven ways orders rows input set f) [] cell → All (IsFor ways orders set f) cell
    cell-for cell takes k d there =
        let t = template_at cell k in
        let here : IsFor ways orders set f t =
        elim (takes.from k there) [
          | inl old ↦ absurd (omega (arith, old.1))
          | inr given ↦ given-for t given
        ] in
        subst (IsFor ways orders set f) (get_or_default cell k no_template d there) here

-- such templates cost little
pub for-small : (ways : Ways) (orders : List (List Order)) (set f : ℕ) (t : Template) → OfferTableLimits (every orders) → IsFor ways orders set f t → IsSmall t
for-small ways orders set f t limits h =
    omega (arith, valid-most true ways.task.now (every orders) h.plan limits h.is.valid, h.is.costs)

pub cell-small : (ways : Ways) (orders : List (List Order)) (set f : ℕ) (cell : List Template) → OfferTableLimits (every orders) → All (IsFor ways orders set f) cell → All IsSmall cell
cell-small ways orders set f cell limits h k d within =
    for-small ways orders set f (get_or cell k d) limits (h k d within)

pub rows-small : (ways : Ways) (orders : List (List Order)) (rows : List (List (List Template))) → OfferTableLimits (every orders) → AreRowsOf ways orders rows (length rows) → (s f : ℕ) → All IsSmall (cell_in (row_in rows s) f)
rows-small ways orders rows limits done s f =
    elim (cases_lt s (length rows)) [
      | inl less ↦ cell-small ways orders s f (cell_in (row_in rows s) f) limits ((done.each s less).plans f)
      | inr past ↦
          let none : cell_in (row_in rows s) f ≡ [] = ap (λ r. cell_in r f) (get_or_past rows s [] past) ∙ get_or_past {X = List Template} [] f [] (omega arith) in
          λ k d within. absurd (omega (arith, within, ap length none))
    ]
