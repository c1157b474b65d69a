-- The least costs of the templates that fit a combination bound what plans above its leaves cost.
use Rattle.std.proofs.Common.{◌≡◌, inl, inr, ℕ, zero, suc, ◌+◌, ◌^◌, ◌<◌, ◌≤◌, ◌==◌, true, cond, List, [], ◌∷◌, length, map, take, get_or, All, refl, sym, ap, ◌∙◌, subst, arith}
use Rattle.std.specs.List.{range_with_len}
use Rattle.std.proofs.lemmas.Bool.{cases_lt, cases_eq, eq-eqb, ne_eqb}
use Rattle.std.proofs.lemmas.List.{get_or-take, get_or_past}
use Rattle.std.proofs.lemmas.List.FromFn.{get_or-map-range_with_len, length-map-range_with_len}
use Rattle.adv_base.specs.Items.{Order, BeginsWith}
use Rattle.adv_base.specs.OfferTables.{price_at, order_at}
use Rattle.adv_base.proofs.Begins.{begins_nil, begins_self}
use Rattle.plan_model.specs.declared.template.Template.{Template}
use Rattle.plan_model.specs.Costs.{rows_in, sort_cost}
use Rattle.plan_model.specs.Plans.{is_column_of}
use Rattle.plan_model.specs.Combinations.{Orders, free}
use Rattle.planner.specs.declared.cell.Cell.{Cell}
use Rattle.planner.specs.declared.cuts.Cut.{Cut}
use Rattle.planner.specs.declared.cuts.Merge.{Merge}
use Rattle.planner.specs.declared.ways.Ways.{Ways}
use Rattle.planner.specs.Fronts.{head_at, listed}
use Rattle.planner.specs.Cells.{blank, any_at, cell_at, cost_at}
use Rattle.planner.specs.Cuts.{cut_at, merge_at}
use Rattle.planner.specs.Choices.{HashBound, MergesBound}
use Rattle.planner.specs.Rows.{width, order_of, cuts_of, merges_in, sets_of, IsLowRow}
use Rattle.planner.proofs.Begins.{longer_in}
use Rattle.planner.proofs.Lower.{AreBlank, IsLow, all_low}
use Rattle.planner.proofs.Reading.{test_from_begins}
use Rattle.planner.proofs.Tabling.{columns_all}
use Rattle.planner.proofs.Upper.{facts, means_at}
use Rattle.inum_cache.specs.Numbering.{size_in, order_in}
use Rattle.inum_cache.specs.inner.Cells.{place_at, asks, template_at, joined_place, Fits, IsReplaced, IsJoined, IsRaised, JoinGives, RaiseGives, least_fit}
use Rattle.inum_cache.specs.inner.Passes.{cell_in, row_in, AreRowsOf, IsLeaf}
use Rattle.inum_cache.proofs.Fitting.{asks-past, least_fit-most, least_fit-found, least_fit-replaced}

-- ## Lists of places

leaf-list : ℕ → ℕ → List ℕ
leaf-list zero place = place ∷ []
leaf-list (suc n) place = 0 ∷ leaf-list n place

leaf-here : (slot place : ℕ) → get_or (leaf-list slot place) slot 0 ≡ place
unfolding leaf-list
leaf-here zero place = refl
leaf-here (suc n) place = leaf-here n place

leaf-others : (slot place s : ℕ) → ¬ (s ≡ slot) → get_or (leaf-list slot place) s 0 ≡ 0
unfolding leaf-list
leaf-others zero place zero differ = absurd (differ refl)
leaf-others zero place (suc s) differ = refl
leaf-others (suc n) place zero differ = refl
leaf-others (suc n) place (suc s) differ = leaf-others n place s (λ e. differ (ap suc e))

join-lists : List ℕ → List ℕ → List ℕ
join-lists [] ys = ys
join-lists (x ∷ xs) [] = x ∷ xs
join-lists (x ∷ xs) (y ∷ ys) = cond (x == 0) y x ∷ join-lists xs ys

own-place : (x : ℕ) → x ≡ cond (x == 0) 0 x
own-place x =
    elim (cases_eq x 0) [
      | inl none ↦ none ∙ sym (ap (λ b. cond b 0 x) (eq-eqb x 0 none))
      | inr some ↦ sym (ap (λ b. cond b 0 x) (ne_eqb x 0 some))
    ]

join-at : (xs ys : List ℕ) (k : ℕ) → get_or (join-lists xs ys) k 0 ≡ joined_place xs ys k
unfolding join-lists
join-at [] ys k = refl
join-at (x ∷ xs) [] zero = own-place x
join-at (x ∷ xs) [] (suc k) = own-place (get_or xs k 0)
join-at (x ∷ xs) (y ∷ ys) zero = refl
join-at (x ∷ xs) (y ∷ ys) (suc k) = join-at xs ys k

-- ## Least costs after joins and sorts

module _ (orders : List (List Order)) (needs : Orders) where
  fits-joined : (left right t : Template) (price : ℕ) → Fits orders needs left → Fits orders needs right → IsJoined left right price t → Fits orders needs t
  fits-joined left right t price l r is =
      record {
        fronts = λ slot.
            let at : ℕ → Type 0 = λ p. BeginsWith (needs slot) (order_in orders slot p) in
            elim (cases_eq (place_at left slot) 0) [
              | inl none ↦ subst at (sym (is.needs slot ∙ ap (λ b. cond b (place_at right slot) (place_at left slot)) (eq-eqb (place_at left slot) 0 none))) (r.fronts slot)
              | inr some ↦ subst at (sym (is.needs slot ∙ ap (λ b. cond b (place_at right slot) (place_at left slot)) (ne_eqb (place_at left slot) 0 some))) (l.fronts slot)
            ];
      }

  join-low : (left right cell : List Template) (price : ℕ) → ((t : Template) → JoinGives left right price t → IsReplaced orders cell t) → least_fit orders needs cell ≤ least_fit orders needs left + least_fit orders needs right + price
  join-low left right cell price given =
      let most = least_fit-most orders needs cell in
      elim (cases_lt (least_fit orders needs left) 1000000000000000000000000000000) [
        | inr none ↦ omega (arith, most, none)
        | inl some ↦
            elim (cases_lt (least_fit orders needs right) 1000000000000000000000000000000) [
              | inr none ↦ omega (arith, most, none)
              | inl other ↦
                  let l = least_fit-found orders needs left some in
                  let r = least_fit-found orders needs right other in
                  let x = template_at left l.number in
                  let y = template_at right r.number in
                  let t : Template = record { internal = x.internal + y.internal + price; needs = join-lists x.needs y.needs } in
                  let is : IsJoined x y price t = record { costs = refl; needs = λ slot. join-at x.needs y.needs slot } in
                  let low = least_fit-replaced orders needs cell t (given t (l.number, l.within, (r.number, r.within, is))) (fits-joined x y t price l.fits r.fits is) in
                  omega (arith, low, l.costs, r.costs)
            ]
      ]

  raise-low : (from cell : List Template) (price : ℕ) → ((t : Template) → RaiseGives from price t → IsReplaced orders cell t) → least_fit orders needs cell ≤ least_fit orders needs from + price
  raise-low from cell price given =
      let most = least_fit-most orders needs cell in
      elim (cases_lt (least_fit orders needs from) 1000000000000000000000000000000) [
        | inr none ↦ omega (arith, most, none)
        | inl some ↦
            let l = least_fit-found orders needs from some in
            let x = template_at from l.number in
            let t : Template = record { internal = x.internal + price; needs = x.needs } in
            let is : IsRaised x price t = record { costs = refl; needs = λ slot. refl } in
            let fits : Fits orders needs t = record { fronts = l.fits.fronts } in
            let low = least_fit-replaced orders needs cell t (given t (l.number, l.within, is)) fits in
            omega (arith, low, l.costs)
      ]

-- ## Rows of least costs

-- an order of a slot at some place is that of the combination
pub record IsPlacedAt (orders : List (List Order)) (needs : Orders) (slot : ℕ) : Type 0 where
  pub place : ℕ
  pub within : place < size_in orders slot
  pub is : order_in orders slot place ≡ needs slot

module _ (ways : Ways) (orders : List (List Order)) (rows : List (List (List Template))) (first : (slot : ℕ) → slot < length orders → order_in orders slot 0 ≡ []) (done : AreRowsOf ways orders rows (sets_of ways)) (needs : Orders) (placed : (slot : ℕ) → slot < ways.task.now.slots → IsPlacedAt orders needs slot) where
  abbrev pub fit-cell : ℕ → ℕ → Cell
  fit-cell s f =
      record { cost = least_fit orders needs (cell_in (row_in rows s) f); any = least_fit orders needs (cell_in (row_in rows s) f) }

  abbrev pub fit-row : ℕ → List Cell
  fit-row s = map (fit-cell s) (range_with_len 0 (width ways))

  cell-is : (s f : ℕ) → f < width ways → cell_at (fit-row s) f ≡ fit-cell s f
  cell-is s f front_in = get_or-map-range_with_len (fit-cell s) 0 (width ways) f f blank front_in (omega arith)

  cell-past : (s f : ℕ) → width ways ≤ f → cell_at (fit-row s) f ≡ blank
  cell-past s f past =
      get_or_past (fit-row s) f blank (omega (arith, past, length-map-range_with_len (fit-cell s) 0 (width ways)))

  pub cost-is : (s f : ℕ) → f < width ways → cost_at (fit-row s) f ≡ least_fit orders needs (cell_in (row_in rows s) f)
  cost-is s f front_in = ap (λ (x : Cell). x.cost) (cell-is s f front_in)

  pub any-is : (s f : ℕ) → f < width ways → any_at (fit-row s) f ≡ least_fit orders needs (cell_in (row_in rows s) f)
  any-is s f front_in = ap (λ (x : Cell). x.any) (cell-is s f front_in)

  no-order : (t : Template) (slot : ℕ) → place_at t slot ≡ 0 → BeginsWith (needs slot) (asks orders t slot)
  no-order t slot none =
      elim (cases_lt slot (length orders)) [
        | inl below ↦ subst (BeginsWith (needs slot)) (sym (ap (order_in orders slot) none ∙ first slot below)) (begins_nil (needs slot))
        | inr past ↦ subst (BeginsWith (needs slot)) (sym (asks-past orders t slot past)) (begins_nil (needs slot))
      ]

  module _ (s : ℕ) (within : s < sets_of ways) (f : ℕ) (front_in : f < width ways) where
    read-low : (slot offer : ℕ) → slot < ways.task.now.slots → offer < length (free needs slot) → 2 ^ slot ≡ s → BeginsWith (order_at (free needs) slot offer) (order_of ways f) → cost_at (fit-row s) f ≤ price_at (free needs) slot offer
    read-low slot zero slot_in offer_in is begins =
        let p = placed slot slot_in in
        let t : Template = record { internal = 0; needs = leaf-list slot p.place } in
        let leaf : IsLeaf slot p.place t = record { costs = refl; here = leaf-here slot p.place; others = leaf-others slot p.place } in
        let test = test_from_begins (order_in orders slot p.place) (order_of ways f) (subst (λ (o : Order). BeginsWith o (order_of ways f)) (sym p.is) begins) in
        let fits : Fits orders needs t = record {
          fronts = λ k.
              elim (cases_eq k slot) [
                | inl here ↦
                    subst (λ j. BeginsWith (needs j) (asks orders t j)) (sym here)
                    (subst (BeginsWith (needs slot)) (sym (ap (order_in orders slot) (leaf-here slot p.place) ∙ p.is)) (begins_self (needs slot)))
                | inr other ↦ no-order t k (leaf-others slot p.place k other)
              ];
        } in
        let low = least_fit-replaced orders needs (cell_in (row_in rows s) f) t (((done.each s within).takes f front_in).given t (inl (inr (slot, slot_in, (is, (p.place, p.within, (test, leaf))))))) fits in
        omega (arith, low, cost-is s f front_in)
    read-low slot (suc offer) slot_in offer_in is begins = absurd (omega (arith, offer_in))

    -- the rows of a cut's parts stand before this one
    early : (k : ℕ) → k < length (cuts_of ways s) → (g h price : ℕ) (t : Template) → JoinGives (cell_in (row_in rows (cut_at (cuts_of ways s) k).left) g) (cell_in (row_in rows (cut_at (cuts_of ways s) k).right) h) price t → JoinGives (cell_in (row_in (take s rows) (cut_at (cuts_of ways s) k).left) g) (cell_in (row_in (take s rows) (cut_at (cuts_of ways s) k).right) h) price t
    early k inside g h price t join =
        let cut : Cut = cut_at (cuts_of ways s) k in
        let some = (facts ways s k within inside).parts.some in
        let less = (facts ways s k within inside).parts.less in
        let rest = (facts ways s k within inside).rest in
        subst (λ (r : List (List Template)). JoinGives (cell_in r g) (cell_in (row_in (take s rows) cut.right) h) price t) (sym (get_or-take s rows cut.left [] less)) (subst (λ (r : List (List Template)). JoinGives (cell_in (row_in rows cut.left) g) (cell_in r h) price t) (sym (get_or-take s rows cut.right [] (omega arith))) join)

    hash-low : (k : ℕ) → k < length (cuts_of ways s) → HashBound ways.heads.items (fit-row (cut_at (cuts_of ways s) k).left) (fit-row (cut_at (cuts_of ways s) k).right) (cut_at (cuts_of ways s) k).hash_price f (cost_at (fit-row s) f)
    hash-low k inside =
        let cut : Cut = cut_at (cuts_of ways s) k in
        let some : 0 < width ways = omega (arith, front_in) in
        record {
          bound = λ none.
              let low = join-low orders needs (cell_in (row_in rows cut.left) 0) (cell_in (row_in rows cut.right) 0) (cell_in (row_in rows s) f) cut.hash_price (λ t j. ((done.each s within).takes f front_in).given t (inr (k, inside, inl (none, early k inside 0 0 cut.hash_price t j)))) in
              omega (arith, low, cost-is s f front_in, cost-is cut.left 0 some, cost-is cut.right 0 some);
        }

    merge-low : (k : ℕ) → k < length (cuts_of ways s) → MergesBound ways.heads.items (fit-row (cut_at (cuts_of ways s) k).left) (fit-row (cut_at (cuts_of ways s) k).right) (cut_at (cuts_of ways s) k).merge_price (merges_in ways (cut_at (cuts_of ways s) k)) f (cost_at (fit-row s) f)
    merge-low k inside =
        let cut : Cut = cut_at (cuts_of ways s) k in
        record {
          each = λ j j_in. record {
            each = λ g serves.
                let m : Merge = merge_at (merges_in ways cut) j in
                let low = join-low orders needs (cell_in (row_in rows cut.left) g) (cell_in (row_in rows cut.right) m.right_front) (cell_in (row_in rows s) f) cut.merge_price (λ t w. ((done.each s within).takes f front_in).given t (inr (k, inside, inr (j, j_in, (g, serves, early k inside g m.right_front cut.merge_price t w))))) in
                let means = means_at ways s k within inside j j_in in
                let left_in = longer_in (width ways) m.left_need f g (head_at ways.heads.items m.left_need) (head_at ways.heads.items f) means.left_in front_in serves in
                omega (arith, low, cost-is s f front_in, any-is cut.left g left_in, any-is cut.right m.right_front means.right_in);
          };
        }

    sort-low : All (λ item. is_column_of s item ≡ true) (order_of ways f) → any_at (fit-row s) f ≤ cost_at (fit-row s) 0 + sort_cost ways.task.now.rates (rows_in ways.task.now s)
    sort-low columns =
        elim (cases_lt 0 f) [
          | inl some ↦
              let low = raise-low orders needs (cell_in (row_in rows s) 0) (cell_in (row_in rows s) f) (sort_cost ways.task.now.rates (rows_in ways.task.now s)) (λ t w. ((done.each s within).takes f front_in).given t (inl (inl (some, columns_all s (order_of ways f) columns, w)))) in
              omega (arith, low, any-is s f front_in, cost-is s 0 (omega (arith, some, front_in)))
          | inr none ↦
              let zeroth : f ≡ 0 = omega (arith, none) in
              let same : cost_at (fit-row s) f ≡ cost_at (fit-row s) 0 = ap (cost_at (fit-row s)) zeroth in
              omega (arith, same, any-is s f front_in, cost-is s f front_in)
        ]

  capped : (s f : ℕ) → cost_at (fit-row s) f ≤ 1000000000000000000000000000000
  capped s f =
      elim (cases_lt f (width ways)) [
        | inl front_in ↦ omega (arith, cost-is s f front_in, least_fit-most orders needs (cell_in (row_in rows s) f))
        | inr past ↦ let is : cost_at (fit-row s) f ≡ 1000000000000000000000000000000 = ap (λ (x : Cell). x.cost) (cell-past s f past) in omega (arith, is)
      ]

  blanks : AreBlank ways fit-row
  blanks =
      record {
        each = λ s within off f.
            elim (cases_lt f (width ways)) [
              | inr past ↦ cell-past s f past
              | inl front_in ↦
                  let empty : cell_in (row_in rows s) f ≡ [] = ap (λ (r : List (List Template)). cell_in r f) ((done.each s within).blank off) ∙ get_or_past {X = List Template} [] f [] (omega arith) in
                  cell-is s f front_in ∙ ap (λ (x : List Template). record { cost = least_fit orders needs x; any = least_fit orders needs x }) empty
            ];
      }

  row-low : (s : ℕ) → s < sets_of ways → IsLowRow ways (free needs) fit-row s (fit-row s)
  row-low s within =
      record {
        capped = λ f. capped s f;
        reads = λ f front_in. record { each = read-low s within f front_in };
        joins = λ k inside f front_in. record { hash = hash-low s within f front_in k inside; merges = merge-low s within f front_in k inside };
        without = λ f front_in. omega (arith, any-is s f front_in, cost-is s f front_in);
        with_sort = λ f front_in columns. sort-low s within f front_in columns;
      }

  -- what fits a combination costs at most what any plan above its leaves does
  pub fit-low : (s : ℕ) → s < sets_of ways → IsLow ways.task.now (free needs) (listed ways.task.now) ways.fronts.items s (fit-row s)
  fit-low s within = all_low ways (free needs) fit-row (record { each = row-low }) blanks s within
