-- Rows after joins, and the table of rows.
use Rattle.std.proofs.Common.{◌≡◌, ℕ, ◌+◌, ◌-◌, ◌*◌, ◌^◌, ◌<◌, ◌≤◌, ◌⊎◌, inl, inr, Bool, true, false, cond, nat_lt, List, [], ◌∷◌, length, take, drop, All, Option, slice_index, slice_get, refl, sym, ap, ◌∙◌, subst, arith}
use Rattle.std.specs.List.{list_all, slice_range}
use Rattle.std.specs.Option.{option_map_or}
use Rattle.std.proofs.Math.Pow.{pow_mono}
use Rattle.std.proofs.lemmas.Nat.{row_fits}
use Rattle.std.proofs.lemmas.Bool.{false≢true, cases_lt, cases_Bool, and_parts, and_from}
use Rattle.std.proofs.lemmas.Bool.Decides.{nat_tests}
use borrow.Rule.Slice.PartMut.{put_mid}
use Rattle.std.proofs.lemmas.Slice.{take-put_mid_below, drop-put_mid}
use Rattle.std.proofs.lemmas.List.{get_or_past, length-take, length-drop, drop-take}
use Rattle.std.proofs.lemmas.List.Elements.{All-head, All-tail, All-nil, All-cons, All-take, All-drop, All-get_or}
use Rattle.adv_base.specs.Items.{Order, BeginsWith}
use Rattle.adv_base.specs.Offers.{Offer, OfferTable}
use Rattle.adv_base.specs.declared.workload.parts.Item.{Item}
use Rattle.plan_model.specs.declared.task.Task.{Task}
use Rattle.adv_base.specs.OfferTables.{price_at}
use Rattle.plan_model.specs.Plans.{is_column_of}
use Rattle.plan_model.specs.Costs.{rows_in, sort_cost}
use Rattle.planner.specs.declared.front.Front.{Front}
use Rattle.planner.specs.declared.cell.Cell.{Cell}
use Rattle.planner.specs.declared.cell.TheConstants.{IMPOSSIBLE}
use Rattle.planner.specs.declared.cuts.Cut.{Cut}
use Rattle.planner.specs.declared.ways.Ways.{Ways}
use Rattle.planner.specs.Fronts.{listed}
use Rattle.planner.specs.Cells.{blank, cell_at, cost_at, any_at, row_of}
use Rattle.planner.specs.inner.Steps.{finished, IsStep, AreOffers}
use Rattle.planner.specs.declared.cuts.Merge.{Merge}
use Rattle.planner.specs.Cuts.{cut_at, merge_at, is_covered, IsCutOf}
use Rattle.planner.specs.Choices.{IsSorting, IsOffered, IsHashed, IsMerged, HashBound, MergesBound}
use Rattle.planner.specs.Rows.{width, order_of, cuts_of, merges_in, sets_of, OffersBound, CutBound, IsCapped, IsCutBy, IsJoined, IsMade, IsRow, IsTable, AreRows}
use Rattle.planner.proofs.Lower.{AreBlank}
use Rattle.planner.proofs.Steps.{hash_falls, merges_fall, step_then, step_wider}
use Rattle.plan_model.proofs.Exists.{rows_most, hash_most, merge_most}
use Rattle.planner.proofs.Upper.{facts, means_at}

pub cut_falls : (ways : Ways) (rows : ℕ → List Cell) (cut : Cut) (f cost less : ℕ) → less ≤ cost → CutBound ways rows cut f cost → CutBound ways rows cut f less
cut_falls ways rows cut f cost less low h =
    record {
      hash = hash_falls ways.heads.items (rows cut.left) (rows cut.right) cut.hash_price f cost less low h.hash;
      merges = merges_fall ways.heads.items (rows cut.left) (rows cut.right) cut.merge_price (merges_in ways cut) f cost less low h.merges;
    }

-- what `finished` gives
pub finished_cases : (cell : Cell) (can : Bool) (sorted : ℕ) → ((finished cell can sorted).any ≡ cell.cost) ⊎ ((can ≡ true) × ((finished cell can sorted).any ≡ sorted))
finished_cases cell true sorted =
    elim (cases_Bool (nat_lt sorted cell.cost)) [
      | inl h ↦ inr (refl, ap (λ b. cond b sorted cell.cost) h)
      | inr h ↦ inl (ap (λ b. cond b sorted cell.cost) h)
    ]
finished_cases cell false sorted = inl refl

pub finished_lower : (cell : Cell) (can : Bool) (sorted : ℕ) → (finished cell can sorted).any ≤ cell.cost
finished_lower cell true sorted = grind (arith, nat_tests)
finished_lower cell false sorted = omega arith

pub finished_sorted : (cell : Cell) (can : Bool) (sorted : ℕ) → can ≡ true → (finished cell can sorted).any ≤ sorted
finished_sorted cell true sorted h = grind (arith, nat_tests)
finished_sorted cell false sorted h = absurd (false≢true h)

pub all_columns : (set : ℕ) (order : Order) → list_all (is_column_of set) order ≡ true → All (λ item. is_column_of set item ≡ true) order
all_columns set [] h = All-nil (λ item. is_column_of set item ≡ true)
all_columns set (x ∷ xs) h =
    let p = and_parts (is_column_of set x) (list_all (is_column_of set) xs) h in
    All-cons (λ item. is_column_of set item ≡ true) x xs p.0 (all_columns set xs p.1)

pub columns_all : (set : ℕ) (order : Order) → All (λ item. is_column_of set item ≡ true) order → list_all (is_column_of set) order ≡ true
columns_all set [] h = refl
columns_all set (x ∷ xs) h =
    and_from (is_column_of set x) (list_all (is_column_of set) xs) (All-head (λ item. is_column_of set item ≡ true) x xs h) (columns_all set xs (All-tail (λ item. is_column_of set item ≡ true) x xs h))

pub blank_offers : (task : Task) (table : OfferTable) (list : Order) (fronts : List Front) (set : ℕ) (row : List Cell) → ((f : ℕ) → cell_at row f ≡ blank) → AreOffers task table list fronts set row
blank_offers task table list fronts set row clear =
    record { each = λ f within. inl (ap (λ (x : Cell). x.cost) (clear f)) }

offers_lower : (task : Task) (table : OfferTable) (order : Order) (set cost less : ℕ) → less ≤ cost → OffersBound task table order set cost → OffersBound task table order set less
offers_lower task table order set cost less low h =
    record { each = λ slot offer a b is begins. let w = h.each slot offer a b is begins in omega arith }

-- the row of a set, made step by step
module _ (ways : Ways) (table : OfferTable) (rows : ℕ → List Cell) (set : ℕ) (r1 r2 r3 : List Cell) (count : length r3 ≡ width ways) (below : (f : ℕ) → f < width ways → cost_at r1 f ≤ IMPOSSIBLE) (offers : AreOffers ways.task.now table (listed ways.task.now) ways.fronts.items set r1) (reads : (f : ℕ) → f < width ways → OffersBound ways.task.now table (order_of ways f) set (cost_at r1 f)) (step : IsStep (width ways) (IsJoined ways rows (cuts_of ways set)) r1 r2) (joins : (k : ℕ) → k < length (cuts_of ways set) → (f : ℕ) → f < width ways → CutBound ways rows (cut_at (cuts_of ways set) k) f (cost_at r2 f)) (each : (f : ℕ) → f < width ways → cell_at r3 f ≡ finished (cell_at r2 f) (list_all (is_column_of set) (order_of ways f)) (cost_at r2 0 + sort_cost ways.task.now.rates (rows_in ways.task.now set))) where
  some : 0 < width ways
  some = omega (arith, ways.known.needs.some)

  same_cost : (f : ℕ) → f < width ways → cost_at r3 f ≡ cost_at r2 f
  same_cost f h = ap (λ (x : Cell). x.cost) (each f h)

  any_is : (f : ℕ) → f < width ways → any_at r3 f ≡ (finished (cell_at r2 f) (list_all (is_column_of set) (order_of ways f)) (cost_at r2 0 + sort_cost ways.task.now.rates (rows_in ways.task.now set))).any
  any_is f h = ap (λ (x : Cell). x.any) (each f h)

  any_lower : (f : ℕ) → f < width ways → any_at r3 f ≤ cost_at r3 f
  any_lower f h =
      omega (arith, any_is f h, same_cost f h, finished_lower (cell_at r2 f) (list_all (is_column_of set) (order_of ways f)) (cost_at r2 0 + sort_cost ways.task.now.rates (rows_in ways.task.now set)))

  past_blank : (f : ℕ) → width ways ≤ f → cell_at r3 f ≡ blank
  past_blank f h = get_or_past r3 f blank (omega arith)

  capped : IsCapped r3
  capped =
      record {
        cost = λ f.
            elim (cases_lt f (width ways)) [
              | inl h ↦ omega (arith, same_cost f h, step.lower f, below f h)
              | inr h ↦ omega (arith, ap (λ (x : Cell). x.cost) (past_blank f h))
            ];
        any = λ f.
            elim (cases_lt f (width ways)) [
              | inl h ↦ omega (arith, any_lower f h, same_cost f h, step.lower f, below f h)
              | inr h ↦ omega (arith, ap (λ (x : Cell). x.any) (past_blank f h))
            ];
      }

  made_at : (f : ℕ) → f < width ways → IsMade ways table rows set f (cost_at r2 f)
  made_at f h =
      elim (step.made f h) [
        | inr joined ↦ inr (inr joined)
        | inl same ↦
            subst (IsMade ways table rows set f) (sym same) (elim (offers.each f h) [
              | inl none ↦ inl none
              | inr offered ↦ inr (inl offered)
            ])
      ]

  sorted_at : (f : ℕ) → f < width ways → (any_at r3 f ≡ cost_at r3 f) ⊎ IsSorting ways.task.now (listed ways.task.now) ways.fronts.items r3 set f (any_at r3 f)
  sorted_at f h =
      elim (finished_cases (cell_at r2 f) (list_all (is_column_of set) (order_of ways f)) (cost_at r2 0 + sort_cost ways.task.now.rates (rows_in ways.task.now set))) [
        | inl same ↦ inl (any_is f h ∙ same ∙ sym (same_cost f h))
        | inr s ↦ inr (record {
          columns = all_columns set (order_of ways f) s.0;
          costs = omega (arith, any_is f h, s.1, same_cost 0 some);
        })
      ]

  pub is_row : IsRow ways table rows set r3
  is_row =
      record {
        count = count;
        capped = capped;
        made = λ f h. subst (IsMade ways table rows set f) (sym (same_cost f h)) (made_at f h);
        sorted = sorted_at;
        reads = λ f h. offers_lower ways.task.now table (order_of ways f) set (cost_at r1 f) (cost_at r3 f) (omega (arith, same_cost f h, step.lower f)) (reads f h);
        joins = λ k within f h. cut_falls ways rows (cut_at (cuts_of ways set) k) f (cost_at r2 f) (cost_at r3 f) (omega (arith, same_cost f h)) (joins k within f h);
        without = any_lower;
        with_sort = λ f h columns.
            let w = finished_sorted (cell_at r2 f) (list_all (is_column_of set) (order_of ways f)) (cost_at r2 0 + sort_cost ways.task.now.rates (rows_in ways.task.now set)) (columns_all set (order_of ways f) columns) in
            omega (arith, any_is f h, w, same_cost 0 some);
      }

cut_by_frame : (ways : Ways) (rows others : ℕ → List Cell) (cut : Cut) (f cost : ℕ) → rows cut.left ≡ others cut.left → rows cut.right ≡ others cut.right → IsCutBy ways rows cut f cost → IsCutBy ways others cut f cost
cut_by_frame ways rows others cut f cost left right h =
    subst (λ l. IsHashed ways.heads.items l (others cut.right) cut.hash_price f cost ⊎ IsMerged ways.heads.items l (others cut.right) cut.merge_price (merges_in ways cut) f cost) left (subst (λ r. IsHashed ways.heads.items (rows cut.left) r cut.hash_price f cost ⊎ IsMerged ways.heads.items (rows cut.left) r cut.merge_price (merges_in ways cut) f cost) right h)

cut_bound_frame : (ways : Ways) (rows others : ℕ → List Cell) (cut : Cut) (f cost : ℕ) → rows cut.left ≡ others cut.left → rows cut.right ≡ others cut.right → CutBound ways rows cut f cost → CutBound ways others cut f cost
cut_bound_frame ways rows others cut f cost left right h =
    record {
      hash = subst (λ l. HashBound ways.heads.items l (others cut.right) cut.hash_price f cost) left (subst (λ r. HashBound ways.heads.items (rows cut.left) r cut.hash_price f cost) right h.hash);
      merges = subst (λ l. MergesBound ways.heads.items l (others cut.right) cut.merge_price (merges_in ways cut) f cost) left (subst (λ r. MergesBound ways.heads.items (rows cut.left) r cut.merge_price (merges_in ways cut) f cost) right h.merges);
    }

-- rows keep their meaning where those below are the same
pub row_frame : (ways : Ways) (table : OfferTable) (rows others : ℕ → List Cell) (set : ℕ) (row : List Cell) → set < sets_of ways → ((s : ℕ) → s < set → rows s ≡ others s) → IsRow ways table rows set row → IsRow ways table others set row
row_frame ways table rows others set row within agree h =
    let left : (k : ℕ) → k < length (cuts_of ways set) → rows (cut_at (cuts_of ways set) k).left ≡ others (cut_at (cuts_of ways set) k).left = λ k inside. agree (cut_at (cuts_of ways set) k).left (facts ways set k within inside).parts.less in
    let right : (k : ℕ) → k < length (cuts_of ways set) → rows (cut_at (cuts_of ways set) k).right ≡ others (cut_at (cuts_of ways set) k).right = λ k inside. (
    let f = facts ways set k within inside in
    let some = f.parts.some in
    let less = f.parts.less in
    agree (cut_at (cuts_of ways set) k).right (omega (arith, f.rest))) in
    record {
      count = h.count;
      capped = h.capped;
      made = λ f front_in.
          elim (h.made f front_in) [
            | inl none ↦ inl none
            | inr made ↦
                elim made [
                  | inl offered ↦ inr (inl offered)
                  | inr j ↦ inr (inr (record {
                    number = j.number;
                    within = j.within;
                    joins = cut_by_frame ways rows others (cut_at (cuts_of ways set) j.number) f (cost_at row f) (left j.number j.within) (right j.number j.within) j.joins;
                  }))
                ]
          ];
      sorted = h.sorted;
      reads = h.reads;
      joins = λ k inside f front_in. cut_bound_frame ways rows others (cut_at (cuts_of ways set) k) f (cost_at row f) (left k inside) (right k inside) (h.joins k inside f front_in);
      without = h.without;
      with_sort = h.with_sort;
    }

row_count : (ways : Ways) (cells : List Cell) (s : ℕ) → length cells ≡ sets_of ways * width ways → s < sets_of ways → length (row_of (width ways) cells s) ≡ width ways
row_count ways cells s whole within =
    let fits : s * width ways + width ways ≤ sets_of ways * width ways = row_fits s (width ways) (sets_of ways) (width ways) within (omega arith) in
    omega (arith, length-take (width ways) (drop (s * width ways) cells), length-drop (s * width ways) cells)

cuts_empty : {X : Type 0} (xs : List X) (i j : ℕ) → i ≡ j → length (slice_range xs i j) ≡ 0
cuts_empty xs i j same = omega (arith, length-take (j - i) (drop i xs))

-- the row of a set that no plan covers is closed
pub blank_row : (ways : Ways) (table : OfferTable) (cells : List Cell) (s : ℕ) → IsTable ways cells → s < sets_of ways → is_covered ways.covered.items s ≡ false → IsRow ways table (row_of (width ways) cells) s (row_of (width ways) cells s)
blank_row ways table cells s t within off =
    let row : List Cell = row_of (width ways) cells s in
    let cost : (f : ℕ) → cost_at row f ≡ IMPOSSIBLE = λ f. ap (λ (x : Cell). x.cost) (t.blanks s within off f) in
    let any : (f : ℕ) → any_at row f ≡ IMPOSSIBLE = λ f. ap (λ (x : Cell). x.any) (t.blanks s within off f) in
    let none : length (cuts_of ways s) ≡ 0 = cuts_empty ways.cuts.items (slice_index ways.starts.items s) (slice_index ways.starts.items (s + 1)) (ways.known.cut.joined s within off) in
    record {
      count = row_count ways cells s t.whole within;
      capped = record { cost = λ f. omega (arith, cost f); any = λ f. omega (arith, any f) };
      made = λ f h. inl (cost f);
      sorted = λ f h. inl (any f ∙ sym (cost f));
      reads = λ f h. record { each = λ slot offer slot_in offer_in is begins. absurd (false≢true (sym off ∙ ways.known.cut.slots s slot within slot_in is)) };
      joins = λ k inside f h. absurd (omega arith);
      without = λ f h. omega (arith, cost f, any f);
      with_sort = λ f h columns. omega (arith, cost 0, any f);
    }

pub table_blanks : (ways : Ways) (cells : List Cell) → IsTable ways cells → AreBlank ways (row_of (width ways) cells)
table_blanks ways cells t = record { each = t.blanks }

pub rows_skip : (ways : Ways) (table : OfferTable) (cells : List Cell) (set : ℕ) → IsTable ways cells → set < sets_of ways → is_covered ways.covered.items set ≡ false → AreRows ways table (row_of (width ways) cells) set → AreRows ways table (row_of (width ways) cells) (set + 1)
rows_skip ways table cells set t within off h =
    record {
      each = λ s below.
          elim (cases_lt s set) [
            | inl less ↦ h.each s less
            | inr past ↦
                let same : set ≡ s = omega arith in
                subst (λ n. IsRow ways table (row_of (width ways) cells) n (row_of (width ways) cells n)) same (blank_row ways table cells set t within off)
          ];
    }

-- a table after a row was written over that of a set
module _ (ways : Ways) (table : OfferTable) (old new row : List Cell) (set : ℕ) (within : set < sets_of ways) (count : length new ≡ length old) (here : row_of (width ways) new set ≡ row) (others : (s : ℕ) → ¬ (s ≡ set) → row_of (width ways) new s ≡ row_of (width ways) old s) where
  pub table_put : is_covered ways.covered.items set ≡ true → IsTable ways old → IsTable ways new
  table_put on t =
      record {
        whole = count ∙ t.whole;
        blanks = λ s inside off f.
            let differ : ¬ (s ≡ set) = λ same. false≢true (sym off ∙ ap (is_covered ways.covered.items) same ∙ on) in
            ap (λ r. cell_at r f) (others s differ) ∙ t.blanks s inside off f;
      }

  pub rows_put : IsRow ways table (row_of (width ways) old) set row → AreRows ways table (row_of (width ways) old) set → AreRows ways table (row_of (width ways) new) (set + 1)
  rows_put r h =
      let agree : (s : ℕ) → s < set → row_of (width ways) old s ≡ row_of (width ways) new s = λ s less. sym (others s (λ same. absurd (omega arith))) in
      record {
        each = λ s below.
            elim (cases_lt s set) [
              | inl less ↦
                  subst (IsRow ways table (row_of (width ways) new) s) (agree s less) (row_frame ways table (row_of (width ways) old) (row_of (width ways) new) s (row_of (width ways) old s) (omega arith) (λ k under. agree k (omega arith)) (h.each s less))
              | inr past ↦
                  let same : set ≡ s = omega arith in
                  subst (λ n. IsRow ways table (row_of (width ways) new) n (row_of (width ways) new n)) same (subst (IsRow ways table (row_of (width ways) new) set) (sym here) (row_frame ways table (row_of (width ways) old) (row_of (width ways) new) set row within agree r))
            ];
      }

-- offers of lower slots alone make the rows of their sets
module _ (ways : Ways) (before table : OfferTable) (slot : ℕ) (alike : (s : ℕ) → s < slot → table s ≡ before s) where
  lower_slot : (s k : ℕ) → s < 2 ^ slot → 2 ^ k ≡ s → k < slot
  lower_slot s k below is =
      elim (cases_lt k slot) [
        | inl less ↦ less
        | inr past ↦ let most : 2 ^ slot ≤ 2 ^ k = pow_mono past in absurd (omega arith)
      ]

  offered_frame : (order : Order) (s cost : ℕ) → s < 2 ^ slot → IsOffered ways.task.now before order s cost → IsOffered ways.task.now table order s cost
  offered_frame order s cost below h =
      let is = h.read.set_is in
      let same = sym (alike h.slot (lower_slot s h.slot below is)) in
      record {
        slot = h.slot;
        offer = h.offer;
        read = record {
          slot_in = h.read.slot_in;
          offer_in = subst (λ (xs : List Offer). h.offer < length xs) same h.read.offer_in;
          set_is = is;
          begins = subst (λ (xs : List Offer). BeginsWith (option_map_or (λ o. o.0) (slice_get xs h.offer) []) order) same h.read.begins;
          costs = h.read.costs ∙ ap (λ (xs : List Offer). option_map_or (λ o. o.1) (slice_get xs h.offer) 0) same;
        };
      }

  row_offers : (rows : ℕ → List Cell) (s : ℕ) (row : List Cell) → s < 2 ^ slot → IsRow ways before rows s row → IsRow ways table rows s row
  row_offers rows s row below h =
      record {
        count = h.count;
        capped = h.capped;
        made = λ f front_in.
            elim (h.made f front_in) [
              | inl none ↦ inl none
              | inr made ↦
                  elim made [
                    | inl offered ↦ inr (inl (offered_frame (order_of ways f) s (cost_at row f) below offered))
                    | inr joined ↦ inr (inr joined)
                  ]
            ];
        sorted = h.sorted;
        reads = λ f front_in. record {
          each = λ k offer k_in offer_in is begins.
              let same = alike k (lower_slot s k below is) in
              let w = (h.reads f front_in).each k offer k_in (subst (λ (xs : List Offer). offer < length xs) same offer_in) is (subst (λ (xs : List Offer). BeginsWith (option_map_or (λ o. o.0) (slice_get xs offer) []) (order_of ways f)) same begins) in
              let price : price_at table k offer ≡ price_at before k offer = ap (λ (xs : List Offer). option_map_or (λ o. o.1) (slice_get xs offer) 0) same in
              omega arith;
        };
        joins = h.joins;
        without = h.without;
        with_sort = h.with_sort;
      }

  -- the rows of sets of lower slots stay
  pub rows_stay : (rows : ℕ → List Cell) (n : ℕ) → AreRows ways before rows n → 2 ^ slot ≤ n → AreRows ways table rows (2 ^ slot)
  rows_stay rows n h most = record { each = λ s below. row_offers rows s (rows s) below (h.each s (omega arith)) }

-- another row, after one was written
pub row_other : (w set s k : ℕ) (xs ys : List Cell) → k ≡ w → length ys ≡ w → set * w + w ≤ length xs → ¬ (s ≡ set) → row_of w (put_mid (set * w) k xs ys) s ≡ row_of w xs s
row_other w set s k xs ys count len fits differ =
    elim (cases_lt s set) [
      | inl less ↦
          let below : s * w + w ≤ set * w = row_fits s w set w less (omega arith) in
          sym (drop-take (s * w) w (put_mid (set * w) k xs ys)) ∙ ap (drop (s * w)) (take-put_mid_below (set * w) k xs ys (s * w + w) below (omega arith)) ∙ drop-take (s * w) w xs
      | inr past ↦
          let above : set * w + w ≤ s * w = row_fits set w s w (omega (arith, differ)) (omega arith) in
          ap (take w) (drop-put_mid (set * w) k xs ys (s * w) (omega arith) (omega arith) (omega arith))
    ]

-- what the parts of a set's cut keep
module _ (ways : Ways) (set k : ℕ) (cut : Cut) (within : set < sets_of ways) (inside : k < length (cuts_of ways set)) (is : cut ≡ cut_at (cuts_of ways set) k) where
  pub cut_is : IsCutOf ways.task.now ways.links.items ways.merges.items set cut
  cut_is = subst (IsCutOf ways.task.now ways.links.items ways.merges.items set) (sym is) (facts ways set k within inside)

  pub left_less : cut.left < set
  left_less = cut_is.parts.less

  pub right_less : cut.right < set
  right_less =
      let some = cut_is.parts.some in
      let less = cut_is.parts.less in
      omega (arith, cut_is.rest)

  pub hash_small : cut.hash_price ≤ 4000000000000000000
  hash_small =
      let rows = ways.task.now.limits.rows_limits in
      let most = hash_most ways.task.now (rows_in ways.task.now cut.left) (rows_in ways.task.now cut.right) (rows_in ways.task.now (cut.left + cut.right)) (rows_most ways.task.now.rows cut.left rows) (rows_most ways.task.now.rows cut.right rows) (rows_most ways.task.now.rows (cut.left + cut.right) rows) in
      omega (arith, most, cut_is.hash)

  pub merge_small : cut.merge_price ≤ 4000000000000000000
  merge_small =
      let rows = ways.task.now.limits.rows_limits in
      let most = merge_most ways.task.now (rows_in ways.task.now cut.left) (rows_in ways.task.now cut.right) (rows_in ways.task.now (cut.left + cut.right)) (rows_most ways.task.now.rows cut.left rows) (rows_most ways.task.now.rows cut.right rows) (rows_most ways.task.now.rows (cut.left + cut.right) rows) in
      omega (arith, most, cut_is.merge)

  pub merges_mean : (merges : List Merge) → merges ≡ merges_in ways cut → (j : ℕ) → j < length merges → ((merge_at merges j).left_need < width ways) × ((merge_at merges j).right_front < width ways)
  merges_mean merges same j h =
      let listed_same : merges ≡ merges_in ways (cut_at (cuts_of ways set) k) = same ∙ ap (merges_in ways) is in
      let m = means_at ways set k within inside j (subst (λ (ms : List Merge). j < length ms) listed_same h) in
      subst (λ (ms : List Merge). ((merge_at ms j).left_need < width ways) × ((merge_at ms j).right_front < width ways)) (sym listed_same) (m.left_in, m.right_in)

-- a cut's joins, one after the other
pub cut_step : (ways : Ways) (rows : ℕ → List Cell) (cut : Cut) (left right old mid new : List Cell) (merges : List Merge) (heads : List (Option Item)) → heads ≡ ways.heads.items → left ≡ rows cut.left → right ≡ rows cut.right → merges ≡ merges_in ways cut → IsStep (width ways) (IsHashed heads left right cut.hash_price) old mid → IsStep (width ways) (IsMerged heads left right cut.merge_price merges) mid new → IsStep (width ways) (IsCutBy ways rows cut) old new
cut_step ways rows cut left right old mid new merges heads heads_is left_is right_is merges_is hash merge =
    let a : IsStep (width ways) (IsCutBy ways rows cut) old mid = step_wider (width ways) (IsHashed heads left right cut.hash_price) (IsCutBy ways rows cut) old mid (λ f cost h. inl (subst (λ hs. IsHashed hs (rows cut.left) (rows cut.right) cut.hash_price f cost) heads_is (subst (λ l. IsHashed heads l (rows cut.right) cut.hash_price f cost) left_is (subst (λ r. IsHashed heads left r cut.hash_price f cost) right_is h)))) hash in
    let b : IsStep (width ways) (IsCutBy ways rows cut) mid new = step_wider (width ways) (IsMerged heads left right cut.merge_price merges) (IsCutBy ways rows cut) mid new (λ f cost h. inr (subst (λ hs. IsMerged hs (rows cut.left) (rows cut.right) cut.merge_price (merges_in ways cut) f cost) heads_is (subst (λ ms. IsMerged heads (rows cut.left) (rows cut.right) cut.merge_price ms f cost) merges_is (subst (λ l. IsMerged heads l (rows cut.right) cut.merge_price merges f cost) left_is (subst (λ r. IsMerged heads left r cut.merge_price merges f cost) right_is h))))) merge in
    step_then (width ways) (IsCutBy ways rows cut) old mid new a b

pub cut_bound : (ways : Ways) (rows : ℕ → List Cell) (cut : Cut) (left right : List Cell) (merges : List Merge) (heads : List (Option Item)) (f more cost : ℕ) → heads ≡ ways.heads.items → left ≡ rows cut.left → right ≡ rows cut.right → merges ≡ merges_in ways cut → cost ≤ more → HashBound heads left right cut.hash_price f more → MergesBound heads left right cut.merge_price merges f cost → CutBound ways rows cut f cost
cut_bound ways rows cut left right merges heads f more cost heads_is left_is right_is merges_is low hash merge =
    record {
      hash = subst (λ hs. HashBound hs (rows cut.left) (rows cut.right) cut.hash_price f cost) heads_is (subst (λ l. HashBound heads l (rows cut.right) cut.hash_price f cost) left_is (subst (λ r. HashBound heads left r cut.hash_price f cost) right_is (hash_falls heads left right cut.hash_price f more cost low hash)));
      merges = subst (λ hs. MergesBound hs (rows cut.left) (rows cut.right) cut.merge_price (merges_in ways cut) f cost) heads_is (subst (λ ms. MergesBound heads (rows cut.left) (rows cut.right) cut.merge_price ms f cost) merges_is (subst (λ l. MergesBound heads l (rows cut.right) cut.merge_price merges f cost) left_is (subst (λ r. MergesBound heads left r cut.merge_price merges f cost) right_is merge)));
    }

blank_at : (cells : List Cell) (f : ℕ) → All (λ cell. cell ≡ blank) cells → cell_at cells f ≡ blank
blank_at cells f h =
    elim (cases_lt f (length cells)) [
      | inl less ↦ All-get_or (λ (cell : Cell). cell ≡ blank) cells f blank less h
      | inr past ↦ get_or_past cells f blank past
    ]

-- a table of no plans
pub blank_table : (ways : Ways) (cells : List Cell) → length cells ≡ sets_of ways * width ways → All (λ cell. cell ≡ blank) cells → IsTable ways cells
blank_table ways cells count h =
    record {
      whole = count;
      blanks = λ s within off f. blank_at (row_of (width ways) cells s) f (All-take (λ (cell : Cell). cell ≡ blank) (width ways) (drop (s * width ways) cells) (All-drop (λ (cell : Cell). cell ≡ blank) (s * width ways) cells h));
    }
