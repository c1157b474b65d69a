-- No plan costs less than its cell.
use Rattle.std.proofs.Common.{◌≡◌, ℕ, zero, suc, ◌+◌, ◌-◌, ◌<◌, ◌≤◌, inl, inr, true, false, List, [], ◌∷◌, length, All, bit_and, refl, sym, ap, ◌∙◌, subst, arith}
use Rattle.std.specs.List.{list_any}
use Rattle.std.specs.Coded.{le_prop}
use Rattle.std.proofs.Math.Logic.{∥∥₁_elim}
use Rattle.std.proofs.lemmas.Bool.{false≢true, cases_Bool, and_from, eq-eqb}
use Rattle.std.proofs.lemmas.List.Elements.{All-take, All-same}
use Rattle.adv_base.specs.Items.{Order, BeginsWith}
use Rattle.adv_base.specs.Offers.{OfferTable}
use Rattle.plan_model.specs.declared.plan.Plan.{Plan}
use Rattle.plan_model.specs.declared.plan.Plan.TheVariants.{Leaf, Sort', Merge', Hash'}
use Rattle.plan_model.specs.declared.task.Task.{Task}
use Rattle.plan_model.specs.Plans.{IsValid, Merges, covers, crosses, delivers, is_column_of}
use Rattle.plan_model.specs.Costs.{plan_cost, rows_in, sort_cost, merge_of, hash_of}
use Rattle.plan_model.proofs.Bounds.{covers_some}
use Rattle.planner.specs.declared.front.Front.{Front}
use Rattle.planner.specs.declared.cell.Cell.{Cell}
use Rattle.planner.specs.declared.cell.TheConstants.{IMPOSSIBLE}
use Rattle.planner.specs.declared.ways.Ways.{Ways}
use Rattle.planner.specs.Fronts.{asked, listed, first_item}
use Rattle.planner.specs.Cells.{blank, cell_at, cost_at, any_at}
use Rattle.planner.specs.Cuts.{cut_at, is_covered, may_cut, merges_of, IsCutOf}
use Rattle.planner.specs.Rows.{width, cuts_of, merges_in, sets_of, NoneLess, AreRows, AreLowRows}
use Rattle.planner.proofs.Merging.{merge_low, some_merge, crossing_of}
use Rattle.planner.proofs.Fronting.{nothing_asked}

-- only no order begins no order
pub begun_nil : (f : Order) → BeginsWith [] f → f ≡ []
begun_nil [] h = refl
begun_nil (x ∷ xs) h = cc

-- the costs of a row bound plans
pub record IsLow (task : Task) (table : OfferTable) (list : Order) (fronts : List Front) (set : ℕ) (row : List Cell) : Type 0 where
  pub least : (f : ℕ) → f < length fronts → NoneLess false task table (asked list fronts f) set (cost_at row f)
  pub least_any : (f : ℕ) → f < length fronts → NoneLess true task table (asked list fronts f) set (any_at row f)

-- rows of sets that no plan covers are blank
pub record AreBlank (ways : Ways) (rows : ℕ → List Cell) : Type 0 where
  pub each : (s : ℕ) → s < sets_of ways → is_covered ways.covered.items s ≡ false → (f : ℕ) → cell_at (rows s) f ≡ blank

module _ (ways : Ways) (table : OfferTable) (rows : ℕ → List Cell) (closed : AreLowRows ways table rows) (blanks : AreBlank ways rows) where
  nothing : asked (listed ways.task.now) ways.fronts.items 0 ≡ []
  nothing = nothing_asked ways

  zero_in : 0 < length ways.fronts.items
  zero_in = omega (arith, ways.known.needs.some)

  -- a plan of a set costs at least what its row has for no order
  dear : (s : ℕ) (p : Plan) → IsLow ways.task.now table (listed ways.task.now) ways.fronts.items s (rows s) → IsValid true ways.task.now table p → covers p ≡ s → any_at (rows s) 0 ≤ plan_cost ways.task.now table p
  dear s p low valid is = (low.least_any 0 zero_in).each p valid is (subst (BeginsWith (delivers table p)) (sym nothing) refl)

  -- where a part isn't covered, its plans cost what no plan may
  uncovered : (s : ℕ) (p : Plan) → s < sets_of ways → is_covered ways.covered.items s ≡ false → IsLow ways.task.now table (listed ways.task.now) ways.fronts.items s (rows s) → IsValid true ways.task.now table p → covers p ≡ s → IMPOSSIBLE ≤ plan_cost ways.task.now table p
  uncovered s p within off low valid is =
      let none : any_at (rows s) 0 ≡ IMPOSSIBLE = ap (λ (x : Cell). x.any) (blanks.each s within off 0) in
      omega (arith, dear s p low valid is)

  cut_facts : (set k : ℕ) → set < sets_of ways → k < length (cuts_of ways set) → IsCutOf ways.task.now ways.links.items ways.merges.items set (cut_at (cuts_of ways set) k)
  cut_facts set k within inside = (ways.known.cut.sets set within).each k inside

  -- the bounds of the cut into a and the rest
  at_cut : (set a f : ℕ) → set < sets_of ways → f < width ways → 0 < a → a < set → bit_and a (set - a) ≡ 0 → is_covered ways.covered.items a ≡ true → is_covered ways.covered.items (set - a) ≡ true → 0 < length (merges_of ways.links.items a (set - a)) → (limit : ℕ) → ((k : ℕ) → k < length (cuts_of ways set) → (cut_at (cuts_of ways set) k).left ≡ a → cost_at (rows set) f ≤ limit) → cost_at (rows set) f ≤ limit
  at_cut set a f within front_in some less apart on_left on_right crossed limit each =
      let may : may_cut ways.covered.items set a ≡ true = and_from _ _ (and_from _ _ (eq-eqb (bit_and a (set - a)) 0 apart) on_left) on_right in
      ∥∥₁_elim ((ways.known.cut.sets set within).all a some less may crossed) le_prop (λ w. each w.number w.within w.is)

  module _ (set f : ℕ) (within : set < sets_of ways) (front_in : f < width ways) (low : (s : ℕ) → s < set → IsLow ways.task.now table (listed ways.task.now) ways.fronts.items s (rows s)) where
    cost : ℕ
    cost = cost_at (rows set) f

    capped : cost_at (rows set) f ≤ IMPOSSIBLE
    capped = (closed.each set within).capped f

    merge_bound : (edge : ℕ) (left right : Plan) → IsValid true ways.task.now table left → IsValid true ways.task.now table right → covers left + covers right ≡ set → bit_and (covers left) (covers right) ≡ 0 → Merges ways.task.now edge (covers left) (covers right) (delivers table left) (delivers table right) → BeginsWith (delivers table left) (asked (listed ways.task.now) ways.fronts.items f) → cost_at (rows set) f ≤ plan_cost ways.task.now table left + plan_cost ways.task.now table right + merge_of ways.task.now (covers left) (covers right)
    merge_bound edge left right left_valid right_valid sum apart m begins =
        let a : ℕ = covers left in
        let b : ℕ = covers right in
        let some_left = covers_some left in
        let some_right = covers_some right in
        let left_low = low a (omega arith) in
        let right_low = low b (omega arith) in
        let rest : set - a ≡ b = omega arith in
        let x : ℕ = plan_cost ways.task.now table left in
        let y : ℕ = plan_cost ways.task.now table right in
        let crossed : 0 < length (merges_of ways.links.items a b) = some_merge ways.task.now (listed ways.task.now) ways.fronts.items ways.links.items a b edge m.edge ways.known.needs.linked apart m.found m.crossing in
        elim (cases_Bool (is_covered ways.covered.items a)) [
          | inr off ↦ omega (arith, uncovered a left (omega arith) off left_low left_valid refl, capped)
          | inl on_left ↦
              elim (cases_Bool (is_covered ways.covered.items b)) [
                | inr off ↦ omega (arith, uncovered b right (omega arith) off right_low right_valid refl, capped)
                | inl on_right ↦
                    at_cut set a f within front_in some_left (omega arith) (subst (λ t. bit_and a t ≡ 0) (sym rest) apart) on_left (ap (is_covered ways.covered.items) rest ∙ on_right) (subst (λ t. 0 < length (merges_of ways.links.items a t)) (sym rest) crossed) (x + y + merge_of ways.task.now a b) (λ k inside is.
                    let facts = cut_facts set k within inside in
                    let cut = cut_at (cuts_of ways set) k in
                    let other : cut.right ≡ b = facts.rest ∙ ap (λ t. set - t) is ∙ rest in
                    let bound = (((closed.each set within).joins k inside f front_in).merges) in
                    let price : cut.merge_price ≡ merge_of ways.task.now a b = facts.merge ∙ ap (λ t. merge_of ways.task.now t cut.right) is ∙ ap (merge_of ways.task.now a) other in
                    let crossings : merges_in ways cut ≡ merges_of ways.links.items a b = facts.crossings ∙ ap (λ t. merges_of ways.links.items t cut.right) is ∙ ap (merges_of ways.links.items a) other in
                    merge_low ways.task.now (listed ways.task.now) ways.fronts.items ways.heads.items ways.links.items (rows cut.left) (rows cut.right) a b f (cost_at (rows set) f) cut.merge_price edge (merges_in ways cut) (delivers table left) (delivers table right) x y ways.known.needs.first ways.known.needs.linked apart front_in price crossings bound m begins (λ g g_in starts. subst (λ t. any_at (rows t) g ≤ x) (sym is) ((left_low.least_any g g_in).each left left_valid refl starts)) (λ h h_in starts. subst (λ t. any_at (rows t) h ≤ y) (sym other) ((right_low.least_any h h_in).each right right_valid refl starts)))
              ]
        ]

    unsorted : (p : Plan) → IsValid false ways.task.now table p → IsValid true ways.task.now table p
    unsorted (Leaf slot offer) h = h
    unsorted (Sort' o p i) h = absurd (false≢true h.0)
    unsorted (Merge' e p l q r) h = h
    unsorted (Hash' p l q r) h = h

    hash_bound : (left right : Plan) → IsValid false ways.task.now table left → IsValid false ways.task.now table right → covers left + covers right ≡ set → bit_and (covers left) (covers right) ≡ 0 → list_any (crosses (covers left) (covers right)) ways.task.now.edges ≡ true → asked (listed ways.task.now) ways.fronts.items f ≡ [] → cost_at (rows set) f ≤ plan_cost ways.task.now table left + plan_cost ways.task.now table right + hash_of ways.task.now (covers left) (covers right)
    hash_bound left right left_valid right_valid sum apart any asks =
        let a : ℕ = covers left in
        let b : ℕ = covers right in
        let some_left = covers_some left in
        let some_right = covers_some right in
        let left_low = low a (omega arith) in
        let right_low = low b (omega arith) in
        let rest : set - a ≡ b = omega arith in
        let x : ℕ = plan_cost ways.task.now table left in
        let y : ℕ = plan_cost ways.task.now table right in
        let m = crossing_of ways.task.now.edges a b any in
        let crossed : 0 < length (merges_of ways.links.items a b) = some_merge ways.task.now (listed ways.task.now) ways.fronts.items ways.links.items a b m.number m.edge ways.known.needs.linked apart m.found m.crossing in
        elim (cases_Bool (is_covered ways.covered.items a)) [
          | inr off ↦ omega (arith, uncovered a left (omega arith) off left_low (unsorted left left_valid) refl, capped)
          | inl on_left ↦
              elim (cases_Bool (is_covered ways.covered.items b)) [
                | inr off ↦ omega (arith, uncovered b right (omega arith) off right_low (unsorted right right_valid) refl, capped)
                | inl on_right ↦
                    at_cut set a f within front_in some_left (omega arith) (subst (λ t. bit_and a t ≡ 0) (sym rest) apart) on_left (ap (is_covered ways.covered.items) rest ∙ on_right) (subst (λ t. 0 < length (merges_of ways.links.items a t)) (sym rest) crossed) (x + y + hash_of ways.task.now a b) (λ k inside is.
                    let facts = cut_facts set k within inside in
                    let cut = cut_at (cuts_of ways set) k in
                    let other : cut.right ≡ b = facts.rest ∙ ap (λ t. set - t) is ∙ rest in
                    let head = ways.known.needs.first.each f front_in ∙ ap first_item asks in
                    let bound = (((closed.each set within).joins k inside f front_in).hash).bound head in
                    let price : cut.hash_price ≡ hash_of ways.task.now a b = facts.hash ∙ ap (λ t. hash_of ways.task.now t cut.right) is ∙ ap (hash_of ways.task.now a) other in
                    let of_left : cost_at (rows cut.left) 0 ≤ x = subst (λ t. cost_at (rows t) 0 ≤ x) (sym is) ((left_low.least 0 zero_in).each left left_valid refl (subst (BeginsWith (delivers table left)) (sym nothing) refl)) in
                    let of_right : cost_at (rows cut.right) 0 ≤ y = subst (λ t. cost_at (rows t) 0 ≤ y) (sym other) ((right_low.least 0 zero_in).each right right_valid refl (subst (BeginsWith (delivers table right)) (sym nothing) refl)) in
                    omega (arith, bound, of_left, of_right, price))
              ]
        ]

    least_of : (p : Plan) → IsValid false ways.task.now table p → covers p ≡ set → BeginsWith (delivers table p) (asked (listed ways.task.now) ways.fronts.items f) → cost_at (rows set) f ≤ plan_cost ways.task.now table p
    least_of (Leaf slot offer) valid is begins = ((closed.each set within).reads f front_in).each slot offer valid.0 valid.1 is begins
    least_of (Sort' order p input) valid is begins = absurd (false≢true valid.0)
    least_of (Merge' edge p left q right) valid is begins = merge_bound edge left right valid.0 valid.1 is valid.2 valid.3 begins
    least_of (Hash' p left q right) valid is begins =
        hash_bound left right valid.0 valid.1 is valid.2 valid.3 (begun_nil (asked (listed ways.task.now) ways.fronts.items f) begins)

  -- the same where a sort may stand at the top
  module _ (set f : ℕ) (within : set < sets_of ways) (front_in : f < width ways) (least : NoneLess false ways.task.now table (asked (listed ways.task.now) ways.fronts.items f) set (cost_at (rows set) f)) (least_any_order : NoneLess false ways.task.now table (asked (listed ways.task.now) ways.fronts.items 0) set (cost_at (rows set) 0)) where
    without : any_at (rows set) f ≤ cost_at (rows set) f
    without = (closed.each set within).without f front_in

    least_any_of : (p : Plan) → IsValid true ways.task.now table p → covers p ≡ set → BeginsWith (delivers table p) (asked (listed ways.task.now) ways.fronts.items f) → any_at (rows set) f ≤ plan_cost ways.task.now table p
    least_any_of (Leaf slot offer) valid is begins = omega (arith, least.each (Leaf slot offer) valid is begins, without)
    least_any_of (Sort' order p input) valid is begins =
        let columns : All (λ item. is_column_of set item ≡ true) order = subst (λ t. All (λ item. is_column_of t item ≡ true) order) is valid.2 in
        let front : All (λ item. is_column_of set item ≡ true) (asked (listed ways.task.now) ways.fronts.items f) = All-same (λ item. is_column_of set item ≡ true) _ _ (sym begins) (All-take (λ item. is_column_of set item ≡ true) (length (asked (listed ways.task.now) ways.fronts.items f)) order columns) in
        let bound = (closed.each set within).with_sort f front_in front in
        let of_input = least_any_order.each input valid.1 is (subst (BeginsWith (delivers table input)) (sym nothing) refl) in
        let price : sort_cost ways.task.now.rates (rows_in ways.task.now (covers input)) ≡ sort_cost ways.task.now.rates (rows_in ways.task.now set) = ap (λ t. sort_cost ways.task.now.rates (rows_in ways.task.now t)) is in
        omega arith
    least_any_of (Merge' edge p left q right) valid is begins = omega (arith, least.each (Merge' edge p left q right) valid is begins, without)
    least_any_of (Hash' p left q right) valid is begins = omega (arith, least.each (Hash' p left q right) valid is begins, without)

  low_at : (set : ℕ) → set < sets_of ways → ((s : ℕ) → s < set → IsLow ways.task.now table (listed ways.task.now) ways.fronts.items s (rows s)) → IsLow ways.task.now table (listed ways.task.now) ways.fronts.items set (rows set)
  low_at set within low =
      let least : (f : ℕ) → f < length ways.fronts.items → NoneLess false ways.task.now table (asked (listed ways.task.now) ways.fronts.items f) set (cost_at (rows set) f) = λ f front_in. record { each = least_of set f within front_in low } in
      record {
        least = least;
        least_any = λ f front_in. record { each = least_any_of set f within front_in (least f front_in) (least 0 zero_in) };
      }

  low_below : (n s : ℕ) → s < n → s < sets_of ways → IsLow ways.task.now table (listed ways.task.now) ways.fronts.items s (rows s)
  low_below zero s below within = absurd (omega arith)
  low_below (suc n) s below within =
      low_at s within (λ t less. low_below n t (omega arith) (omega arith))

  -- rows that bound plans are at most the cost of each plan
  pub all_low : (s : ℕ) → s < sets_of ways → IsLow ways.task.now table (listed ways.task.now) ways.fronts.items s (rows s)
  all_low s within = low_below (suc s) s (omega arith) within

-- the rows of a closed table are at most the cost of each plan
pub rows_low : (ways : Ways) (table : OfferTable) (rows : ℕ → List Cell) → AreRows ways table rows (sets_of ways) → AreBlank ways rows → (s : ℕ) → s < sets_of ways → IsLow ways.task.now table (listed ways.task.now) ways.fronts.items s (rows s)
rows_low ways table rows closed =
    all_low ways table rows (record {
      each = λ s within.
          let row = closed.each s within in
          record { capped = row.capped.cost; reads = row.reads; joins = row.joins; without = row.without; with_sort = row.with_sort };
    })
