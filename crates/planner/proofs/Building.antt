-- Plans that are built of what made the costs.
use Rattle.std.proofs.Common.{◌≡◌, ℕ, suc, ◌+◌, ◌-◌, ◌<◌, ◌⊎◌, inl, inr, Bool, true, false, not, ◌==◌, List, [], ◌∷◌, length, bit_and, All, Option, Some, None, slice_index_or, refl, sym, ap, ◌∙◌, subst, arith}
use Rattle.std.specs.List.{list_any}
use Rattle.std.proofs.lemmas.Bool.{cases_lt, eqb-true, eqb-false, not-true, not-false, false≢true, or_cases}
use Rattle.adv_base.specs.Items.{Order, BeginsWith}
use Rattle.adv_base.specs.Offers.{OfferTable}
use Rattle.plan_model.specs.declared.edge.TaskEdge.{TaskEdge}
use Rattle.plan_model.specs.declared.plan.Plan.{Plan}
use Rattle.plan_model.specs.declared.plan.Plan.TheVariants.{Leaf, Sort', Merge', Hash'}
use Rattle.plan_model.specs.declared.task.Task.{Task}
use Rattle.plan_model.specs.Plans.{IsValid, Merges, covers, crosses, delivers, is_column_of, side_need}
use Rattle.plan_model.specs.Costs.{rows_in, sort_cost, merge_of, hash_of}
use Rattle.adv_base.specs.declared.workload.parts.Item.{Item}
use Rattle.planner.specs.declared.front.Front.{Front}
use Rattle.planner.specs.declared.front.Front.TheVariants.{Any, Listed, Need}
use Rattle.planner.specs.declared.cell.Cell.{Cell}
use Rattle.planner.specs.declared.ways.Ways.{Ways}
use Rattle.planner.specs.Sorts.{IsNeeded, IsWantedList}
use Rattle.planner.specs.Fronts.{asked, first_item, front_order, is_need, listed, needs_item, AreNeeded}
use Rattle.planner.specs.Cells.{cell_at, cost_at, any_at}
use Rattle.planner.specs.Cuts.{IsCut}
use Rattle.planner.specs.Choices.{IsRead, IsMerge, IsHash, IsSorting}
use Rattle.planner.specs.inner.Built.{IsPlanFor, IsSortOf, IsMergeOf, IsHashOf, is_sorted, front_cost}
use Rattle.planner.specs.Rows.{NoneLess}
use Rattle.adv_base.proofs.Begins.{begins_self, begins_trans}
use Rattle.adv_base.proofs.ItemLaws.{same_item}

pub read_built : (sorts : Bool) (task : Task) (table : OfferTable) (order : Order) (set cost slot offer : ℕ) → IsRead task table order set cost slot offer → IsPlanFor sorts task table order set cost (Leaf slot offer)
read_built sorts task table order set cost slot offer h =
    record { valid = (h.slot_in, h.offer_in); covers_set = h.set_is; begins = h.begins; costs = sym h.costs; sorts_wanted = tt }

pub sort_built : (task : Task) (table : OfferTable) (list : Order) (fronts : List Front) (row : List Cell) (set f any : ℕ) (input plan : Plan) → IsSortOf (asked list fronts f) input plan → IsPlanFor false task table (asked list fronts 0) set (cost_at row 0) input → IsSorting task list fronts row set f any → IsWantedList task (asked list fronts f) → IsPlanFor true task table (asked list fronts f) set any plan
sort_built task table list fronts row set f any input (Leaf slot offer) is inner sorting wanted = absurd is
sort_built task table list fronts row set f any input (Merge' e p l q r) is inner sorting wanted = absurd is
sort_built task table list fronts row set f any input (Hash' p l q r) is inner sorting wanted = absurd is
sort_built task table list fronts row set f any input (Sort' o p i) is inner sorting wanted =
    let order = asked list fronts f in
    let columns : All (λ item. is_column_of (covers input) item ≡ true) order = subst (λ s. All (λ item. is_column_of s item ≡ true) order) (sym inner.covers_set) sorting.columns in
    let price : sort_cost task.rates (rows_in task (covers input)) ≡ sort_cost task.rates (rows_in task set) = ap (λ s. sort_cost task.rates (rows_in task s)) inner.covers_set in
    let whole : IsPlanFor true task table order set any (Sort' order p input) = record {
      valid = (refl, inner.valid, columns);
      covers_set = inner.covers_set;
      begins = begins_self order;
      costs = omega (arith, inner.costs, sorting.costs, price);
      sorts_wanted = (wanted, inner.sorts_wanted);
    } in
    subst (λ x. IsPlanFor true task table order set any (Sort' x p i)) (sym is.0) (subst (λ y. IsPlanFor true task table order set any (Sort' order p y)) (sym is.1) whole)

pub merge_built : (sorts : Bool) (task : Task) (table : OfferTable) (list : Order) (fronts : List Front) (left right : List Cell) (set a f cost edge g h : ℕ) (l r plan : Plan) → IsMergeOf edge l r plan → IsCut set a → IsMerge task list fronts left right a (set - a) f cost edge g h → IsPlanFor true task table (asked list fronts g) a (any_at left g) l → IsPlanFor true task table (asked list fronts h) (set - a) (any_at right h) r → IsPlanFor sorts task table (asked list fronts f) set cost plan
merge_built sorts task table list fronts left right set a f cost edge g h l r (Leaf slot offer) is cut m pl pr = absurd is
merge_built sorts task table list fronts left right set a f cost edge g h l r (Sort' o p i) is cut m pl pr = absurd is
merge_built sorts task table list fronts left right set a f cost edge g h l r (Hash' p x q y) is cut m pl pr = absurd is
merge_built sorts task table list fronts left right set a f cost edge g h l r (Merge' e p x q y) is cut m pl pr =
    let less = cut.less in
    let sum : a + (set - a) ≡ set = omega arith in
    let both : covers l + covers r ≡ set = omega (arith, pl.covers_set, pr.covers_set) in
    let apart : bit_and (covers l) (covers r) ≡ 0 = subst (λ s. bit_and s (covers r) ≡ 0) (sym pl.covers_set) (subst (λ s. bit_and a s ≡ 0) (sym pr.covers_set) cut.apart) in
    let at : Merges task edge a (set - a) (delivers table l) (delivers table r) = record {
      edge = m.merges.edge;
      found = m.merges.found;
      crossing = m.merges.crossing;
      left_begins = begins_trans (delivers table l) (asked list fronts g) (side_need m.merges.edge a) pl.begins m.merges.left_begins;
      right_begins = begins_trans (delivers table r) (asked list fronts h) (side_need m.merges.edge (set - a)) pr.begins m.merges.right_begins;
    } in
    let merges : Merges task edge (covers l) (covers r) (delivers table l) (delivers table r) = subst (λ s. Merges task edge s (covers r) (delivers table l) (delivers table r)) (sym pl.covers_set) (subst (λ s. Merges task edge a s (delivers table l) (delivers table r)) (sym pr.covers_set) at) in
    let price : merge_of task (covers l) (covers r) ≡ merge_of task a (set - a) = ap (λ s. merge_of task s (covers r)) pl.covers_set ∙ ap (merge_of task a) pr.covers_set in
    let whole : IsPlanFor sorts task table (asked list fronts f) set cost (Merge' edge p l q r) = record {
      valid = (pl.valid, pr.valid, apart, merges);
      covers_set = both;
      begins = begins_trans (delivers table l) (asked list fronts g) (asked list fronts f) pl.begins m.keeps;
      costs = omega (arith, pl.costs, pr.costs, m.costs, price);
      sorts_wanted = (pl.sorts_wanted, pr.sorts_wanted);
    } in
    subst (λ k. IsPlanFor sorts task table (asked list fronts f) set cost (Merge' k p x q y)) (sym is.0) (subst (λ s. IsPlanFor sorts task table (asked list fronts f) set cost (Merge' edge p s q y)) (sym is.1) (subst (λ t. IsPlanFor sorts task table (asked list fronts f) set cost (Merge' edge p l q t)) (sym is.2) whole))

pub hash_built : (sorts : Bool) (task : Task) (table : OfferTable) (list : Order) (fronts : List Front) (left right : List Cell) (set a f cost : ℕ) (l r plan : Plan) → IsHashOf l r plan → IsCut set a → IsHash task list fronts left right a (set - a) f cost → IsPlanFor false task table (asked list fronts 0) a (cost_at left 0) l → IsPlanFor false task table (asked list fronts 0) (set - a) (cost_at right 0) r → IsPlanFor sorts task table (asked list fronts f) set cost plan
hash_built sorts task table list fronts left right set a f cost l r (Leaf slot offer) is cut m pl pr = absurd is
hash_built sorts task table list fronts left right set a f cost l r (Sort' o p i) is cut m pl pr = absurd is
hash_built sorts task table list fronts left right set a f cost l r (Merge' e p x q y) is cut m pl pr = absurd is
hash_built sorts task table list fronts left right set a f cost l r (Hash' p x q y) is cut m pl pr =
    let less = cut.less in
    let sum : a + (set - a) ≡ set = omega arith in
    let both : covers l + covers r ≡ set = omega (arith, pl.covers_set, pr.covers_set) in
    let apart : bit_and (covers l) (covers r) ≡ 0 = subst (λ s. bit_and s (covers r) ≡ 0) (sym pl.covers_set) (subst (λ s. bit_and a s ≡ 0) (sym pr.covers_set) cut.apart) in
    let crossed : list_any (crosses (covers l) (covers r)) task.edges ≡ true = subst (λ s. list_any (crosses s (covers r)) task.edges ≡ true) (sym pl.covers_set) (subst (λ s. list_any (crosses a s) task.edges ≡ true) (sym pr.covers_set) m.crossed) in
    let price : hash_of task (covers l) (covers r) ≡ hash_of task a (set - a) = ap (λ s. hash_of task s (covers r)) pl.covers_set ∙ ap (hash_of task a) pr.covers_set in
    let whole : IsPlanFor sorts task table (asked list fronts f) set cost (Hash' p l q r) = record {
      valid = (pl.valid, pr.valid, apart, crossed);
      covers_set = both;
      begins = subst (BeginsWith []) (sym m.asks_nothing) refl;
      costs = omega (arith, pl.costs, pr.costs, m.costs, price);
      sorts_wanted = (pl.sorts_wanted, pr.sorts_wanted);
    } in
    subst (λ s. IsPlanFor sorts task table (asked list fronts f) set cost (Hash' p s q y)) (sym is.0) (subst (λ t. IsPlanFor sorts task table (asked list fronts f) set cost (Hash' p l q t)) (sym is.1) whole)

-- where no sort is on top, the cost is the one without
pub plain_cost : (row : List Cell) (f : ℕ) (sorts : Bool) (cell : Cell) → cell ≡ cell_at row f → is_sorted cell sorts ≡ false → front_cost sorts row f ≡ cost_at row f
plain_cost row f false cell is e = refl
plain_cost row f true cell is e =
    let same : (cell_at row f).any ≡ (cell_at row f).cost = eqb-true (cell_at row f).any (cell_at row f).cost (not-false ((cell_at row f).any == (cell_at row f).cost) (subst (λ (x : Cell). not (x.any == x.cost) ≡ false) is e)) in
    same

-- where a sort is on top, the costs with and without it differ
pub top_differs : (row : List Cell) (f : ℕ) (sorts : Bool) (cell : Cell) → cell ≡ cell_at row f → is_sorted cell sorts ≡ true → ¬ (any_at row f ≡ cost_at row f)
top_differs row f false cell is e = absurd (false≢true e)
top_differs row f true cell is e =
    eqb-false (cell_at row f).any (cell_at row f).cost (not-true ((cell_at row f).any == (cell_at row f).cost) (subst (λ (x : Cell). not (x.any == x.cost) ≡ true) is e))

-- and a sort made the cost
pub sorted_top : (task : Task) (list : Order) (fronts : List Front) (row : List Cell) (set f : ℕ) (sorts : Bool) (cell : Cell) → cell ≡ cell_at row f → is_sorted cell sorts ≡ true → (any_at row f ≡ cost_at row f) ⊎ IsSorting task list fronts row set f (any_at row f) → (sorts ≡ true) × IsSorting task list fronts row set f (any_at row f)
sorted_top task list fronts row set f false cell is e h = absurd (false≢true e)
sorted_top task list fronts row set f true cell is e (inr h) = (refl, h)
sorted_top task list fronts row set f true cell is e (inl h) =
    absurd (top_differs row f true cell is e h)

-- a plan without a sort at its top may stand where a sort may
pub valid_sorting : (task : Task) (table : OfferTable) (plan : Plan) → IsValid false task table plan → IsValid true task table plan
valid_sorting task table (Leaf slot offer) h = h
valid_sorting task table (Sort' o p i) h = absurd (false≢true h.0)
valid_sorting task table (Merge' e p l q r) h = h
valid_sorting task table (Hash' p l q r) h = h

needed_edge : (item : Item) (need : Option Item) → is_need item need ≡ true → need ≡ Some item
needed_edge item None h = absurd (false≢true h)
needed_edge item (Some other) h = ap (λ t. Some t) (same_item other item h)

needed_of : (item : Item) (edges : List TaskEdge) → list_any (needs_item item) edges ≡ true → IsNeeded edges item
needed_of item [] h = absurd (false≢true h)
needed_of item (x ∷ xs) h =
    elim (or_cases (needs_item item x) (list_any (needs_item item) xs) h) [
      | inl here ↦ record {
        number = 0;
        edge = x;
        found = refl;
        needs = elim (or_cases (is_need item x.left_need) (is_need item x.right_need) here) [
          | inl left ↦ inl (needed_edge item x.left_need left)
          | inr right ↦ inr (needed_edge item x.right_need right)
        ];
      }
      | inr later ↦ let w = needed_of item xs later in record { number = suc w.number; edge = w.edge; found = w.found; needs = w.needs }
    ]

-- a front that asks for something asks for a wanted list
pub front_wanted : (task : Task) (fronts : List Front) (f : ℕ) (x : Front) → slice_index_or fronts f Any ≡ x → f < length fronts → AreNeeded task.edges fronts → ¬ (x ≡ Any) → IsWantedList task (front_order (listed task) x)
front_wanted task fronts f Any is within needed some = absurd (some refl)
front_wanted task fronts f Listed is within needed some = inl refl
front_wanted task fronts f (Need item) is within needed some = inr (item, refl, needed_of item task.edges (needed.each f item within is))

-- A sort stands on top only by a wanted list: one for a front that asks nothing would cost no more than its input.
pub sort_wanted : (ways : Ways) (table : OfferTable) (set f : ℕ) (row : List Cell) (input : Plan) → f < length ways.fronts.items → ¬ (any_at row f ≡ cost_at row f) → NoneLess true ways.task.now table (asked (listed ways.task.now) ways.fronts.items f) set (any_at row f) → IsSorting ways.task.now (listed ways.task.now) ways.fronts.items row set f (any_at row f) → IsPlanFor false ways.task.now table (asked (listed ways.task.now) ways.fronts.items 0) set (cost_at row 0) input → IsWantedList ways.task.now (asked (listed ways.task.now) ways.fronts.items f)
sort_wanted ways table set f row input within differs least sorting inner =
    let count = ways.known.needs.first.count in
    let any_is : ¬ (slice_index_or ways.fronts.items f Any ≡ Any) = λ any.
    let asks_none : asked (listed ways.task.now) ways.fronts.items f ≡ [] = ap (front_order (listed ways.task.now)) any in
    elim (cases_lt f 2) [
      | inl less ↦
          elim (cases_lt f 1) [
            | inl first ↦
                let zeroth : f ≡ 0 = omega arith in
                let bound = least.each input (valid_sorting ways.task.now table input inner.valid) inner.covers_set (subst (BeginsWith (delivers table input)) (sym asks_none) refl) in
                let costs = inner.costs in
                let sum = sorting.costs in
                let same : cost_at row f ≡ cost_at row 0 = ap (cost_at row) zeroth in
                differs (omega arith)
            | inr second ↦
                let one : f ≡ 1 = omega arith in
                let listed_is : slice_index_or ways.fronts.items f Any ≡ Listed = ap (λ k. slice_index_or ways.fronts.items k Any) one ∙ ways.known.needs.all in
                cc
          ]
      | inr past ↦ ways.known.needs.apart.asks f (omega arith) (omega arith) (ways.known.needs.first.each f within ∙ ap first_item asks_none)
    ] in
    front_wanted ways.task.now ways.fronts.items f (slice_index_or ways.fronts.items f Any) refl within ways.known.needs.needed any_is

pub asked_sort : (l list : Order) (x : Front) (fronts : List Front) (f : ℕ) (input plan : Plan) → l ≡ list → x ≡ slice_index_or fronts f Any → IsSortOf (front_order l x) input plan → IsSortOf (asked list fronts f) input plan
asked_sort l list x fronts f input plan same is h =
    subst (λ y. IsSortOf (front_order list y) input plan) is (subst (λ m. IsSortOf (front_order m x) input plan) same h)
