-- What the listed merges mean.
use Rattle.std.proofs.Common.{◌≡◌, ℕ, zero, suc, ◌+◌, ◌<◌, ◌≤◌, inl, inr, Bool, true, false, ◌&&◌, ◌||◌, cond, List, [], ◌∷◌, length, Option, Some, None, bit_and, slice_get, slice_index_or, refl, sym, ap, ◌∙◌, subst, arith}
use Rattle.std.specs.List.{list_any}
use Rattle.std.specs.Coded.{le_prop}
use Rattle.std.proofs.Math.Logic.{∥∥₁_elim}
use Rattle.std.proofs.lemmas.Bool.{false≢true, both_ways, or_cases, or_left, or_right, and_parts, and_from}
use Rattle.std.proofs.lemmas.Nat.{and_comm}
use Rattle.std.proofs.lemmas.Option.{slice_get-get_or, slice_get_within}
use Rattle.adv_base.specs.Items.{Order, BeginsWith}
use Rattle.adv_base.specs.Sets.{has_slot}
use Rattle.adv_base.specs.declared.workload.parts.Item.{Item}
use Rattle.plan_model.specs.declared.edge.TaskEdge.{TaskEdge}
use Rattle.plan_model.specs.declared.task.Task.{Task}
use Rattle.plan_model.specs.Orders.{need_order}
use Rattle.plan_model.specs.Plans.{Merges, crosses, side_need}
use Rattle.plan_model.proofs.SetLaws.{has-apart}
use Rattle.planner.specs.declared.front.Front.{Front}
use Rattle.planner.specs.declared.front.Link.{Link}
use Rattle.planner.specs.declared.cell.Cell.{Cell}
use Rattle.planner.specs.declared.cuts.Merge.{Merge}
use Rattle.planner.specs.Fronts.{asked, first_item, longer_front, side_front, meet, crosses_link, link_at, head_at, turned, Ties, Joins, AreHeads, AreLinks}
use Rattle.planner.specs.Cells.{any_at}
use Rattle.planner.specs.Cuts.{link_merge, merges_of, merge_at}
use Rattle.plan_model.specs.Costs.{merge_of}
use Rattle.planner.specs.Choices.{IsMerge, IsMergedBy, MergesBound}
use Rattle.planner.proofs.Begins.{IsShort, longer_serves, longer_asks, longer_in}
use Rattle.adv_base.proofs.Begins.{begins_self}

-- a merge of a link of the list that has an end in each of two sets
pub record ComesFrom (links : List Link) (a b : ℕ) (merge : Merge) : Type 0 where
  pub link : ℕ
  pub link_in : link < length links
  pub crossing : crosses_link a b (link_at links link) ≡ true
  pub is : merge ≡ link_merge (link_at links link) a b

comes_later : (x : Link) (xs : List Link) (a b : ℕ) (merge : Merge) → ComesFrom xs a b merge → ComesFrom (x ∷ xs) a b merge
comes_later x xs a b merge w =
    record { link = suc w.link; link_in = omega (arith, w.link_in); crossing = w.crossing; is = w.is }

comes_split : (x : Link) (xs : List Link) (a b j : ℕ) (t : Bool) → crosses_link a b x ≡ t → j < length (cond t (link_merge x a b ∷ merges_of xs a b) (merges_of xs a b)) → ((i : ℕ) → i < length (merges_of xs a b) → ComesFrom xs a b (merge_at (merges_of xs a b) i)) → ComesFrom (x ∷ xs) a b (merge_at (cond t (link_merge x a b ∷ merges_of xs a b) (merges_of xs a b)) j)
comes_split x xs a b zero true e within later =
    record { link = 0; link_in = omega arith; crossing = e; is = refl }
comes_split x xs a b (suc j) true e within later =
    comes_later x xs a b (merge_at (merges_of xs a b) j) (later j (omega (arith, within)))
comes_split x xs a b j false e within later =
    comes_later x xs a b (merge_at (merges_of xs a b) j) (later j within)

pub comes_from : (links : List Link) (a b j : ℕ) → j < length (merges_of links a b) → ComesFrom links a b (merge_at (merges_of links a b) j)
comes_from [] a b j within = absurd (omega arith)
comes_from (x ∷ xs) a b j within =
    comes_split x xs a b j (crosses_link a b x) refl within (comes_from xs a b)

-- each link that has an end in each has a merge
goes_to : (links : List Link) (a b i : ℕ) → i < length links → crosses_link a b (link_at links i) ≡ true → (j : ℕ) × (j < length (merges_of links a b)) × (merge_at (merges_of links a b) j ≡ link_merge (link_at links i) a b)
goes_to [] a b i within crossing = absurd (omega arith)
goes_to (x ∷ xs) a b zero within crossing =
    subst (λ t. (j : ℕ) × (j < length (cond t (link_merge x a b ∷ merges_of xs a b) (merges_of xs a b))) × (merge_at (cond t (link_merge x a b ∷ merges_of xs a b) (merges_of xs a b)) j ≡ link_merge x a b)) (sym crossing) (0, omega arith, refl)
goes_to (x ∷ xs) a b (suc i) within crossing =
    let later = goes_to xs a b i (omega (arith, within)) crossing in
    elim (crosses_link a b x) as (λ t. (j : ℕ) × (j < length (cond t (link_merge x a b ∷ merges_of xs a b) (merges_of xs a b))) × (merge_at (cond t (link_merge x a b ∷ merges_of xs a b) (merges_of xs a b)) j ≡ link_merge (link_at xs i) a b)) [
      | true ↦ (suc later.0, omega (arith, later.1), later.2)
      | false ↦ later
    ]

short_need : (n : Option Item) → IsShort (need_order n)
short_need None = tt
short_need (Some x) = tt

pub short_side : (edge : TaskEdge) (set : ℕ) → IsShort (side_need edge set)
short_side edge set =
    elim (has_slot set edge.left) as (λ b. IsShort (need_order (cond b edge.left_need edge.right_need))) [
      | true ↦ short_need edge.left_need
      | false ↦ short_need edge.right_need
    ]

-- the front of a side asks for the edge's need
side_asks : (list : Order) (fronts : List Front) (edge : TaskEdge) (link : Link) (set : ℕ) → Ties list fronts edge link → (side_front link set < length fronts) × (asked list fronts (side_front link set) ≡ side_need edge set)
side_asks list fronts edge link set h =
    let same : meet set link.left ≡ has_slot set edge.left = ap (meet set) (sym h.left_slot) in
    subst (λ t. (cond t link.left_front link.right_front < length fronts) × (asked list fronts (cond t link.left_front link.right_front) ≡ side_need edge set)) (sym same) (elim (has_slot set edge.left) as (λ b. (cond b link.left_front link.right_front < length fronts) × (asked list fronts (cond b link.left_front link.right_front) ≡ need_order (cond b edge.left_need edge.right_need))) [
      | true ↦ (h.left_in, h.left_asks)
      | false ↦ (h.right_in, h.right_asks)
    ])

crosses_same : (list : Order) (fronts : List Front) (edge : TaskEdge) (link : Link) (a b : ℕ) → Ties list fronts edge link → crosses_link a b link ≡ crosses a b edge
crosses_same list fronts edge link a b h =
    ap (λ x. (meet a x && meet b link.right) || (meet a link.right && meet b x)) (sym h.left_slot)
    ∙ ap (λ x. (has_slot a edge.left && meet b x) || (meet a x && has_slot b edge.left)) (sym h.right_slot)

-- what a listed merge says of its edge
pub record MergeMeans (task : Task) (list : Order) (fronts : List Front) (a b : ℕ) (merge : Merge) : Type 0 where
  pub edge : TaskEdge
  pub found : slice_get task.edges merge.edge ≡ Some edge
  pub crossing : crosses a b edge ≡ true
  pub left_in : merge.left_need < length fronts
  pub right_in : merge.right_front < length fronts
  pub left_asks : asked list fronts merge.left_need ≡ side_need edge a
  pub right_asks : asked list fronts merge.right_front ≡ side_need edge b

no_edge : TaskEdge
no_edge = record { left = 0; left_column = 0; left_need = None; right = 0; right_column = 0; right_need = None }

means : (task : Task) (list : Order) (fronts : List Front) (links : List Link) (n a b : ℕ) → AreLinks list fronts task.edges links n → (merge : Merge) → ComesFrom links a b merge → MergeMeans task list fronts a b merge
means task list fronts links n a b linked merge w =
    let link : Link = link_at links w.link in
    let is = linked.each w.link w.link_in in
    let edge : TaskEdge = slice_index_or task.edges link.edge no_edge in
    let found : slice_get task.edges link.edge ≡ Some edge = slice_get-get_or task.edges link.edge no_edge is.number in
    let ties = is.tied edge found in
    let left = side_asks list fronts edge link a ties in
    let right = side_asks list fronts edge link b ties in
    subst (MergeMeans task list fronts a b) (sym w.is) (record {
      edge = edge;
      found = found;
      crossing = sym (crosses_same list fronts edge link a b ties) ∙ w.crossing;
      left_in = left.0;
      right_in = right.0;
      left_asks = left.1;
      right_asks = right.1;
    })

pub merge_means : (task : Task) (list : Order) (fronts : List Front) (links : List Link) (n a b : ℕ) (merges : List Merge) → AreLinks list fronts task.edges links n → merges ≡ merges_of links a b → (j : ℕ) → j < length merges → MergeMeans task list fronts a b (merge_at merges j)
merge_means task list fronts links n a b merges linked is j within =
    subst (λ ms. MergeMeans task list fronts a b (merge_at ms j)) (sym is) (means task list fronts links n a b linked (merge_at (merges_of links a b) j) (comes_from links a b j (subst (λ ms. j < length ms) is within)))

-- a merge of the list that gives a cost is one of its edge
pub merge_gives : (task : Task) (list : Order) (fronts : List Front) (heads : List (Option Item)) (left right : List Cell) (a b f cost price : ℕ) (merges : List Merge) (j g : ℕ) → AreHeads list fronts heads → f < length fronts → price ≡ merge_of task a b → MergeMeans task list fronts a b (merge_at merges j) → IsMergedBy heads left right price merges f cost j g → IsMerge task list fronts left right a b f cost (merge_at merges j).edge g (merge_at merges j).right_front
merge_gives task list fronts heads left right a b f cost price merges j g first within price_is m by_merge =
    let merge : Merge = merge_at merges j in
    let serves : longer_front (first_item (asked list fronts merge.left_need)) (first_item (asked list fronts f)) merge.left_need f ≡ Some g = ap (λ t. longer_front t (first_item (asked list fronts f)) merge.left_need f) (sym (first.each merge.left_need m.left_in)) ∙ ap (λ t. longer_front (head_at heads merge.left_need) t merge.left_need f) (sym (first.each f within)) ∙ by_merge.serves in
    let asks = longer_asks (asked list fronts) merge.left_need f g (subst IsShort (sym m.left_asks) (short_side m.edge a)) serves in
    record {
      left_in = longer_in (length fronts) merge.left_need f g (first_item (asked list fronts merge.left_need)) (first_item (asked list fronts f)) m.left_in within serves;
      right_in = m.right_in;
      merges = record {
        edge = m.edge;
        found = m.found;
        crossing = m.crossing;
        left_begins = subst (BeginsWith (asked list fronts g)) m.left_asks asks.0;
        right_begins = subst (BeginsWith (asked list fronts merge.right_front)) m.right_asks (begins_self (asked list fronts merge.right_front));
      };
      keeps = asks.1;
      costs = omega (arith, by_merge.costs, price_is);
    }

-- ## An edge and the one with its sides exchanged

crosses_turned : (a b : ℕ) (edge : TaskEdge) → crosses a b edge ≡ true → crosses a b (turned edge) ≡ true
crosses_turned a b edge h =
    let one = has_slot a edge.left && has_slot b edge.right in
    let other = has_slot a edge.right && has_slot b edge.left in
    elim (or_cases one other h) [
      | inl first ↦ or_right other one first
      | inr second ↦ or_left other one second
    ]

needs_exchanged : (left right : Bool) (x y : Option Item) → (left ≡ true → right ≡ true → ⊥) → (left ≡ false → right ≡ true) → need_order (cond right y x) ≡ need_order (cond left x y)
needs_exchanged true true x y both either = absurd (both refl refl)
needs_exchanged true false x y both either = refl
needs_exchanged false true x y both either = refl
needs_exchanged false false x y both either = absurd (false≢true (either refl))

-- of a set that has one end of the edge, both want the same
side_turned : (a b : ℕ) (edge : TaskEdge) → bit_and a b ≡ 0 → crosses a b edge ≡ true → side_need (turned edge) a ≡ side_need edge a
side_turned a b edge apart h =
    let one = has_slot a edge.left && has_slot b edge.right in
    let other = has_slot a edge.right && has_slot b edge.left in
    needs_exchanged (has_slot a edge.left) (has_slot a edge.right) edge.left_need edge.right_need (λ left right.
    elim (or_cases one other h) [
      | inl first ↦ both_ways (has_slot b edge.right) (has-apart a b edge.right apart right) (and_parts (has_slot a edge.left) (has_slot b edge.right) first).1
      | inr second ↦ both_ways (has_slot b edge.left) (has-apart a b edge.left apart left) (and_parts (has_slot a edge.right) (has_slot b edge.left) second).1
    ]) (λ none.
    elim (or_cases one other h) [
      | inl first ↦ absurd (both_ways (has_slot a edge.left) none (and_parts (has_slot a edge.left) (has_slot b edge.right) first).0)
      | inr second ↦ (and_parts (has_slot a edge.right) (has_slot b edge.left) second).0
    ])

crosses_back : (a b : ℕ) (edge : TaskEdge) → crosses a b edge ≡ true → crosses b a edge ≡ true
crosses_back a b edge h =
    let one = has_slot a edge.left && has_slot b edge.right in
    let other = has_slot a edge.right && has_slot b edge.left in
    let there = has_slot b edge.left && has_slot a edge.right in
    let back = has_slot b edge.right && has_slot a edge.left in
    elim (or_cases one other h) [
      | inl first ↦ let p = and_parts (has_slot a edge.left) (has_slot b edge.right) first in or_right there back (and_from (has_slot b edge.right) (has_slot a edge.left) p.1 p.0)
      | inr second ↦ let p = and_parts (has_slot a edge.right) (has_slot b edge.left) second in or_left there back (and_from (has_slot b edge.left) (has_slot a edge.right) p.1 p.0)
    ]

-- a link of an edge between two sets: it has an end in each, and its fronts ask for what the edge's sides want
record Serves (list : Order) (fronts : List Front) (edge : TaskEdge) (link : Link) (a b : ℕ) : Type 0 where
  crossing : crosses_link a b link ≡ true
  left_in : side_front link a < length fronts
  right_in : side_front link b < length fronts
  left_asks : asked list fronts (side_front link a) ≡ side_need edge a
  right_asks : asked list fronts (side_front link b) ≡ side_need edge b

serves_tied : (list : Order) (fronts : List Front) (edge : TaskEdge) (link : Link) (a b : ℕ) → Ties list fronts edge link → crosses a b edge ≡ true → Serves list fronts edge link a b
serves_tied list fronts edge link a b t h =
    let left = side_asks list fronts edge link a t in
    let right = side_asks list fronts edge link b t in
    record {
      crossing = crosses_same list fronts edge link a b t ∙ h;
      left_in = left.0;
      right_in = right.0;
      left_asks = left.1;
      right_asks = right.1;
    }

serves_joined : (list : Order) (fronts : List Front) (edge : TaskEdge) (link : Link) (a b : ℕ) → bit_and a b ≡ 0 → Joins list fronts edge link → crosses a b edge ≡ true → Serves list fronts edge link a b
serves_joined list fronts edge link a b apart (inl t) h = serves_tied list fronts edge link a b t h
serves_joined list fronts edge link a b apart (inr t) h =
    let s = serves_tied list fronts (turned edge) link a b t (crosses_turned a b edge h) in
    record {
      crossing = s.crossing;
      left_in = s.left_in;
      right_in = s.right_in;
      left_asks = s.left_asks ∙ side_turned a b edge apart h;
      right_asks = s.right_asks ∙ side_turned b a edge (and_comm b a ∙ apart) (crosses_back a b edge h);
    }

-- some merge is listed where an edge has an end in each of two sets
pub some_merge : (task : Task) (list : Order) (fronts : List Front) (links : List Link) (a b number : ℕ) (edge : TaskEdge) → AreLinks list fronts task.edges links (length task.edges) → bit_and a b ≡ 0 → slice_get task.edges number ≡ Some edge → crosses a b edge ≡ true → 0 < length (merges_of links a b)
some_merge task list fronts links a b number edge linked apart found crossing =
    ∥∥₁_elim (linked.all number edge (slice_get_within task.edges number edge found) found) le_prop (λ w.
    let s = serves_joined list fronts edge (link_at links w.link) a b apart w.joins crossing in
    let j = goes_to links a b w.link w.link_in s.crossing in
    omega (arith, j.1))

-- what bounds the cells that serve a merge bounds its cost
pub merge_low : (task : Task) (list : Order) (fronts : List Front) (heads : List (Option Item)) (links : List Link) (left right : List Cell) (a b f cost price number : ℕ) (merges : List Merge) (o r : Order) (x y : ℕ) → AreHeads list fronts heads → AreLinks list fronts task.edges links (length task.edges) → bit_and a b ≡ 0 → f < length fronts → price ≡ merge_of task a b → merges ≡ merges_of links a b → MergesBound heads left right price merges f cost → Merges task number a b o r → BeginsWith o (asked list fronts f) → ((g : ℕ) → g < length fronts → BeginsWith o (asked list fronts g) → any_at left g ≤ x) → ((h : ℕ) → h < length fronts → BeginsWith r (asked list fronts h) → any_at right h ≤ y) → cost ≤ x + y + merge_of task a b
merge_low task list fronts heads links left right a b f cost price number merges o r x y first linked apart within price_is is bound m begins left_low right_low =
    ∥∥₁_elim (linked.all number m.edge (slice_get_within task.edges number m.edge m.found) m.found) le_prop (λ w.
    let link : Link = link_at links w.link in
    let s = serves_joined list fronts m.edge link a b apart w.joins m.crossing in
    let j = goes_to links a b w.link w.link_in s.crossing in
    let merge : Merge = merge_at merges j.0 in
    let here : merge ≡ link_merge link a b = ap (λ ms. merge_at ms j.0) is ∙ j.2 in
    let need : merge.left_need ≡ side_front link a = ap (λ (t : Merge). t.left_need) here in
    let other : merge.right_front ≡ side_front link b = ap (λ (t : Merge). t.right_front) here in
    let need_in : merge.left_need < length fronts = subst (λ t. t < length fronts) (sym need) s.left_in in
    let o_need : BeginsWith o (asked list fronts merge.left_need) = subst (BeginsWith o) (sym (ap (asked list fronts) need ∙ s.left_asks)) m.left_begins in
    let g = longer_serves (asked list fronts) o merge.left_need f o_need begins in
    let serves : longer_front (head_at heads merge.left_need) (head_at heads f) merge.left_need f ≡ Some g.0 = ap (λ t. longer_front t (head_at heads f) merge.left_need f) (first.each merge.left_need need_in) ∙ ap (λ t. longer_front (first_item (asked list fronts merge.left_need)) t merge.left_need f) (first.each f within) ∙ g.1 in
    let inside : j.0 < length merges = subst (λ ms. j.0 < length ms) (sym is) j.1 in
    let most = (bound.each j.0 inside).each g.0 serves in
    let front_in = longer_in (length fronts) merge.left_need f g.0 (first_item (asked list fronts merge.left_need)) (first_item (asked list fronts f)) need_in within g.1 in
    let from_left = left_low g.0 front_in g.2 in
    let from_right : any_at right merge.right_front ≤ y = subst (λ t. any_at right t ≤ y) (sym other) (right_low (side_front link b) s.right_in (subst (BeginsWith r) (sym s.right_asks) m.right_begins)) in
    omega (arith, most, from_left, from_right, price_is))

-- an edge of the list that has an end in each of two sets
pub record Crossing (edges : List TaskEdge) (a b : ℕ) : Type 0 where
  pub number : ℕ
  pub edge : TaskEdge
  pub found : slice_get edges number ≡ Some edge
  pub crossing : crosses a b edge ≡ true

pub crossing_of : (edges : List TaskEdge) (a b : ℕ) → list_any (crosses a b) edges ≡ true → Crossing edges a b
crossing_of [] a b h = absurd (false≢true h)
crossing_of (x ∷ xs) a b h =
    elim (or_cases (crosses a b x) (list_any (crosses a b) xs) h) [
      | inl here ↦ record { number = 0; edge = x; found = refl; crossing = here }
      | inr later ↦ let w = crossing_of xs a b later in record { number = suc w.number; edge = w.edge; found = w.found; crossing = w.crossing }
    ]

pub any_crossing : (a b : ℕ) (edges : List TaskEdge) (k : ℕ) (edge : TaskEdge) → slice_get edges k ≡ Some edge → crosses a b edge ≡ true → list_any (crosses a b) edges ≡ true
any_crossing a b [] k edge found crossing = cc
any_crossing a b (x ∷ xs) zero edge found crossing =
    let e : x ≡ edge = cc in or_left (crosses a b x) (list_any (crosses a b) xs) (ap (crosses a b) e ∙ crossing)
any_crossing a b (x ∷ xs) (suc k) edge found crossing =
    or_right (crosses a b x) (list_any (crosses a b) xs) (any_crossing a b xs k edge found crossing)
