-- How many orders a slot has, and that they differ.
use Rattle.std.proofs.Common.{◌≡◌, ◌≢◌, inl, inr, ℕ, ◌+◌, ◌<◌, ◌≤◌, ◌==◌, Bool, true, false, List, [], ◌∷◌, ◌++◌, length, length-append, get_or, set, replicate, fold, All, Option, Some, None, refl, sym, ap, ◌∙◌, arith}
use Rattle.std.specs.Prelude.{AllPairs}
use Rattle.std.specs.Option.{ForSome}
use Rattle.std.specs.List.{list_any, flat_map}
use Rattle.std.proofs.lemmas.Bool.{cases_Bool, false≢true, eqb-true}
use Rattle.std.proofs.lemmas.List.Elements.{All-head, All-tail}
use Rattle.std.proofs.lemmas.List.Folds.{list_any_at}
use Rattle.std.proofs.lemmas.List.Quantifiers.{all_pairs_push}
use Rattle.std.proofs.lemmas.List.Sums.{fold-append, count_by-le-length}
use Rattle.adv_base.specs.declared.workload.parts.Item.{Item}
use Rattle.adv_base.specs.declared.workload.parts.Item.TheVariants.{Up}
use Rattle.adv_base.specs.Items.{Order, is_same_order, is_own_list}
use Rattle.adv_base.proofs.ItemLaws.{is_same_order-decides}
use Rattle.plan_model.specs.declared.edge.TaskEdge.{TaskEdge}
use Rattle.plan_model.specs.declared.task.Task.{Task}
use Rattle.plan_model.specs.Limits.Tasks.{EdgeLimits}
use Rattle.plan_model.specs.Orders.{needs_at, edge_orders, own_list, wanted_list, without_repeats, interesting_orders}
use Rattle.interesting_orders.specs.inner.Marks.{add_order, AreMarks}
use Rattle.interesting_orders.proofs.MarkLemmas.{interesting_orders-fold, add_order-known, add_order-new, without_repeats-fold, AreMarks-start, AreMarks-add}

-- the empty order comes first
pub interesting_orders-first : (task : Task) (slot : ℕ) → (rest : List Order) × (interesting_orders task slot ≡ [] ∷ rest)
unfolding interesting_orders
interesting_orders-first task slot = (without_repeats ([] ∷ []) (flat_map (edge_orders slot) task.edges ++ own_list slot (wanted_list task.group task.order)), refl)

-- ## No repeats

any-none : (o : Order) (orders : List Order) → list_any (is_same_order o) orders ≡ false → (k : ℕ) (d : Order) → k < length orders → get_or orders k d ≢ o
any-none o orders none k d within e =
    absurd (false≢true (sym none ∙ list_any_at (is_same_order o) orders k d within ((is_same_order-decides o (get_or orders k d)).1 (sym e))))

differ-add : (orders : List Order) (o : Order) → AllPairs (λ x y. x ≢ y) orders → AllPairs (λ x y. x ≢ y) (add_order orders o)
differ-add orders o h =
    elim (cases_Bool (list_any (is_same_order o) orders)) [
      | inl known ↦ rw (add_order-known orders o known) h
      | inr new ↦ rw (add_order-new orders o new) (all_pairs_push (λ x y. x ≢ y) orders o h (any-none o orders new))
    ]

differ-fold : (orders xs : List Order) → AllPairs (λ x y. x ≢ y) orders → AllPairs (λ x y. x ≢ y) (fold add_order orders xs)
differ-fold orders [] h = h
differ-fold orders (x ∷ xs) h = differ-fold (add_order orders x) xs (differ-add orders x h)

raw-orders : Task → ℕ → List Order
raw-orders task slot = [] ∷ (flat_map (edge_orders slot) task.edges ++ own_list slot (wanted_list task.group task.order))

interesting_orders-raw : (task : Task) (slot : ℕ) → interesting_orders task slot ≡ fold add_order [] (raw-orders task slot)
unfolding interesting_orders raw-orders
interesting_orders-raw task slot =
    without_repeats-fold [] ([] ∷ (flat_map (edge_orders slot) task.edges ++ own_list slot (wanted_list task.group task.order)))

-- no order stands twice
pub interesting_orders-differ : (task : Task) (slot : ℕ) → AllPairs (λ x y. x ≢ y) (interesting_orders task slot)
interesting_orders-differ task slot =
    rw interesting_orders-raw
    (differ-fold [] (raw-orders task slot) (λ i j d below within. absurd (omega (arith, within))))

-- ## Their number

marks-needs : (slot at' column : ℕ) (here : Bool) (need : Option Item) (seen : List Bool) (orders : List Order) → (here ≡ true → at' ≡ slot) → column < 200 → ForSome need (λ item. item ≡ Up at' column) → AreMarks slot seen orders → (after : List Bool) × AreMarks slot after (fold add_order orders (needs_at slot here need))
marks-needs slot at' column false need seen orders same small h m = (seen, m)
marks-needs slot at' column true None seen orders same small h m = (seen, m)
marks-needs slot at' column true (Some item) seen orders same small h m =
    let is : item ≡ Up slot column = h item refl ∙ ap (λ s. Up s column) (same refl) in
    rw is (set seen column true, AreMarks-add slot column seen orders small m)

marks-edge : (n slot : ℕ) (edge : TaskEdge) (seen : List Bool) (orders : List Order) → EdgeLimits n edge → AreMarks slot seen orders → (after : List Bool) × AreMarks slot after (fold add_order orders (edge_orders slot edge))
marks-edge n slot edge seen orders l m =
    let left = needs_at slot (edge.left == slot) edge.left_need in
    let right = needs_at slot (edge.right == slot) edge.right_need in
    let first = marks-needs slot edge.left edge.left_column (edge.left == slot) edge.left_need seen orders (eqb-true edge.left slot) l.left_number l.left_item m in
    let second = marks-needs slot edge.right edge.right_column (edge.right == slot) edge.right_need first.0 (fold add_order orders left) (eqb-true edge.right slot) l.right_number l.right_item first.1 in
    rw (fold-append add_order orders left right) second

marks-edges : (n slot : ℕ) (edges : List TaskEdge) (seen : List Bool) (orders : List Order) → All (EdgeLimits n) edges → AreMarks slot seen orders → (after : List Bool) × AreMarks slot after (fold add_order orders (flat_map (edge_orders slot) edges))
marks-edges n slot [] seen orders l m = (seen, m)
marks-edges n slot (e ∷ es) seen orders l m =
    let first = marks-edge n slot e seen orders (All-head (EdgeLimits n) e es l) m in
    rw (fold-append add_order orders (edge_orders slot e) (flat_map (edge_orders slot) es))
    (marks-edges n slot es first.0 (fold add_order orders (edge_orders slot e)) (All-tail (EdgeLimits n) e es l) first.1)

fold-own-length : (slot : ℕ) (orders : List Order) (o : Order) → length (fold add_order orders (own_list slot o)) ≤ length orders + 1
fold-own-length slot orders o =
    elim (cases_Bool (is_own_list slot o)) [
      | inl own ↦
          elim (cases_Bool (list_any (is_same_order o) orders)) [
            | inl known ↦ rw (own, add_order-known orders o known) (omega arith)
            | inr new ↦ rw (own, add_order-new orders o new, length-append orders (o ∷ [])) (omega arith)
          ]
      | inr other ↦ rw other (omega arith)
    ]

-- a slot has at most 203 orders
pub interesting_orders-few : (task : Task) (slot : ℕ) → length (interesting_orders task slot) ≤ 203
interesting_orders-few task slot =
    let marks = marks-edges task.slots slot task.edges (replicate 200 false) ([] ∷ []) task.limits.each_edge (AreMarks-start slot) in
    let columns = count_by-le-length (λ mark. mark) marks.0 in
    let last = fold-own-length slot (fold add_order ([] ∷ []) (flat_map (edge_orders slot) task.edges)) (wanted_list task.group task.order) in
    rw interesting_orders-fold (omega (arith, marks.1.counted, marks.1.size, columns, last))
