-- Gathering orders one by one, with marks on the columns that have one.
use Rattle.std.proofs.Common.{◌≡◌, inl, inr, ℕ, ◌<◌, ◌≤◌, ◌==◌, Bool, true, false, cond, not, ◌&&◌, ◌||◌, if◌then◌else◌, List, [], ◌∷◌, ◌++◌, length, get_or, set, replicate, fold, All, refl, sym, ◌∙◌, append_assoc, arith, length-append}
use Rattle.std.specs.List.{list_any, list_all, flat_map}
use Rattle.std.proofs.lemmas.Bool.{cases_Bool, ltb-true, false≢true, eqb-true, cases_eq, and_parts}
use Rattle.std.proofs.lemmas.Bool.Decides.{nat_tests}
use Rattle.std.proofs.lemmas.Grind.{common_steps, get_or-set_at}
use Rattle.std.proofs.lemmas.List.{set-get_or, get_or-set_other, get_or-replicate, length-replicate, length-set}
use Rattle.std.proofs.lemmas.List.Elements.{All-push, All-head, All-tail, All-cons, All-nil}
use Rattle.std.proofs.lemmas.List.Folds.{list_any-append, sum_by-replicate}
use Rattle.std.proofs.lemmas.List.Sums.{sum_by-set, fold-append}
use Rattle.adv_base.specs.declared.workload.parts.Item.{Item}
use Rattle.adv_base.specs.declared.workload.parts.Item.TheVariants.{Up, Down, Made}
use Rattle.adv_base.specs.Items.{Order, is_up_of, is_same_order, is_own_list}
use Rattle.plan_model.specs.declared.task.Task.{Task}
use Rattle.plan_model.specs.Limits.Tasks.{is_numbered, AreNumbered}
use Rattle.plan_model.specs.Orders.{edge_orders, own_list, wanted_list, without_repeats, interesting_orders}
use Rattle.interesting_orders.specs.inner.Marks.{add_order, is_marked, AreMarks}

pub add_order-known : (orders : List Order) (order : Order) → list_any (is_same_order order) orders ≡ true → add_order orders order ≡ orders
add_order-known orders order h = rw h

pub add_order-new : (orders : List Order) (order : Order) → list_any (is_same_order order) orders ≡ false → add_order orders order ≡ orders ++ order ∷ []
add_order-new orders order h = rw h

-- leaving out repeats is adding one order after the other
pub without_repeats-fold : (before xs : List Order) → before ++ without_repeats before xs ≡ fold add_order before xs
without_repeats-fold before [] = grind (arith, common_steps)
without_repeats-fold before (x ∷ xs) =
    elim (cases_Bool (list_any (is_same_order x) before)) [
      | inl h ↦ rw h (without_repeats-fold before xs)
      | inr h ↦
          rw h
          (sym (append_assoc before (x ∷ []) (without_repeats (before ++ x ∷ []) xs)) ∙ without_repeats-fold (before ++ x ∷ []) xs)
    ]

-- the orders of a slot, gathered edge by edge and then from the list
pub interesting_orders-fold : (task : Task) (slot : ℕ) → interesting_orders task slot ≡ fold add_order (fold add_order ([] ∷ []) (flat_map (edge_orders slot) task.edges)) (own_list slot (wanted_list task.group task.order))
unfolding interesting_orders
interesting_orders-fold task slot =
    without_repeats-fold [] ([] ∷ (flat_map (edge_orders slot) task.edges ++ own_list slot (wanted_list task.group task.order)))
    ∙ fold-append add_order ([] ∷ []) (flat_map (edge_orders slot) task.edges) (own_list slot (wanted_list task.group task.order))

-- no column is marked, and there is the empty order alone
pub AreMarks-start : (slot : ℕ) → AreMarks slot (replicate 200 false) ([] ∷ [])
AreMarks-start slot =
    record {
      size = length-replicate 200 false;
      short = All-cons (λ (order : Order). length order ≤ 1) [] [] (omega arith) (All-nil (λ (order : Order). length order ≤ 1));
      marks = λ column h. get_or-replicate 200 column false false h;
      counted = omega (arith, sum_by-replicate (λ mark. cond mark 1 0) 200 false);
    }

same-single : (slot c d : ℕ) → is_same_order (Up slot c ∷ []) (Up slot d ∷ []) ≡ (c == d)
same-single slot c d = grind (arith, nat_tests)

any-push : (slot c d : ℕ) (orders : List Order) → list_any (is_same_order (Up slot c ∷ [])) (orders ++ (Up slot d ∷ []) ∷ []) ≡ (list_any (is_same_order (Up slot c ∷ [])) orders || (c == d))
any-push slot c d orders =
    let joined = list_any-append (is_same_order (Up slot c ∷ [])) orders ((Up slot d ∷ []) ∷ []) in
    let same = same-single slot c d in
    grind arith

-- a column that isn't marked
AreMarks-push : (slot column : ℕ) (seen : List Bool) (orders : List Order) → column < 200 → AreMarks slot seen orders → get_or seen column false ≡ false → AreMarks slot (set seen column true) (orders ++ (Up slot column ∷ []) ∷ [])
AreMarks-push slot column seen orders h m unseen =
    let within : column < length seen = omega arith in
    record {
      size = length-set seen column true ∙ m.size;
      short = All-push (λ (order : Order). length order ≤ 1) orders (Up slot column ∷ []) m.short (omega arith);
      marks = λ d small.
          let joined = any-push slot d column orders in
          let old = m.marks d small in
          elim (cases_eq d column) [
            | inl e ↦ grind (arith, nat_tests, get_or-set_at)
            | inr n ↦ grind (arith, nat_tests, get_or-set_other seen column d true false n)
          ];
      counted =
          let count = sum_by-set (λ mark. cond mark 1 0) seen column true false within in
          let more = length-append orders ((Up slot column ∷ []) ∷ []) in
          grind arith;
    }

-- a column is marked as its order is added
pub AreMarks-add : (slot column : ℕ) (seen : List Bool) (orders : List Order) → column < 200 → AreMarks slot seen orders → AreMarks slot (set seen column true) (add_order orders (Up slot column ∷ []))
AreMarks-add slot column seen orders h m =
    elim (cases_Bool (list_any (is_same_order (Up slot column ∷ [])) orders)) [
      | inl known ↦
          let marked : get_or seen column false ≡ true = m.marks column h ∙ known in
          rw (add_order-known orders (Up slot column ∷ []) known, rw marked at (set-get_or seen column false)) m
      | inr new ↦
          rw (add_order-new orders (Up slot column ∷ []) new) (AreMarks-push slot column seen orders h m (m.marks column h ∙ new))
    ]

none-long : (x y : Item) (ys : List Item) (orders : List Order) → All (λ order. length order ≤ 1) orders → list_any (is_same_order (x ∷ (y ∷ ys))) orders ≡ false
none-long x y ys [] s = refl
none-long x y ys ([] ∷ orders) s = none-long x y ys orders (All-tail (λ (order : Order). length order ≤ 1) [] orders s)
none-long x y ys ((z ∷ []) ∷ orders) s =
    let rest = none-long x y ys orders (All-tail (λ (order : Order). length order ≤ 1) (z ∷ []) orders s) in
    grind arith
none-long x y ys ((z ∷ (w ∷ zs)) ∷ orders) s =
    let long = All-head (λ (order : Order). length order ≤ 1) (z ∷ (w ∷ zs)) orders s in
    absurd (omega arith)

-- an own list is among the orders where it is a single column that is marked
pub is_marked-any : (slot : ℕ) (seen : List Bool) (orders : List Order) (items : Order) → AreMarks slot seen orders → AreNumbered items → is_own_list slot items ≡ true → is_marked seen items ≡ list_any (is_same_order items) orders
is_marked-any slot seen orders [] m n own = absurd (false≢true own)
is_marked-any slot seen orders (Up s c ∷ []) m n own =
    let at : s ≡ slot = eqb-true s slot (and_parts (s == slot) true own).0 in
    let small : c < 200 = ltb-true c 200 (All-head (λ item. is_numbered item ≡ true) (Up s c) [] n) in
    rw at (m.marks c small)
is_marked-any slot seen orders (Up s c ∷ (y ∷ ys)) m n own = sym (none-long (Up s c) y ys orders m.short)
is_marked-any slot seen orders (Down s c ∷ ys) m n own = absurd (false≢true own)
is_marked-any slot seen orders (Made k ∷ ys) m n own = absurd (false≢true own)

add_order-test : (orders : List Order) (order : Order) → add_order orders order ≡ (if not (list_any (is_same_order order) orders) then orders ++ order ∷ [] else orders)
add_order-test orders order =
    elim (cases_Bool (list_any (is_same_order order) orders)) [ inl h ↦ rw h refl | inr h ↦ rw h refl ]

-- an own list is new where it isn't marked
pub fold-own_list : (slot : ℕ) (seen : List Bool) (orders : List Order) (items : Order) → AreMarks slot seen orders → AreNumbered items → fold add_order orders (own_list slot items) ≡ (if is_own_list slot items && not (is_marked seen items) then orders ++ items ∷ [] else orders)
fold-own_list slot seen orders items m n =
    elim (cases_Bool (is_own_list slot items)) [
      | inl own ↦
          let same = is_marked-any slot seen orders items m n own in
          rw (own, same) (add_order-test orders items)
      | inr other ↦ rw other refl
    ]
