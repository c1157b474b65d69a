-- What it takes to make a step, and to have none.
use Rattle.std.proofs.Common.{◌≡◌, ◌≢◌, ◌∙◌, ℕ, zero, suc, ◌+◌, ◌-◌, ◌<◌, ◌≤◌, ◌^◌, List, [], ◌∷◌, ◌++◌, length, get_or, drop, sym, ap, refl, arith}
use Rattle.std.specs.Prelude.{ℤ, pos, negsuc, decimal, codes}
use Rattle.std.specs.Fmt.{signed_decimal}
use Rattle.std.proofs.lemmas.List.{append_cancel_left}
use Rattle.adv_base.specs.declared.limits.TheConstants.{MOST_CANDIDATES, MOST_STATEMENTS, MOST_SLOTS, MOST_PAGE_PRICE, MOST_NODES, MOST_PAGES, MOST_SETS}
use Rattle.bip_model.specs.declared.answer.Node.{Node}
use Rattle.bip_model.specs.declared.answer.Node.TheVariants.{Branch, Bounded, Overfull}
use Rattle.certificate.specs.Limits.{Rise, IsSmall, EntryLimits, NodeLimits, entry_place}
use Rattle.certificate.specs.Texts.{word, words, title_line, budget_line, config_line, cost_line, bound_line, sets_line, set_line, entry_line, tree_line, node_line}
use Rattle.certificate.specs.declared.cert.Entry.{Entry}
use Rattle.certificate.specs.declared.cert.SparseSet.{SparseSet}
use Rattle.certificate.specs.inner.Outlines.{Draft}
use Rattle.certificate.specs.declared.outline.TheConstants.{FIRST_PLACE, LAST_PLACE}
use Rattle.certificate.specs.inner.Words.{IsSetLine}
use Rattle.certificate.specs.inner.Steps.{trees_after, closed, closed_by, with_set, with_entry, BodyStep, NodeStep}
use Rattle.certificate.proofs.WideDigits.{wide-injective}
use Rattle.certificate.proofs.WordLaws.{one-front, one-next, minus-none}
use Rattle.certificate.proofs.FormLaws.{words-end, entry-statement, entry-slot, entry-candidate}

-- a line has one number behind a word
pub one-word : (front : List ℕ) (n p : ℕ) → n < 2 ^ 128 → p < 2 ^ 128 → front ++ 32 ∷ decimal n ≡ front ++ 32 ∷ decimal p → n ≡ p
one-word front n p small few e = wide-injective n p small few (ap (drop 1) (append_cancel_left front (32 ∷ decimal n) (32 ∷ decimal p) e))

pub one-title : (n p : ℕ) → n ≤ 2 → p ≤ 2 → title_line n ≡ title_line p → n ≡ p
unfolding title_line
one-title n p small few e = one-word (codes "cophy certificate") n p (omega arith) (omega arith) e

pub one-budget : (n p : ℕ) → n ≤ MOST_PAGES → p ≤ MOST_PAGES → budget_line n ≡ budget_line p → n ≡ p
unfolding budget_line
one-budget n p small few e = one-word (codes "budget") n p (omega arith) (omega arith) e

pub one-cost : (n p : ℕ) → n < 2 ^ 127 → p < 2 ^ 127 → cost_line n ≡ cost_line p → n ≡ p
unfolding cost_line
one-cost n p small few e = one-word (codes "cost") n p (omega arith) (omega arith) e

pub one-sets : (n p : ℕ) → n ≤ MOST_SETS → p ≤ MOST_SETS → sets_line n ≡ sets_line p → n ≡ p
unfolding sets_line
one-sets n p small few e = one-word (codes "sets") n p (omega arith) (omega arith) e

pub one-tree : (n p : ℕ) → n ≤ MOST_NODES → p ≤ MOST_NODES → tree_line n ≡ tree_line p → n ≡ p
unfolding tree_line
one-tree n p small few e = one-word (codes "tree") n p (omega arith) (omega arith) e

-- a configuration
one-list : (l k : ℕ) (ns ms : List ℕ) → Rise l ns → Rise k ms → words ns ≡ words ms → ns ≡ ms
one-list l k [] [] h g e = refl
one-list l k [] (m ∷ ms) h g e = absurd (omega (arith, ap length e))
one-list l k (n ∷ ns) [] h g e = absurd (omega (arith, ap length e))
one-list l k (n ∷ ns) (m ∷ ms) h g e =
    let same = one-next l MOST_CANDIDATES k MOST_CANDIDATES (words (n ∷ ns)) (words ns) (words ms) n m (omega arith) (omega arith)
    (record { parts = refl; low = h.0; high = h.1; end = words-end ns }) (record { parts = e; low = g.0; high = g.1; end = words-end ms }) in
    ap (λ (x : ℕ). x ∷ ns) same.0 ∙ ap (λ (xs : List ℕ). m ∷ xs) (one-list (n + 1) (m + 1) ns ms h.2 g.2 same.1)

pub one-config : (ns ms : List ℕ) → Rise 1 ns → Rise 1 ms → config_line ns ≡ config_line ms → ns ≡ ms
unfolding config_line
one-config ns ms h g e = one-list 1 1 ns ms h g (append_cancel_left (codes "config") (words ns) (words ms) e)

-- a bound
one-signed : (y z : ℤ) → IsSmall y → IsSmall z → signed_decimal y ≡ signed_decimal z → y ≡ z
one-signed (pos m) (pos n) h g e = ap pos (wide-injective m n (omega arith) (omega arith) e)
one-signed (pos m) (negsuc n) h g e = absurd (minus-none m (decimal (suc n)) (omega arith) e)
one-signed (negsuc m) (pos n) h g e = absurd (minus-none n (decimal (suc m)) (omega arith) (sym e))
one-signed (negsuc m) (negsuc n) h g e = ap negsuc (omega (arith, wide-injective (suc m) (suc n) (omega arith) (omega arith) (ap (drop 1) e)))

pub one-bound : (y z : ℤ) → IsSmall y → IsSmall z → bound_line y ≡ bound_line z → y ≡ z
unfolding bound_line
one-bound y z h g e = one-signed y z h g (ap (drop 1) (append_cancel_left (codes "bound") (32 ∷ signed_decimal y) (32 ∷ signed_decimal z) e))

-- a set
pub one-set : (most : ℕ) (line : List ℕ) (m n k o : ℕ) → most < 2 ^ 128 → IsSetLine most line m k → IsSetLine most line n o → (m ≡ n) × (k ≡ o)
unfolding set_line
one-set most line m n k o small h g =
    let both : word m ++ word k ≡ word n ++ word o = append_cancel_left (codes "set") (word m ++ word k) (word n ++ word o) (sym h.text ∙ g.text) in
    let same = one-next 0 MOST_PAGE_PRICE 0 MOST_PAGE_PRICE (word m ++ word k) (word k) (word o) m n (omega arith) (omega arith)
    (record { parts = refl; low = omega arith; high = h.price; end = refl }) (record { parts = both; low = omega arith; high = g.price; end = refl }) in
    (same.0, wide-injective k o (omega (arith, h.few)) (omega (arith, g.few)) (ap (drop 1) same.1))

-- an entry
pub one-entry : (d e : Entry) → EntryLimits d → EntryLimits e → entry_line d ≡ entry_line e → d ≡ e
one-entry d e h g is =
    let line : List ℕ = entry_line d in
    let r : List ℕ = word d.slot ++ (word d.candidate ++ word d.lambda) in
    let s : List ℕ = word d.candidate ++ word d.lambda in
    let found = entry-statement line d h refl in
    let slot = entry-slot line r d.statement found d h refl in
    let candidate = entry-candidate line r s d.statement d.slot found slot d h refl in
    let statement = one-front 1 MOST_STATEMENTS 1 MOST_STATEMENTS line r (word e.slot ++ (word e.candidate ++ word e.lambda)) d.statement e.statement (omega arith) (omega arith) found (entry-statement line e g is) in
    let slots = one-next 1 MOST_SLOTS 1 MOST_SLOTS r s (word e.candidate ++ word e.lambda) d.slot e.slot (omega arith) (omega arith) slot (entry-slot line r d.statement found e g is) in
    let candidates = one-next 1 MOST_CANDIDATES 1 MOST_CANDIDATES s (word d.lambda) (word e.lambda) d.candidate e.candidate (omega arith) (omega arith) candidate (entry-candidate line r s d.statement d.slot found slot e g is) in
    let lambda : d.lambda ≡ e.lambda = wide-injective d.lambda e.lambda (omega (arith, h.lambda_most)) (omega (arith, g.lambda_most)) (ap (drop 1) candidates.1) in
    λ i. record { statement = statement.0 i; slot = slots.0 i; candidate = candidates.0 i; lambda = lambda i }

-- a node
pub one-node : (sets : ℕ) (a b : Node) → sets < 2 ^ 128 → NodeLimits sets a → NodeLimits sets b → node_line a ≡ node_line b → a ≡ b
unfolding node_line
one-node sets (Branch a) (Branch b) few h g e = ap Branch (one-word (codes "B") a b (omega (arith, h.1)) (omega (arith, g.1)) e)
one-node sets (Branch a) (Bounded b) few h g e = absurd (omega (arith, ap (λ (t : List ℕ). get_or t 0 0) e))
one-node sets (Branch a) Overfull few h g e = absurd (omega (arith, ap (λ (t : List ℕ). get_or t 0 0) e))
one-node sets (Bounded a) (Branch b) few h g e = absurd (omega (arith, ap (λ (t : List ℕ). get_or t 0 0) e))
one-node sets (Bounded a) (Bounded b) few h g e = ap Bounded (one-word (codes "L") a b (omega (arith, h)) (omega (arith, g)) e)
one-node sets (Bounded a) Overfull few h g e = absurd (omega (arith, ap (λ (t : List ℕ). get_or t 0 0) e))
one-node sets Overfull (Branch b) few h g e = absurd (omega (arith, ap (λ (t : List ℕ). get_or t 0 0) e))
one-node sets Overfull (Bounded b) few h g e = absurd (omega (arith, ap (λ (t : List ℕ). get_or t 0 0) e))
one-node sets Overfull Overfull few h g e = refl

-- closing

closed-by-none : (n : ℕ) (d : Draft) (sets : List SparseSet) (es old : List Entry) → n ≡ 0 → sets ≡ d.sets ++ record { mu = d.mu; entries = old } ∷ [] → old ≡ d.entries → es ≡ [] →
    record d { sets = sets; sets_left = d.sets_left - 1; entries = es } ≡ closed_by n d
closed-by-none zero d sets es old none same was empty =
    let all : sets ≡ d.sets ++ record { mu = d.mu; entries = d.entries } ∷ [] = same ∙ (λ i. d.sets ++ record { mu = d.mu; entries = was i } ∷ []) in
    λ i. record d { sets = all i; sets_left = d.sets_left - 1; entries = empty i }
closed-by-none (suc n) d sets es old none same was empty = absurd (omega arith)

pub closed-none : (d : Draft) (sets : List SparseSet) (es old : List Entry) → d.entries_left ≡ 0 → sets ≡ d.sets ++ record { mu = d.mu; entries = old } ∷ [] → old ≡ d.entries → es ≡ [] →
    record d { sets = sets; sets_left = d.sets_left - 1; entries = es } ≡ closed d
unfolding closed
closed-none d sets es old none same was empty = closed-by-none d.entries_left d sets es old none same was empty

closed-by-more : (n : ℕ) (d : Draft) → n ≢ 0 → d ≡ closed_by n d
closed-by-more zero d more = absurd (more refl)
closed-by-more (suc n) d more = refl

pub closed-more : (d : Draft) → d.entries_left ≢ 0 → d ≡ closed d
unfolding closed
closed-more d more = closed-by-more d.entries_left d more

-- steps of the sets

pub body-set : (n : ℕ) (d e : Draft) (line : List ℕ) (mu count : ℕ) → 0 < n → IsSetLine d.spare line mu count → e ≡ closed (record d { mu = mu; entries_left = count; spare = d.spare - count; least = FIRST_PLACE }) → BodyStep 0 n d line e
unfolding with_set
body-set zero d e line mu count some h same = absurd (omega arith)
body-set (suc n) d e line mu count some h same = (mu, count, h, same)

pub body-entry : (n sets : ℕ) (d e : Draft) (line : List ℕ) (entry : Entry) (es : List Entry) (place : ℕ) → place ≡ entry_place entry → 0 < n → EntryLimits entry → line ≡ entry_line entry → d.least ≤ entry_place entry → n - 1 + entry_place entry ≤ LAST_PLACE →
    es ≡ d.entries ++ entry ∷ [] → e ≡ closed (record d { entries = es; entries_left = n - 1; least = place + 1 }) → BodyStep n sets d line e
unfolding with_entry
body-entry zero sets d e line entry es place at some h is low high more same = absurd (omega arith)
body-entry (suc n) sets d e line entry es place at some h is low high more same =
    let left : suc n - 1 ≡ n = omega arith in
    (entry, h, is, low, omega (arith, high, left), same ∙ (λ i. closed (record d { entries = more i; entries_left = left i; least = at i + 1 })))

pub no-entry : (n sets : ℕ) (d f : Draft) (line : List ℕ) (entry : Entry) → 0 < n → EntryLimits entry → line ≡ entry_line entry → (d.least ≤ entry_place entry → n - 1 + entry_place entry ≤ LAST_PLACE → ⊥) → BodyStep n sets d line f → ⊥
no-entry zero sets d f line entry some h is not step = absurd (omega arith)
no-entry (suc n) sets d f line entry some h is not step =
    let same : step.0 ≡ entry = one-entry step.0 entry step.1 h (sym step.2 ∙ is) in
    let place : entry_place step.0 ≡ entry_place entry = ap entry_place same in
    not (omega (arith, step.3, place)) (omega (arith, step.4, place))

pub no-node : (n : ℕ) (d f : Draft) (line : List ℕ) (node : Node) → 0 < n → length d.sets ≤ 16 → NodeLimits (length d.sets) node → line ≡ node_line node →
    (trees_after d.trees_left node ≤ n - 1 → (trees_after d.trees_left node ≡ 0 → n - 1 ≡ 0) → ⊥) → NodeStep n d line f → ⊥
no-node zero d f line node some few h is not step = absurd (omega arith)
no-node (suc n) d f line node some few h is not step =
    let same : step.0 ≡ node = one-node (length d.sets) step.0 node (omega arith) step.1 h (sym step.2 ∙ is) in
    let trees : trees_after d.trees_left step.0 ≡ trees_after d.trees_left node = ap (trees_after d.trees_left) same in
    let left : suc n - 1 ≡ n = omega arith in
    not (omega (arith, step.3, trees, left)) (λ none. omega (arith, step.4 (trees ∙ none), left))
