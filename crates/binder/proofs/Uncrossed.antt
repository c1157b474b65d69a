-- Where two slots have different labels behind the edges, some cut is crossed by no edge.
use Rattle.std.proofs.Common.{◌≡◌, ℕ, zero, suc, ◌+◌, ◌-◌, ◌*◌, ◌/◌, ◌%◌, ◌^◌, ◌<◌, ◌≤◌, Bool, true, false, not, eqb, ◌&&◌, ◌||◌, cond, min, List, [], ◌∷◌, length, get_or, map, fold, refl, sym, ap, ◌∙◌, arith, inl, inr, true≢false}
use Rattle.std.specs.Prelude.{bit_and, All}
use Rattle.std.specs.List.{list_any, list_all, range_with_len}
use Rattle.std.specs.Int.{bit_at}
use Rattle.std.proofs.lemmas.Bool.{cases_lt}
use Rattle.std.proofs.lemmas.Bool.Decides.{nat_tests}
use Rattle.std.proofs.lemmas.Nat.Bits.{bit_at_lowest, bit_at-suc, bit_at-zero, bit_at_and, same_from_bits}
use Rattle.std.proofs.lemmas.List.{get_or-map, length-map}
use Rattle.std.proofs.lemmas.List.FromFn.{length-range_with_len}
use Rattle.std.proofs.lemmas.List.Elements.{All-nil, All-cons, All-head, All-tail, All-weaker}
use Rattle.adv_base.specs.declared.workload.parts.Edge.{Edge}
use Rattle.adv_base.specs.Limits.Blocks.{ends}
use Rattle.adv_base.specs.Sets.{has_slot, is_crossing, IsConnected}
use Rattle.binder.specs.inner.Labels.{renamed, relabelled, labels_of, have_one_label}
use Rattle.binder.specs.Plain.{plain_edge}
use Rattle.binder.proofs.Cuts.{double}
use Rattle.binder.proofs.Connected.{has_slot-one, has_slot-zero}

-- the slots below n that pass a test, as a set
set_of : ℕ → (ℕ → Bool) → ℕ
set_of zero p = 0
set_of (suc n) p = cond (p 0) 1 0 + 2 * set_of n (λ s. p (suc s))

bit_of-zero : (t : Bool) (m : ℕ) → (cond t 1 0 + 2 * m) % 2 ≡ cond t 1 0
bit_of-zero true m = omega arith
bit_of-zero false m = omega arith

half : (t : Bool) (m : ℕ) → (cond t 1 0 + 2 * m) / 2 ≡ m
half true m = omega arith
half false m = omega arith

bit_at-set_of : (n : ℕ) (p : ℕ → Bool) (s : ℕ) → s < n → bit_at (set_of n p) s ≡ cond (p s) 1 0
unfolding set_of
bit_at-set_of zero p s lt = absurd (omega arith)
bit_at-set_of (suc n) p zero lt = bit_at_lowest (cond (p 0) 1 0 + 2 * set_of n (λ s. p (suc s))) ∙ bit_of-zero (p 0) (set_of n (λ s. p (suc s)))
bit_at-set_of (suc n) p (suc s) lt =
    bit_at-suc (cond (p 0) 1 0 + 2 * set_of n (λ t. p (suc t))) s ∙ ap (λ (m : ℕ). bit_at m s) (half (p 0) (set_of n (λ t. p (suc t)))) ∙ bit_at-set_of n (λ t. p (suc t)) s (omega arith)

lowest_bits : (t : Bool) → cond t 1 0 + cond (not t) 1 0 ≡ 1
lowest_bits true = refl
lowest_bits false = refl

-- a set and its complement make a whole
whole-set_of : (n : ℕ) (p : ℕ → Bool) → set_of n p + set_of n (λ s. not (p s)) ≡ 2 ^ n - 1
unfolding set_of
whole-set_of zero p = refl
whole-set_of (suc n) p =
    let low = lowest_bits (p 0) in
    let high = whole-set_of n (λ s. p (suc s)) in
    let d = double n in
    omega arith

no_bit : (t : Bool) → min (cond t 1 0) (cond (not t) 1 0) ≡ 0
no_bit true = refl
no_bit false = refl

past-set_of : (n : ℕ) (p : ℕ → Bool) (s : ℕ) → n ≤ s → bit_at (set_of n p) s ≡ 0
unfolding set_of
past-set_of zero p s le = bit_at-zero s
past-set_of (suc n) p zero le = absurd (omega arith)
past-set_of (suc n) p (suc s) le =
    bit_at-suc (cond (p 0) 1 0 + 2 * set_of n (λ t. p (suc t))) s ∙ ap (λ (m : ℕ). bit_at m s) (half (p 0) (set_of n (λ t. p (suc t)))) ∙ past-set_of n (λ t. p (suc t)) s (omega arith)

apart-set_of : (n : ℕ) (p : ℕ → Bool) → bit_and (set_of n p) (set_of n (λ s. not (p s))) ≡ 0
apart-set_of n p = same_from_bits (bit_and (set_of n p) (set_of n (λ s. not (p s)))) 0 (λ i. bit_at_and (set_of n p) (set_of n (λ s. not (p s))) i ∙ none i ∙ sym (bit_at-zero i))
  where
    none : (i : ℕ) → min (bit_at (set_of n p) i) (bit_at (set_of n (λ s. not (p s))) i) ≡ 0
    none i = elim (cases_lt i n) [
      | inl lt ↦ rw (bit_at-set_of n p i lt, bit_at-set_of n (λ s. not (p s)) i lt) (no_bit (p i))
      | inr le ↦ rw (past-set_of n p i le, past-set_of n (λ s. not (p s)) i le) refl
    ]

-- a set with a bit isn't empty
has_some : (a i : ℕ) → bit_at a i ≡ 1 → 0 < a
has_some zero i one = let none = bit_at-zero i in absurd (omega arith)
has_some (suc a) i one = omega arith

has_slot-set_of : (n : ℕ) (p : ℕ → Bool) (s : ℕ) → s < n → has_slot (set_of n p) s ≡ p s
has_slot-set_of n p s lt = by (p s) refl
  where
    by : (t : Bool) → p s ≡ t → has_slot (set_of n p) s ≡ t
    by true e = has_slot-one (set_of n p) s (bit_at-set_of n p s lt ∙ ap (λ (t : Bool). cond t 1 0) e)
    by false e = has_slot-zero (set_of n p) s (bit_at-set_of n p s lt ∙ ap (λ (t : Bool). cond t 1 0) e)

not_crossed : (t : Bool) → ((t && not t) || (t && not t)) ≡ false
not_crossed true = refl
not_crossed false = refl

relabelled-at : (labels : List ℕ) (l r s : ℕ) → s < length labels → get_or (map (renamed (get_or labels l 0) (get_or labels r 0)) labels) s 0 ≡ renamed (get_or labels l 0) (get_or labels r 0) (get_or labels s 0)
relabelled-at labels l r s lt = get_or-map (renamed (get_or labels l 0) (get_or labels r 0)) labels s 0 0 lt

-- what has one label keeps one label
stay_equal : (edges : List Edge) (labels : List ℕ) (s t : ℕ) → s < length labels → t < length labels → get_or labels s 0 ≡ get_or labels t 0
    → get_or (fold relabelled labels (map plain_edge edges)) s 0 ≡ get_or (fold relabelled labels (map plain_edge edges)) t 0
stay_equal [] labels s t ls lt e = e
stay_equal (x ∷ xs) labels s t ls lt e =
    let len = length-map labels (renamed (get_or labels x.left 0) (get_or labels x.right 0)) in
    stay_equal xs (relabelled labels (plain_edge x)) s t (rw len ls) (rw len lt)
    (relabelled-at labels x.left x.right s ls ∙ ap (renamed (get_or labels x.left 0) (get_or labels x.right 0)) e ∙ sym (relabelled-at labels x.left x.right t lt))

renamed-ends : (f g : ℕ) → renamed f g f ≡ renamed f g g
renamed-ends f g = rw eqb_same (by (eqb g f))
  where
    eqb_same : eqb f f ≡ true
    eqb_same = grind (arith, nat_tests)

    by : (t : Bool) → g ≡ cond t g g
    by true = refl
    by false = refl

-- the ends of an edge have one label
ends_equal : (edges : List Edge) (n : ℕ) (labels : List ℕ) → length labels ≡ n → All (λ (edge : Edge). edge.left < n) edges → All (λ (edge : Edge). edge.right < n) edges
    → All (λ (edge : Edge). get_or (fold relabelled labels (map plain_edge edges)) edge.left 0 ≡ get_or (fold relabelled labels (map plain_edge edges)) edge.right 0) edges
ends_equal [] n labels len lefts rights = All-nil (λ (edge : Edge). get_or labels edge.left 0 ≡ get_or labels edge.right 0)
ends_equal (x ∷ xs) n labels len lefts rights =
    let next = relabelled labels (plain_edge x) in
    let len_next = length-map labels (renamed (get_or labels x.left 0) (get_or labels x.right 0)) in
    let left = All-head (λ (edge : Edge). edge.left < n) x xs lefts in
    let right = All-head (λ (edge : Edge). edge.right < n) x xs rights in
    let in_left : x.left < length labels = rw len left in
    let in_right : x.right < length labels = rw len right in
    let met = relabelled-at labels x.left x.right x.left in_left ∙ renamed-ends (get_or labels x.left 0) (get_or labels x.right 0) ∙ sym (relabelled-at labels x.left x.right x.right in_right) in
    All-cons (λ (edge : Edge). get_or (fold relabelled next (map plain_edge xs)) edge.left 0 ≡ get_or (fold relabelled next (map plain_edge xs)) edge.right 0) x xs
    (stay_equal xs next x.left x.right (rw len_next in_left) (rw len_next in_right) met)
    (ends_equal xs n next (len_next ∙ len) (All-tail (λ (edge : Edge). edge.left < n) x xs lefts) (All-tail (λ (edge : Edge). edge.right < n) x xs rights))

-- edges with ends of one label cross no cut by labels
none_crosses : (n : ℕ) (p : ℕ → Bool) (edges : List Edge) → All (λ (edge : Edge). edge.left < n) edges → All (λ (edge : Edge). edge.right < n) edges → All (λ (edge : Edge). p edge.left ≡ p edge.right) edges
    → list_any (is_crossing (set_of n p) (set_of n (λ s. not (p s)))) (map ends edges) ≡ false
none_crosses n p [] lefts rights same = refl
none_crosses n p (x ∷ xs) lefts rights same =
    let left = All-head (λ (edge : Edge). edge.left < n) x xs lefts in
    let right = All-head (λ (edge : Edge). edge.right < n) x xs rights in
    let one = All-head (λ (edge : Edge). p edge.left ≡ p edge.right) x xs same in
    let here : is_crossing (set_of n p) (set_of n (λ s. not (p s))) (ends x) ≡ false =
    rw (has_slot-set_of n p x.left left, has_slot-set_of n (λ s. not (p s)) x.right right, has_slot-set_of n p x.right right, has_slot-set_of n (λ s. not (p s)) x.left left, one) (not_crossed (p x.right)) in
    rw here (none_crosses n p xs (All-tail (λ (edge : Edge). edge.left < n) x xs lefts) (All-tail (λ (edge : Edge). edge.right < n) x xs rights) (All-tail (λ (edge : Edge). p edge.left ≡ p edge.right) x xs same))

-- a test that fails on a list fails at a place
fails_at : (first : ℕ) (labels : List ℕ) → list_all (λ x. eqb x first) labels ≡ false → (k : ℕ) × (k < length labels) × (eqb (get_or labels k 0) first ≡ false)
fails_at first [] e = absurd (true≢false e)
fails_at first (x ∷ xs) e = by (fails_at first xs) (eqb x first) refl e
  where
    by : (list_all (λ y. eqb y first) xs ≡ false → (k : ℕ) × (k < length xs) × (eqb (get_or xs k 0) first ≡ false)) → (t : Bool) → eqb x first ≡ t → (t && list_all (λ y. eqb y first) xs) ≡ false
        → (k : ℕ) × (k < length (x ∷ xs)) × (eqb (get_or (x ∷ xs) k 0) first ≡ false)
    by rest true h f = let deep = rest f in (suc deep.0, omega arith, deep.2)
    by rest false h f = (0, omega arith, h)

-- where not all slots hang together, the edges don't connect them
pub not_connected : (n : ℕ) (edges : List Edge) → 1 ≤ n → All (λ (edge : Edge). edge.left < n) edges → All (λ (edge : Edge). edge.right < n) edges
    → have_one_label n (map plain_edge edges) ≡ false → IsConnected n (map ends edges) → ⊥
unfolding have_one_label labels_of
not_connected n edges some lefts rights apart all =
    let own = length-range_with_len 0 n in
    let labels = fold relabelled (range_with_len 0 n) (map plain_edge edges) in
    let len = labels-length edges (range_with_len 0 n) ∙ own in
    let p : ℕ → Bool = λ s. eqb (get_or labels s 0) (get_or labels 0 0) in
    let far = fails_at (get_or labels 0 0) labels apart in
    let far_in : far.0 < n = rw len at far.1 in
    let same = All-weaker (λ (edge : Edge). get_or labels edge.left 0 ≡ get_or labels edge.right 0) (λ (edge : Edge). p edge.left ≡ p edge.right)
    (λ edge e. ap (λ (x : ℕ). eqb x (get_or labels 0 0)) e) edges (ends_equal edges n (range_with_len 0 n) own lefts rights) in
    let a = set_of n p in
    let b = set_of n (λ s. not (p s)) in
    let first : p 0 ≡ true = eqb-same (get_or labels 0 0) in
    let in_a = has_some a 0 (bit_at-set_of n p 0 (omega arith) ∙ ap (λ (t : Bool). cond t 1 0) first) in
    let in_b = has_some b far.0 (bit_at-set_of n (λ s. not (p s)) far.0 far_in ∙ ap (λ (t : Bool). cond (not t) 1 0) far.2) in
    true≢false (sym (all a b in_a in_b (whole-set_of n p) (apart-set_of n p)) ∙ none_crosses n p edges lefts rights same)
  where
    eqb-same : (x : ℕ) → eqb x x ≡ true
    eqb-same x = grind (arith, nat_tests)

    labels-length : (es : List Edge) (ls : List ℕ) → length (fold relabelled ls (map plain_edge es)) ≡ length ls
    labels-length [] ls = refl
    labels-length (x ∷ xs) ls = labels-length xs (relabelled ls (plain_edge x)) ∙ length-map ls (renamed (get_or ls x.left 0) (get_or ls x.right 0))
