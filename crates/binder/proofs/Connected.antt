-- Where all slots have one label behind the edges, the edges connect the slots.
use Rattle.std.proofs.Common.{◌≡◌, ℕ, zero, suc, ◌+◌, ◌^◌, ◌<◌, Bool, true, false, not, eqb, ◌&&◌, ◌||◌, cond, List, [], ◌∷◌, length, get_or, map, fold, refl, sym, ap, ◌∙◌, arith, inl, inr, ◌⊎◌, true≢false}
use Rattle.std.specs.Prelude.{bit_and, All}
use Rattle.std.specs.List.{list_any, list_all, range_with_len}
use Rattle.std.specs.Int.{bit_at}
use Rattle.std.proofs.lemmas.Bool.{eqb-true, or_parts, and_parts}
use Rattle.std.proofs.lemmas.Nat.{pow_pos}
use Rattle.std.proofs.lemmas.Nat.Bits.{and_pow}
use Rattle.std.proofs.lemmas.List.{get_or-map, length-map}
use Rattle.std.proofs.lemmas.List.FromFn.{length-range_with_len, get_or-range_with_len}
use Rattle.std.proofs.lemmas.List.Elements.{All-head, All-tail}
use Rattle.adv_base.specs.declared.workload.parts.Edge.{Edge}
use Rattle.adv_base.specs.Limits.Blocks.{ends}
use Rattle.adv_base.specs.Sets.{all_slots, has_slot, is_crossing, IsConnected}
use Rattle.binder.specs.inner.Labels.{renamed, relabelled, labels_of, have_one_label}
use Rattle.binder.specs.Plain.{plain_edge}
use Rattle.binder.proofs.Cuts.{bits_opposite, some_bit}

is_positive : (n : ℕ) → 0 < n → not (eqb n 0) ≡ true
is_positive n some = by (eqb n 0) refl
  where
    by : (t : Bool) → eqb n 0 ≡ t → not t ≡ true
    by true e = let z = eqb-true n 0 e in absurd (omega arith)
    by false e = refl

pub has_slot-one : (a s : ℕ) → bit_at a s ≡ 1 → has_slot a s ≡ true
has_slot-one a s one =
    let v : bit_and a (2 ^ s) ≡ 2 ^ s = and_pow a s ∙ rw one (omega arith) in
    rw v (is_positive (2 ^ s) (pow_pos s))

pub has_slot-zero : (a s : ℕ) → bit_at a s ≡ 0 → has_slot a s ≡ false
has_slot-zero a s none =
    let v : bit_and a (2 ^ s) ≡ 0 = and_pow a s ∙ rw none (omega arith) in
    rw v refl

one_of_two : (x y : ℕ) → x + y ≡ 1 → ((x ≡ 1) × (y ≡ 0)) ⊎ ((x ≡ 0) × (y ≡ 1))
one_of_two zero y e = inr (refl, omega arith)
one_of_two (suc x) y e = inl (omega arith, omega arith)

-- of two sets that make a whole, a slot is in exactly one
pub opposite_sides : (n a b s : ℕ) → a + b ≡ all_slots n → s < n → has_slot b s ≡ not (has_slot a s)
opposite_sides n a b s whole lt =
    elim (one_of_two (bit_at a s) (bit_at b s) (bits_opposite n a b s whole lt)) [
      | inl here ↦ has_slot-zero b s here.1 ∙ sym (ap not (has_slot-one a s here.0))
      | inr there ↦ has_slot-one b s there.1 ∙ sym (ap not (has_slot-zero a s there.0))
    ]

-- an edge that doesn't cross has both ends on one side
same_side : (p q u v : Bool) → u ≡ not p → v ≡ not q → ((p && v) || (q && u)) ≡ false → p ≡ q
same_side true true u v eu ev e = refl
same_side true false u v eu ev e = absurd (true≢false (sym ev ∙ (or_parts v false e).0))
same_side false true u v eu ev e = absurd (true≢false (sym eu ∙ e))
same_side false false u v eu ev e = refl

-- slots of one label are on one side
record Respects (n : ℕ) (side : ℕ → Bool) (labels : List ℕ) : Type 0 where
  len : length labels ≡ n
  same : (s t : ℕ) → s < n → t < n → get_or labels s 0 ≡ get_or labels t 0 → side s ≡ side t

Respects-own : (n : ℕ) (side : ℕ → Bool) → Respects n side (range_with_len 0 n)
Respects-own n side = record {
  len = length-range_with_len 0 n;
  same = λ s t ls lt e.
      let at_s = get_or-range_with_len 0 n s 0 ls in
      let at_t = get_or-range_with_len 0 n t 0 lt in
      let st : s ≡ t = omega arith in
      ap side st;
}

merged : (x y f g : ℕ) → renamed f g x ≡ renamed f g y → (x ≡ y) ⊎ (((x ≡ f) × (g ≡ y)) ⊎ ((x ≡ g) × (y ≡ f)))
merged x y f g e = by (eqb x f) (eqb y f) refl refl e
  where
    by : (p q : Bool) → eqb x f ≡ p → eqb y f ≡ q → cond p g x ≡ cond q g y → (x ≡ y) ⊎ (((x ≡ f) × (g ≡ y)) ⊎ ((x ≡ g) × (y ≡ f)))
    by true true ex ey same = inl (eqb-true x f ex ∙ sym (eqb-true y f ey))
    by true false ex ey same = inr (inl (eqb-true x f ex, same))
    by false true ex ey same = inr (inr (same, eqb-true y f ey))
    by false false ex ey same = inl same

Respects-more : (n : ℕ) (side : ℕ → Bool) (labels : List ℕ) (l r : ℕ) → l < n → r < n → side l ≡ side r → Respects n side labels
    → Respects n side (map (renamed (get_or labels l 0) (get_or labels r 0)) labels)
Respects-more n side labels l r left right joined so_far = record {
  len = length-map labels (renamed (get_or labels l 0) (get_or labels r 0)) ∙ so_far.len;
  same = λ s t ls lt e.
      let f = renamed (get_or labels l 0) (get_or labels r 0) in
      let in_s : s < length labels = rw so_far.len ls in
      let in_t : t < length labels = rw so_far.len lt in
      let met = sym (get_or-map f labels s 0 0 in_s) ∙ e ∙ get_or-map f labels t 0 0 in_t in
      elim (merged (get_or labels s 0) (get_or labels t 0) (get_or labels l 0) (get_or labels r 0) met) [
        | inl one ↦ so_far.same s t ls lt one
        | inr more ↦ elim more [
          | inl two ↦ so_far.same s l ls left two.0 ∙ joined ∙ so_far.same r t right lt two.1
          | inr three ↦ so_far.same s r ls right three.0 ∙ sym joined ∙ so_far.same l t left lt (sym three.1)
        ]
      ];
}

-- edges of which none crosses leave slots of one label on one side
Respects-all : (n a b : ℕ) → a + b ≡ all_slots n → (edges : List Edge) → All (λ (edge : Edge). edge.left < n) edges → All (λ (edge : Edge). edge.right < n) edges
    → list_any (is_crossing a b) (map ends edges) ≡ false → (labels : List ℕ) → Respects n (has_slot a) labels → Respects n (has_slot a) (fold relabelled labels (map plain_edge edges))
Respects-all n a b whole [] lefts rights none labels so_far = so_far
Respects-all n a b whole (e ∷ es) lefts rights none labels so_far =
    let left = All-head (λ (edge : Edge). edge.left < n) e es lefts in
    let right = All-head (λ (edge : Edge). edge.right < n) e es rights in
    let parts = or_parts (is_crossing a b (ends e)) (list_any (is_crossing a b) (map ends es)) none in
    let side = same_side (has_slot a e.left) (has_slot a e.right) (has_slot b e.left) (has_slot b e.right) (opposite_sides n a b e.left whole left) (opposite_sides n a b e.right whole right) parts.0 in
    Respects-all n a b whole es (All-tail (λ (edge : Edge). edge.left < n) e es lefts) (All-tail (λ (edge : Edge). edge.right < n) e es rights) parts.1
    (relabelled labels (plain_edge e)) (Respects-more n (has_slot a) labels e.left e.right left right side so_far)

list_all-at : (first : ℕ) (labels : List ℕ) (k : ℕ) → list_all (λ x. eqb x first) labels ≡ true → k < length labels → get_or labels k 0 ≡ first
list_all-at first [] k all lt = absurd (omega arith)
list_all-at first (x ∷ xs) zero all lt = eqb-true x first (and_parts (eqb x first) (list_all (λ y. eqb y first) xs) all).0
list_all-at first (x ∷ xs) (suc k) all lt = list_all-at first xs k (and_parts (eqb x first) (list_all (λ y. eqb y first) xs) all).1 (omega arith)

-- slots of which all have one label can't be cut in two without crossing an edge
pub connected : (n : ℕ) (edges : List Edge) → All (λ (edge : Edge). edge.left < n) edges → All (λ (edge : Edge). edge.right < n) edges
    → have_one_label n (map plain_edge edges) ≡ true → IsConnected n (map ends edges)
unfolding have_one_label labels_of
connected n edges lefts rights joined a b some_a some_b whole apart = by (list_any (is_crossing a b) (map ends edges)) refl
  where
    by : (t : Bool) → list_any (is_crossing a b) (map ends edges) ≡ t → t ≡ true
    by true e = refl
    by false e =
        let kept = Respects-all n a b whole edges lefts rights e (range_with_len 0 n) (Respects-own n (has_slot a)) in
        let i = some_bit n a some_a (omega arith) in
        let j = some_bit n b some_b (omega arith) in
        let labels = fold relabelled (range_with_len 0 n) (map plain_edge edges) in
        let at_i = list_all-at (get_or labels 0 0) labels i.0 joined (rw kept.len i.1) in
        let at_j = list_all-at (get_or labels 0 0) labels j.0 joined (rw kept.len j.1) in
        let one_side = kept.same i.0 j.0 i.1 j.1 (at_i ∙ sym at_j) in
        let in_a = has_slot-one a i.0 i.2 in
        let in_b = has_slot-one b j.0 j.2 in
        let other = opposite_sides n a b j.0 whole j.1 in
        absurd (true≢false (sym in_b ∙ other ∙ ap not (sym one_side ∙ in_a)))
