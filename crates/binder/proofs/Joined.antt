-- That every cut is crossed, as joins are defined, is that the edges connect the slots; and labels find it.
use Rattle.std.proofs.Common.{◌≡◌, ℕ, zero, suc, ◌+◌, ◌-◌, ◌<◌, ◌≤◌, Bool, true, false, ◌&&◌, min, List, [], ◌∷◌, map, refl, sym, ap, subst, ◌∙◌, arith, inl, inr, ◌⊎◌, true≢false}
use Rattle.std.specs.Prelude.{bit_and, All}
use Rattle.std.specs.List.{list_any, list_all, range_with_len}
use Rattle.std.specs.Int.{bit_at}
use Rattle.std.proofs.Math.Nat.{min-zero, zero-min}
use Rattle.std.proofs.lemmas.Bool.{cases_lt}
use Rattle.std.proofs.lemmas.Nat.{pow_pos}
use Rattle.std.proofs.lemmas.Nat.Bits.{bit_at_and, bit_at_above, bit_at-zero, same_from_bits}
use Rattle.adv_base.specs.declared.workload.parts.Edge.{Edge}
use Rattle.adv_base.specs.Limits.Blocks.{ends}
use Rattle.adv_base.specs.Sets.{all_slots, is_crossing, IsConnected}
use Rattle.binder.specs.Joins.{joined_slots, is_left, is_joined}
use Rattle.binder.specs.inner.Labels.{have_one_label}
use Rattle.binder.specs.Plain.{plain_edge}
use Rattle.binder.proofs.Cuts.{bits_opposite}
use Rattle.binder.proofs.Connected.{connected}
use Rattle.binder.proofs.Uncrossed.{not_connected}

-- what passes on a range passes at each number of it
at : (p : ℕ → Bool) (first n a : ℕ) → list_all p (range_with_len first n) ≡ true → first ≤ a → a < first + n → p a ≡ true
at p first zero a all least most = absurd (omega arith)
at p first (suc n) a all least most = by (λ rest later. at p (first + 1) n a rest (omega arith) (omega arith)) (p first) refl all (cases_lt first a)
  where
    by : (list_all p (range_with_len (first + 1) n) ≡ true → first < a → p a ≡ true) → (t : Bool) → p first ≡ t → (t && list_all p (range_with_len (first + 1) n)) ≡ true
        → (first < a) ⊎ (a ≤ first) → p a ≡ true
    by next true e rest (inl later) = next rest later
    by next true e rest (inr here) = let same : first ≡ a = omega arith in subst (λ (k : ℕ). p k ≡ true) same e
    by next false e rest place = absurd (true≢false (sym rest))

-- what passes at each number of a range passes on it
everywhere : (p : ℕ → Bool) (first n : ℕ) → ((a : ℕ) → first ≤ a → a < first + n → p a ≡ true) → list_all p (range_with_len first n) ≡ true
everywhere p first zero each = refl
everywhere p first (suc n) each =
    let here = each first (omega arith) (omega arith) in
    rw here (everywhere p (first + 1) n (λ a least most. each a (omega arith) (omega arith)))

lower : (x y : ℕ) → x + y ≡ 1 → min x y ≡ 0
lower zero y e = zero-min y
lower (suc x) zero e = min-zero (suc x)
lower (suc x) (suc y) e = absurd (omega arith)

-- a set of slots shares none with the others
apart : (n a : ℕ) → a ≤ all_slots n → bit_and a (all_slots n - a) ≡ 0
apart n a le = same_from_bits (bit_and a (all_slots n - a)) 0 (λ i. bit_at_and a (all_slots n - a) i ∙ none i ∙ sym (bit_at-zero i))
  where
    none : (i : ℕ) → min (bit_at a i) (bit_at (all_slots n - a) i) ≡ 0
    none i = elim (cases_lt i n) [
      | inl lt ↦ lower (bit_at a i) (bit_at (all_slots n - a) i) (bits_opposite n a (all_slots n - a) i (omega arith) lt)
      | inr past ↦ let some = pow_pos n in rw (bit_at_above a n i (omega arith) past) (zero-min _)
    ]

same_ends : (edges : List Edge) → map joined_slots (map plain_edge edges) ≡ map ends edges
same_ends [] = refl
same_ends (e ∷ es) = ap (λ (xs : List (ℕ × ℕ)). ends e ∷ xs) (same_ends es)

-- edges that cross every cut connect the slots
pub joined-connect : (n : ℕ) (edges : List Edge) → is_joined n (map plain_edge edges) ≡ true → IsConnected n (map ends edges)
unfolding is_joined
joined-connect n edges joined a b some_a some_b whole disjoint =
    let crossed = at (is_left n (map plain_edge edges)) 1 (all_slots n - 1) a joined (omega arith) (omega arith) in
    let others : all_slots n - a ≡ b = omega arith in
    subst (λ (set : ℕ). list_any (is_crossing a set) (map ends edges) ≡ true) others
    (subst (λ (pairs : List (ℕ × ℕ)). list_any (is_crossing a (all_slots n - a)) pairs ≡ true) (same_ends edges) crossed)

-- and edges that connect the slots cross every cut
pub connect-joined : (n : ℕ) (edges : List Edge) → IsConnected n (map ends edges) → is_joined n (map plain_edge edges) ≡ true
unfolding is_joined
connect-joined n edges all =
    everywhere (is_left n (map plain_edge edges)) 1 (all_slots n - 1) (λ a least most.
    let crossed = all a (all_slots n - a) (omega arith) (omega arith) (omega arith) (apart n a (omega arith)) in
    subst (λ (pairs : List (ℕ × ℕ)). list_any (is_crossing a (all_slots n - a)) pairs ≡ true) (sym (same_ends edges)) crossed)

-- all slots have one label exactly where the edges cross every cut
pub labels-joined : (n : ℕ) (edges : List Edge) → 1 ≤ n → All (λ (edge : Edge). edge.left < n) edges → All (λ (edge : Edge). edge.right < n) edges
    → have_one_label n (map plain_edge edges) ≡ is_joined n (map plain_edge edges)
labels-joined n edges some lefts rights = by (have_one_label n (map plain_edge edges)) (is_joined n (map plain_edge edges)) refl refl
  where
    by : (s t : Bool) → have_one_label n (map plain_edge edges) ≡ s → is_joined n (map plain_edge edges) ≡ t → s ≡ t
    by true true one all = refl
    by false false one all = refl
    by true false one all = absurd (true≢false (sym (connect-joined n edges (connected n edges lefts rights one)) ∙ all))
    by false true one all = absurd (not_connected n edges some lefts rights one (joined-connect n edges all))
