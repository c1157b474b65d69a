-- The order of an index keeps the limits of an offer's order.
use Rattle.std.proofs.Common.{◌≡◌, ◌≢◌, ℕ, ◌<◌, List, length, get_or, map, refl, sym, ◌∙◌, arith}
use Rattle.std.specs.Prelude.{true, false, ◌==◌, not, filter, All, AllPairs}
use Rattle.std.proofs.lemmas.Bool.Decides.{nat_tests}
use Rattle.std.proofs.lemmas.List.{get_or-map, get_or_default, length-map}
use Rattle.std.proofs.lemmas.List.Elements.{All-map}
use Rattle.std.proofs.lemmas.List.Kept.{AllPairs-filter}
use Rattle.adv_base.specs.declared.workload.block.Block.{Block}
use Rattle.adv_base.specs.declared.workload.parts.Item.TheVariants.{Up}
use Rattle.adv_base.specs.Access.{index_order}
use Rattle.adv_base.specs.Items.{AreApart, is_same_column, is_up_of}
use Rattle.adv_base.specs.Limits.Numbers.{KeyLimits}
use Rattle.adv_base.specs.Predicates.{is_bound}

-- no key stands twice
keys_apart : (keys : List ℕ) → KeyLimits keys → AllPairs (λ a b. a ≢ b) keys
keys_apart keys limits = λ i j d before within.
    let earlier : i < length keys = omega arith in
    let i_is : get_or keys i d ≡ get_or keys i 0 = get_or_default keys i d 0 earlier in
    let j_is : get_or keys j d ≡ get_or keys j 0 = get_or_default keys j d 0 within in
    λ same. limits.apart i j before within (sym i_is ∙ same ∙ j_is)

up_own : (s k : ℕ) → is_up_of s (Up s k) ≡ true
up_own s k = grind (arith, nat_tests)

other_column : (s a b : ℕ) → a ≢ b → is_same_column (Up s a) (Up s b) ≡ false
other_column s a b apart = let same : (s == s) ≡ true = grind (arith, nat_tests) in
    let other : (a == b) ≡ false = grind (arith, nat_tests) in
    rw (same, other) refl

ups_apart : (s : ℕ) (keys : List ℕ) → AllPairs (λ a b. a ≢ b) keys → AreApart (map (Up s) keys)
ups_apart s keys apart = λ i j d before within.
    let long : length (map (Up s) keys) ≡ length keys = length-map keys (Up s) in
    let later : j < length keys = omega (arith, within, long) in
    let earlier : i < length keys = omega (arith, later, before) in
    rw (get_or-map (Up s) keys i 0 d earlier, get_or-map (Up s) keys j 0 d later)
    (other_column s (get_or keys i 0) (get_or keys j 0) (apart i j 0 before later))

-- upward items of the slot
pub index_order-own : (block : Block) (s : ℕ) (keys : List ℕ) → All (λ item. is_up_of s item ≡ true) (index_order block s keys)
unfolding index_order
index_order-own block s keys =
    All-map (λ item. is_up_of s item ≡ true) (Up s) (filter (λ key. not (is_bound block.preds s key)) keys) (λ k d within. up_own s (get_or (filter (λ key. not (is_bound block.preds s key)) keys) k d))

-- none of them twice
pub index_order-apart : (block : Block) (s : ℕ) (keys : List ℕ) → KeyLimits keys → AreApart (index_order block s keys)
unfolding index_order
index_order-apart block s keys limits =
    ups_apart s (filter (λ key. not (is_bound block.preds s key)) keys)
    (AllPairs-filter (λ a b. a ≢ b) (λ key. not (is_bound block.preds s key)) keys (keys_apart keys limits))
