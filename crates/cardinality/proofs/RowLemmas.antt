-- The rows of a set of slots, by those of the set without its highest slot.
use Rattle.std.proofs.Common.{◌≡◌, ℕ, zero, suc, ◌+◌, ◌-◌, ◌*◌, ◌^◌, ◌<◌, ◌≤◌, List, [], ◌∷◌, length, map, refl, sym, ◌∙◌, ap, arith, inl, inr, bit_and}
use Rattle.std.specs.Prelude.{Bool, true, false, ◌&&◌, nat_lt, filter, fold}
use Rattle.std.specs.Int.{bit_at}
use Rattle.std.proofs.lemmas.Bool.{cases_lt}
use Rattle.std.proofs.lemmas.Bool.Decides.{nat_tests}
use Rattle.std.proofs.Math.Nat.{pow-suc}
use Rattle.std.proofs.lemmas.Nat.{pow_pos}
use Rattle.std.proofs.lemmas.Nat.Bits.{and_pow, bit_at_above, bit_at_cat_low, bit_at_cat_high}
use Rattle.adv_base.specs.declared.catalogue.Catalogue.{Catalogue}
use Rattle.adv_base.specs.declared.workload.block.Block.{Block}
use Rattle.adv_base.specs.declared.workload.parts.Edge.{Edge}
use Rattle.adv_base.specs.Parts.{edge_part}
use Rattle.adv_base.specs.Rows.{rows_below, set_rows, filtered_rows, edges_back, ties_back}
use Rattle.adv_base.specs.Sets.{has_slot}
use Rattle.adv_base.specs.Sums.{times_part, capped}

pub pow-double : (h : ℕ) → 2 ^ suc h ≡ 2 ^ h + 2 ^ h
pow-double h = omega (arith, pow-suc 2 h)

-- a set of slots below h has none from h on
pub has_slot-above : (set h s : ℕ) → set < 2 ^ h → h ≤ s → has_slot set s ≡ false
has_slot-above set h s below past =
    let zero_times : 0 * 2 ^ s ≡ 0 = omega arith in
    let none : bit_and set (2 ^ s) ≡ 0 = and_pow set s ∙ ap (λ n. n * 2 ^ s) (bit_at_above set h s below past) ∙ zero_times in
    rw none refl

-- a slot that is added changes nothing below it
pub has_slot-below : (rest h s : ℕ) → s < h → has_slot (2 ^ h + rest) s ≡ has_slot rest s
has_slot-below rest h s below =
    let one : 1 * 2 ^ h + rest ≡ 2 ^ h + rest = omega arith in
    let bit : bit_at (2 ^ h + rest) s ≡ bit_at rest s = ap (λ n. bit_at n s) (sym one) ∙ bit_at_cat_low 1 h rest s below in
    let same : bit_and (2 ^ h + rest) (2 ^ s) ≡ bit_and rest (2 ^ s) = and_pow (2 ^ h + rest) s ∙ ap (λ n. n * 2 ^ s) bit ∙ sym (and_pow rest s) in
    rw same refl

-- a slot that is added is there
pub has_slot-added : (rest h : ℕ) → rest < 2 ^ h → has_slot (2 ^ h + rest) h ≡ true
has_slot-added rest h below =
    let one : 1 * 2 ^ h + rest ≡ 2 ^ h + rest = omega arith in
    let lowest : h - h ≡ 0 = omega arith in
    let bit : bit_at (2 ^ h + rest) h ≡ 1 = ap (λ n. bit_at n h) (sym one) ∙ bit_at_cat_high 1 h rest h below (omega arith) ∙ ap (bit_at 1) lowest in
    let one_times : 1 * 2 ^ h ≡ 2 ^ h = omega arith in
    let there : bit_and (2 ^ h + rest) (2 ^ h) ≡ 2 ^ h = and_pow (2 ^ h + rest) h ∙ ap (λ n. n * 2 ^ h) bit ∙ one_times in
    let some : 0 < 2 ^ h = pow_pos h in
    rw there (grind (arith, nat_tests))

-- tests that agree keep the same items
pub filter-same : {A : Type 0} (p q : A → Bool) → ((x : A) → p x ≡ q x) → (xs : List A) → filter p xs ≡ filter q xs
filter-same p q same [] = refl
filter-same p q same (x ∷ xs) = rw (same x, filter-same p q same xs) refl

-- sets that agree below h have the same slots below s
guarded-same : (a b h s : ℕ) → ((t : ℕ) → t < h → has_slot a t ≡ has_slot b t) → s ≤ h → (t : ℕ) → (nat_lt t s && has_slot a t) ≡ (nat_lt t s && has_slot b t)
guarded-same a b h s same within t =
    elim (cases_lt t s) [
      | inl below ↦ rw (same t (omega arith)) refl
      | inr past ↦ let no : nat_lt t s ≡ false = grind (arith, nat_tests) in rw no refl
    ]

-- sets that agree below h are tied back to the same edges there
pub ties_back-same : (a b h s : ℕ) → ((t : ℕ) → t < h → has_slot a t ≡ has_slot b t) → s ≤ h → (edge : Edge) → ties_back a s edge ≡ ties_back b s edge
ties_back-same a b h s same within edge =
    rw (guarded-same a b h s same within edge.right, guarded-same a b h s same within edge.left) refl

pub edges_back-same : (block : Block) (a b h s : ℕ) → ((t : ℕ) → t < h → has_slot a t ≡ has_slot b t) → s ≤ h → edges_back block a s ≡ edges_back block b s
edges_back-same block a b h s same within = filter-same (ties_back a s) (ties_back b s) (ties_back-same a b h s same within) block.edges

pub rows_below-none : (cat : Catalogue) (block : Block) (set h : ℕ) → has_slot set h ≡ false → rows_below cat block set (suc h) ≡ rows_below cat block set h
unfolding rows_below
rows_below-none cat block set h none = rw none refl

pub rows_below-one : (cat : Catalogue) (block : Block) (set h : ℕ) → has_slot set h ≡ true →
    rows_below cat block set (suc h) ≡ fold times_part (capped (rows_below cat block set h * filtered_rows cat block h)) (map (edge_part cat block) (edges_back block set h))
unfolding rows_below
rows_below-one cat block set h one = rw one refl

-- nothing is walked past the slots of the set
pub rows_below-past : (cat : Catalogue) (block : Block) (set h m : ℕ) → set < 2 ^ h → rows_below cat block set (m + h) ≡ rows_below cat block set h
rows_below-past cat block set h zero below = ap (rows_below cat block set) (omega arith)
rows_below-past cat block set h (suc m) below =
    let at : suc m + h ≡ suc (m + h) = omega arith in
    ap (rows_below cat block set) at
    ∙ rows_below-none cat block set (m + h) (has_slot-above set h (m + h) below (omega arith))
    ∙ rows_below-past cat block set h m below

-- sets that agree below h have the same rows there
pub rows_below-same : (cat : Catalogue) (block : Block) (a b h : ℕ) → ((t : ℕ) → t < h → has_slot a t ≡ has_slot b t) → rows_below cat block a h ≡ rows_below cat block b h
unfolding rows_below
rows_below-same cat block a b zero same = refl
rows_below-same cat block a b (suc h) same =
    let below : rows_below cat block a h ≡ rows_below cat block b h = rows_below-same cat block a b h (λ t under. same t (omega arith)) in
    let edges : edges_back block a h ≡ edges_back block b h = edges_back-same block a b (suc h) h same (omega arith) in
    rw (same h (omega arith), below, edges) refl

-- the empty set has one row
pub set_rows-empty : (cat : Catalogue) (block : Block) → set_rows cat block 0 ≡ 1
unfolding set_rows rows_below
set_rows-empty cat block =
    let n : ℕ = length block.slots in
    let all : n ≡ n + 0 = omega arith in
    ap (rows_below cat block 0) all ∙ rows_below-past cat block 0 0 n (omega arith)

-- a set below 2 ^ h with slot h added
pub set_rows-added : (cat : Catalogue) (block : Block) (rest h : ℕ) → rest < 2 ^ h → h < length block.slots →
    set_rows cat block (2 ^ h + rest) ≡ fold times_part (capped (set_rows cat block rest * filtered_rows cat block h)) (map (edge_part cat block) (edges_back block rest h))
unfolding set_rows
set_rows-added cat block rest h below there =
    let n : ℕ = length block.slots in
    let over : n ≡ (n - suc h) + suc h = omega arith in
    let over' : n ≡ (n - h) + h = omega arith in
    let twice : 2 ^ suc h ≡ 2 ^ h + 2 ^ h = pow-double h in
    let whole : 2 ^ h + rest < 2 ^ suc h = omega arith in
    let upper : rows_below cat block (2 ^ h + rest) n ≡ rows_below cat block (2 ^ h + rest) (suc h) =
    ap (rows_below cat block (2 ^ h + rest)) over ∙ rows_below-past cat block (2 ^ h + rest) (suc h) (n - suc h) whole in
    let lower : rows_below cat block rest n ≡ rows_below cat block rest h =
    ap (rows_below cat block rest) over' ∙ rows_below-past cat block rest h (n - h) below in
    let same = has_slot-below rest h in
    let agree : rows_below cat block (2 ^ h + rest) h ≡ rows_below cat block rest h = rows_below-same cat block (2 ^ h + rest) rest h same in
    let edges : edges_back block (2 ^ h + rest) h ≡ edges_back block rest h = edges_back-same block (2 ^ h + rest) rest h h same (omega arith) in
    upper ∙ rows_below-one cat block (2 ^ h + rest) h (has_slot-added rest h below)
    ∙ rw (agree, edges, lower) refl
