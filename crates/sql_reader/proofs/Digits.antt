-- The numbers that digits write.
use Rattle.std.proofs.Common.{◌≡◌, ℕ, ◌+◌, ◌-◌, ◌*◌, ◌<◌, ◌≤◌, Bool, true, false, ◌&&◌, List, length, get_or, take, drop, Option, Some, None, nat_le, refl, ap, sym, ◌∙◌, subst, arith, if◌then◌else◌}
use Rattle.std.specs.Char.{is_ascii_digit}
use Rattle.std.specs.Int.{IsInRange}
use Rattle.std.specs.List.{list_all, suffix_len}
use Rattle.std.specs.Str.Parse.{AllDigits, digits_value}
use Rattle.sql_reader.specs.Words.{is_good_weight}
use Rattle.std.proofs.lemmas.Bool.{and_parts, and_from, leb-true, le-leb, lt-leb}
use Rattle.std.proofs.lemmas.Int.Digits.{digits_value_more}
use Rattle.std.proofs.lemmas.List.{get_or-drop, length-drop}
use Rattle.std.proofs.lemmas.List.Sums.{suffix_len_is}
use Rattle.std.proofs.lemmas.Str.{digit_value_digit}
use Rattle.std.proofs.lemmas.Str.Parse.{IsDigitsTest, numerals_by_value, tells_by_index, digits_value_short, digits_value-take-le, digit_at}

digit_range : (c : ℕ) → is_ascii_digit c ≡ true → IsInRange 48 57 c
digit_range c e = let parts = and_parts (nat_le 48 c) (nat_le c 57) e in (leb-true 48 c parts.0, leb-true c 57 parts.1)

range_digit : (c : ℕ) → IsInRange 48 57 c → is_ascii_digit c ≡ true
range_digit c (low, high) = and_from (nat_le 48 c) (nat_le c 57) (le-leb 48 c low) (le-leb c 57 high)

tells_each_digit : IsDigitsTest (λ ds. list_all is_ascii_digit ds ≡ true)
tells_each_digit = record {
  empty = refl;
  parts = λ c cs e. let parts = and_parts (is_ascii_digit c) (list_all is_ascii_digit cs) e in (digit_range c parts.0, parts.1);
  more = λ c cs range all. and_from (is_ascii_digit c) (list_all is_ascii_digit cs) (range_digit c range) all;
}

pub each_digit : (ds : List ℕ) → list_all is_ascii_digit ds ≡ true → AllDigits 10 ds
each_digit ds e = (numerals_by_value _ tells_each_digit).to ds e

-- one digit more
pub one_more : (ds : List ℕ) (i : ℕ) → AllDigits 10 ds → i < length ds → digits_value 10 (take (i + 1) ds) ≡ 10 * digits_value 10 (take i ds) + (get_or ds i 0 - 48)
one_more ds i digits room = omega (arith, digits_value_more 10 ds i room, digit_value_digit (get_or ds i 0) (digit_at ds i digits room))

-- a number that is at most so large
abbrev pub up_to : ℕ → ℕ → Option ℕ
up_to most n = if nat_le n most then Some n else None

-- digits that begin with too large a number write one
pub too_large : (ds : List ℕ) (i most : ℕ) → most < digits_value 10 (take i ds) → up_to most (digits_value 10 ds) ≡ None
too_large ds i most h =
    let large : most < digits_value 10 ds = omega (arith, h, digits_value-take-le 10 ds i (omega arith)) in
    ap (λ (b : Bool). if b then Some (digits_value 10 ds) else None) (lt-leb (digits_value 10 ds) most large)

-- 18 digits write no larger one
pub eighteen : (ds : List ℕ) → AllDigits 10 ds → length ds ≤ 18 → None ≡ up_to 999999999999999999 (digits_value 10 ds) → ⊥
eighteen ds digits short none =
    let below = digits_value_short (numerals_by_value _ tells_by_index) ds 18 ((numerals_by_value _ tells_by_index).from ds digits) short in
    let some : up_to 999999999999999999 (digits_value 10 ds) ≡ Some (digits_value 10 ds) =
    ap (λ (b : Bool). if b then Some (digits_value 10 ds) else None) (le-leb (digits_value 10 ds) 999999999999999999 (omega (arith, below))) in
    cc

-- a number from 1 to 10^6 is a weight, and no other is

abbrev pub weight : ℕ → Option ℕ
weight n = if is_good_weight n then Some n else None

pub no_weight : (n : ℕ) → None ≡ up_to 1000000 n → weight n ≡ None
no_weight n e = by_most (nat_le n 1000000) refl e
  where
    no_and : (b : Bool) → (if b && false then Some n else None) ≡ None
    no_and true = refl
    no_and false = refl

    by_most : (b : Bool) → nat_le n 1000000 ≡ b → None ≡ (if b then Some n else None) → weight n ≡ None
    by_most true k e = absurd cc
    by_most false k e = ap (λ (b : Bool). if nat_le 1 n && b then Some n else None) k ∙ no_and (nat_le 1 n)

pub a_weight : (n m : ℕ) → Some m ≡ up_to 1000000 n → 1 ≤ m → weight n ≡ Some m
a_weight n m e some = by_most (nat_le n 1000000) refl e
  where
    by_most : (b : Bool) → nat_le n 1000000 ≡ b → Some m ≡ (if b then Some n else None) → weight n ≡ Some m
    by_most true k e =
        let same : m ≡ n = cc in
        ap (λ (b : Bool). if b && nat_le n 1000000 then Some n else None) (le-leb 1 n (omega (arith, same, some)))
        ∙ (ap (λ (b : Bool). if b then Some n else None) k ∙ sym e)
    by_most false k e = absurd cc

pub zero_weight : (n : ℕ) → Some 0 ≡ up_to 1000000 n → weight n ≡ None
zero_weight n e = by_most (nat_le n 1000000) refl e
  where
    by_most : (b : Bool) → nat_le n 1000000 ≡ b → Some 0 ≡ (if b then Some n else None) → weight n ≡ None
    by_most true k e = let zero_it : 0 ≡ n = cc in subst (λ (m : ℕ). weight m ≡ None) zero_it refl
    by_most false k e = absurd cc

-- from this place on each byte is a digit
abbrev pub DigitsFrom : ℕ → List ℕ → Type 0
DigitsFrom start bytes = (i : ℕ) → start ≤ i → i < length bytes → is_ascii_digit (get_or bytes i 0) ≡ true

pub digits_behind : (bytes : List ℕ) (start : ℕ) → DigitsFrom start bytes → AllDigits 10 (drop start bytes)
digits_behind bytes start each =
    (numerals_by_value _ tells_by_index).to (drop start bytes)
    (λ i room. digit_range (get_or (drop start bytes) i 0) (ap is_ascii_digit (get_or-drop start bytes i 0) ∙ each (start + i) (omega arith) (omega (arith, length-drop start bytes, room))))

-- the digits behind the last byte that is none
pub are_last : (bytes : List ℕ) (start : ℕ) → start ≤ length bytes → DigitsFrom start bytes → (0 < start → is_ascii_digit (get_or bytes (start - 1) 0) ≡ false) →
    drop start bytes ≡ drop (length bytes - suffix_len is_ascii_digit bytes) bytes
are_last bytes start within each none =
    let count = suffix_len_is is_ascii_digit bytes start 0 within each none in
    let same : start ≡ length bytes - suffix_len is_ascii_digit bytes = omega (arith, count, within) in
    ap (λ (n : ℕ). drop n bytes) same
