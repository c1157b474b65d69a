-- A word is a number where it is the number's decimal digits.
use Rattle.std.proofs.Common.{◌≡◌, ◌∙◌, ◌↔◌, ℕ, ◌<◌, ◌^◌, ◌&&◌, Bool, true, false, cond, nat_le, List, Option, Some, None, refl, sym, ap, arith}
use Rattle.std.specs.Prelude.{decimal}
use Rattle.std.specs.Str.{bytes_eq}
use Rattle.std.specs.Str.Parse.{digits_value}
use Rattle.std.proofs.lemmas.Bool.{leb-true, le-leb, and_parts, and_from}
use Rattle.std.proofs.lemmas.Fmt.{decimal_is_IsNumeral}
use Rattle.std.proofs.lemmas.Slice.Eq.{bytes_eq-Decides}
use Rattle.adv_base.specs.Numbers.{IsNumber}
use Rattle.command_line.specs.Numbers.{number_within}

picked : (b : Bool) (v n : ℕ) → cond b (Some v) None ≡ Some n → (b ≡ true) × (v ≡ n)
picked true v n e = (refl, cc)
picked false v n e = absurd (let h : None ≡ Some n = e in cc)

-- what is found is a number
pub number_is : (least most : ℕ) (word : List ℕ) (n : ℕ) → number_within least most word ≡ Some n → IsNumber least most word n
unfolding number_within
number_is least most word n e =
    let v = digits_value 10 word in
    let found = picked (bytes_eq word (decimal v) && (nat_le least v && nat_le v most)) v n e in
    let tests = and_parts (bytes_eq word (decimal v)) (nat_le least v && nat_le v most) found.0 in
    let range = and_parts (nat_le least v) (nat_le v most) tests.1 in
    record {
      digits = (bytes_eq-Decides word (decimal v)).0 tests.0 ∙ ap decimal found.1;
      low = omega (arith, leb-true least v range.0, found.1);
      high = omega (arith, leb-true v most range.1, found.1);
    }

-- each number is found
pub number_found : (least most : ℕ) (word : List ℕ) (n : ℕ) → most < 2 ^ 64 → IsNumber least most word n → number_within least most word ≡ Some n
unfolding number_within
number_found least most word n small is =
    let v = digits_value 10 word in
    let fits : n < 2 ^ 64 = omega (arith, is.high, small) in
    let same : v ≡ n = ap (digits_value 10) is.digits ∙ (decimal_is_IsNumeral n fits).1 in
    let spelled : bytes_eq word (decimal v) ≡ true = (bytes_eq-Decides word (decimal v)).1 (is.digits ∙ ap decimal (sym same)) in
    let low : nat_le least v ≡ true = le-leb least v (omega (arith, is.low, same)) in
    let high : nat_le v most ≡ true = le-leb v most (omega (arith, is.high, same)) in
    let all = and_from (bytes_eq word (decimal v)) (nat_le least v && nat_le v most) spelled (and_from (nat_le least v) (nat_le v most) low high) in
    ap (λ (b : Bool). cond b (Some v) None) all ∙ ap Some same

none_found : (o : Option ℕ) → ((n : ℕ) → o ≡ Some n → None ≡ Some n) → None ≡ o
none_found None h = refl
none_found (Some m) h = h m refl

-- a reader that finds exactly the numbers
pub number_told : (least most : ℕ) (word : List ℕ) (r : Option ℕ) → most < 2 ^ 64 → ((n : ℕ) → (r ≡ Some n) ↔ IsNumber least most word n) → r ≡ number_within least most word
number_told least most word (Some n) small exact = sym (number_found least most word n small ((exact n).0 refl))
number_told least most word None small exact = none_found (number_within least most word) (λ n e. (exact n).1 (number_is least most word n e))
