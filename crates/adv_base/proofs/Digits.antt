-- Decimal digits, and the bytes that are some.
use Rattle.std.proofs.Common.{◌≡◌, ◌∙◌, ℕ, zero, suc, ◌<◌, ◌^◌, true, List, length, get_or, Ok, Err, sym, ap, subst, arith}
use Rattle.std.specs.Prelude.{slice_index, decimal, ◌≢◌}
use Rattle.std.specs.Str.{IsUtf8}
use Rattle.std.specs.Str.Parse.{IsNumeral, digits_value, ParsesUnsigned, without_leading_plus}
use Rattle.adv_base.specs.Numbers.{is_plain}
use Rattle.std.proofs.lemmas.Bool.Decides.{nat_tests}
use Rattle.std.proofs.lemmas.Fmt.{first_decimal, decimal_digit, IsAscii-decimal, decimal-digits_value, parse-decimal}
use Rattle.std.proofs.lemmas.Str.{IsUtf8-from_ascii}
use Rattle.std.proofs.lemmas.Str.Parse.{numerals_by_value, tells_digits, without_leading_plus_none}

pub plain-above : (text : List ℕ) → 48 < slice_index text 0 → is_plain text ≡ true
plain-above text h = grind (arith, nat_tests)

-- the digits of a number begin so
pub plain-decimal : (n : ℕ) → n < 2 ^ 64 → is_plain (decimal n) ≡ true
plain-decimal zero h = ap is_plain (decimal_digit 0 (omega arith))
plain-decimal (suc n) h = plain-above (decimal (suc n)) (first_decimal (suc n) (omega arith) h)

pub utf8-decimal : (text : List ℕ) (n : ℕ) → n < 2 ^ 64 → text ≡ decimal n → IsUtf8 text
utf8-decimal text n h e = subst IsUtf8 (sym e) (IsUtf8-from_ascii (decimal n) (IsAscii-decimal n h))

-- bytes that begin so begin with no plus, and with a zero only where it stands alone
pub plain-parts : (text : List ℕ) → is_plain text ≡ true → (get_or text 0 0 ≢ 43) × (get_or text 0 0 ≡ 48 → length text ≡ 1)
plain-parts text h = grind (arith, nat_tests)

-- the bytes that `parse` reads are the digits of what it reads
pub decimal-parsed : (text digits : List ℕ) (v : ℕ) → digits ≡ text → is_plain text ≡ true → IsNumeral 10 (without_leading_plus digits) × (digits_value 10 (without_leading_plus digits) < 2 ^ 64) →
    v ≡ digits_value 10 (without_leading_plus digits) → (v < 2 ^ 64) × (text ≡ decimal v)
decimal-parsed text digits v is plain read gives =
    let parts = plain-parts text plain in
    let same : without_leading_plus digits ≡ text = ap without_leading_plus is ∙ without_leading_plus_none text parts.0 in
    let numeral : IsNumeral 10 text = subst (IsNumeral 10) same read.0 in
    let value : digits_value 10 text ≡ v = ap (digits_value 10) (sym same) ∙ sym gives in
    let small : digits_value 10 text < 2 ^ 64 = subst (λ (t : List ℕ). digits_value 10 t < 2 ^ 64) same read.1 in
    (omega (arith, value, small), sym (decimal-digits_value (numerals_by_value _ tells_digits) text numeral.1 numeral.0 parts.1 small) ∙ ap decimal value)

-- and it reads each number's digits
pub decimal-unparsed : {E : Type 0} (text digits : List ℕ) (n : ℕ) (e : E) → digits ≡ text → n < 2 ^ 64 → text ≡ decimal n → ParsesUnsigned {E = E} 64 10 digits (Err e) → ⊥
decimal-unparsed text digits n e is small number read =
    let gives : Err e ≡ Ok n = parse-decimal 64 n digits (Err e) small small (is ∙ number) read in cc
