-- Decimal digits of numbers of 128 bits, and the bytes that are some.
use Rattle.std.proofs.Common.{◌≡◌, ◌∙◌, ℕ, zero, suc, ◌+◌, ◌*◌, ◌/◌, ◌%◌, ◌<◌, ◌≤◌, ◌^◌, true, List, [], ◌∷◌, ◌++◌, length, get_or, Ok, Err, sym, ap, subst, arith, append_assoc, length-append}
use Rattle.std.specs.Prelude.{decimal}
use Rattle.std.specs.Char.{digit_value}
use Rattle.std.specs.Str.{IsUtf8}
use Rattle.std.specs.Str.Parse.{AllDigits, IsNumeral, digits_value, digits_value_after, ParsesUnsigned, without_leading_plus}
use Rattle.std.proofs.lemmas.Fmt.{decimal_digit, decimal_step_wide, decimal_is_IsNumeral_wide, decimal_by_steps_wide, IsAscii-decimal_wide, parse-decimal_wide}
use Rattle.std.proofs.lemmas.List.{append-nil}
use Rattle.std.proofs.Math.ListN.{get_or-append}
use Rattle.std.proofs.lemmas.Str.{IsUtf8-from_ascii, digit_value_digit}
use Rattle.std.proofs.lemmas.Str.Parse.{digit_from_value, without_leading_plus_none}
use Rattle.adv_base.specs.Numbers.{is_plain}
use Rattle.adv_base.proofs.Digits.{plain-parts, plain-above}

le_value_after : (n : ℕ) (ds : List ℕ) → n ≤ digits_value_after 10 n ds
le_value_after n [] = omega arith
le_value_after n (c ∷ cs) = omega (arith, le_value_after (n * 10 + digit_value c) cs)

value_after : (n : ℕ) (ds : List ℕ) → 0 < n → AllDigits 10 ds → digits_value_after 10 n ds < 2 ^ 128 → decimal (digits_value_after 10 n ds) ≡ decimal n ++ ds
value_after n [] some d small = sym (append-nil (decimal n))
value_after n (c ∷ cs) some d small =
    let m : ℕ = n * 10 + digit_value c in
    let k = digit_value_digit c (digit_from_value c d.0) in
    let front : m / 10 ≡ n = omega (arith, d.0) in
    let end : 48 + m % 10 ≡ c = omega (arith, d.0) in
    value_after m cs (omega arith) d.1 small
    ∙ ap (λ x. x ++ cs) (decimal_step_wide m (omega arith) (omega (arith, le_value_after m cs)) ∙ (λ i. decimal (front i) ++ (end i ∷ [])))
    ∙ append_assoc (decimal n) (c ∷ []) cs

value_digits : (ds : List ℕ) → AllDigits 10 ds → 0 < length ds → (get_or ds 0 0 ≡ 48 → length ds ≡ 1) → digits_value 10 ds < 2 ^ 128 → decimal (digits_value 10 ds) ≡ ds
value_digits [] d some lead small = absurd (omega arith)
value_digits (c ∷ []) d some lead small =
    let k = digit_value_digit c (digit_from_value c d.0) in
    decimal_digit (0 * 10 + digit_value c) (omega (arith, d.0)) ∙ ap (λ (x : ℕ). x ∷ []) (omega arith)
value_digits (c ∷ e ∷ cs) d some lead small =
    let k = digit_value_digit c (digit_from_value c d.0) in
    let no : c ≡ 48 → ⊥ = λ z. omega (arith, lead z) in
    let is : 48 + (0 * 10 + digit_value c) ≡ c = omega arith in
    value_after (0 * 10 + digit_value c) (e ∷ cs) (omega arith) d.1 small
    ∙ ap (λ x. x ++ (e ∷ cs)) (decimal_digit (0 * 10 + digit_value c) (omega (arith, d.0)) ∙ ap (λ (x : ℕ). x ∷ []) is)

-- a number's digits are its own
pub wide-injective : (m n : ℕ) → m < 2 ^ 128 → n < 2 ^ 128 → decimal m ≡ decimal n → m ≡ n
wide-injective m n p q e = sym (decimal_is_IsNumeral_wide m (omega arith)).1 ∙ ap (digits_value 10) e ∙ (decimal_is_IsNumeral_wide n (omega arith)).1

pub wide-digits : (n : ℕ) → n < 2 ^ 128 → AllDigits 10 (decimal n)
wide-digits n h = (decimal_is_IsNumeral_wide n (omega arith)).0.1

pub wide-some : (n : ℕ) → n < 2 ^ 128 → 0 < length (decimal n)
wide-some n h = (decimal_is_IsNumeral_wide n (omega arith)).0.0

pub utf8-wide : (text : List ℕ) (n : ℕ) → n < 2 ^ 128 → text ≡ decimal n → IsUtf8 text
utf8-wide text n h e = subst IsUtf8 (sym e) (IsUtf8-from_ascii (decimal n) (IsAscii-decimal_wide n (omega arith)))

-- the first digit of a number other than 0 is above 0
first-above : (n : ℕ) → n < 10 ^ 64 → 0 < n → 48 < get_or (decimal n) 0 0
first-above n h some = (decimal_by_steps_wide (λ m ds. (0 < length ds) × (0 < m → 48 < get_or ds 0 0)) (λ m l. (omega arith, λ a. omega arith))
    (λ m ds l h. (omega (arith, length-append ds ((48 + m % 10) ∷ [])), λ a. omega (arith, get_or-append ds ((48 + m % 10) ∷ []) 0 0 h.0, h.1 (omega arith)))) n h).1 some

-- the digits of a number begin so
pub plain-wide : (n : ℕ) → n < 2 ^ 128 → is_plain (decimal n) ≡ true
plain-wide zero h = ap is_plain (decimal_digit 0 (omega arith))
plain-wide (suc n) h = plain-above (decimal (suc n)) (first-above (suc n) (omega arith) (omega arith))

-- the bytes that `parse` reads are the digits of what it reads
pub wide-parsed : (bound : ℕ) (text digits : List ℕ) (v : ℕ) → bound ≤ 2 ^ 128 → digits ≡ text → is_plain text ≡ true → IsNumeral 10 (without_leading_plus digits) × (digits_value 10 (without_leading_plus digits) < bound) →
    v ≡ digits_value 10 (without_leading_plus digits) → (v < 2 ^ 128) × (text ≡ decimal v)
wide-parsed bound text digits v within is plain read gives =
    let parts = plain-parts text plain in
    let same : without_leading_plus digits ≡ text = ap without_leading_plus is ∙ without_leading_plus_none text parts.0 in
    let numeral : IsNumeral 10 text = subst (IsNumeral 10) same read.0 in
    let value : digits_value 10 text ≡ v = ap (digits_value 10) (sym same) ∙ sym gives in
    let less : digits_value 10 text < bound = subst (λ (t : List ℕ). digits_value 10 t < bound) same read.1 in
    let small : digits_value 10 text < 2 ^ 128 = omega (arith, less, within) in
    (omega (arith, value, small), sym (value_digits text numeral.1 numeral.0 parts.1 small) ∙ ap decimal value)

-- and it reads each number's digits
pub wide-unparsed : {E : Type 0} (text digits : List ℕ) (n : ℕ) (e : E) → digits ≡ text → n < 2 ^ 128 → text ≡ decimal n → ParsesUnsigned {E = E} 128 10 digits (Err e) → ⊥
wide-unparsed text digits n e is small number read =
    let gives : Err e ≡ Ok n = parse-decimal_wide 128 n digits (Err e) small (omega arith) (is ∙ number) read in cc
