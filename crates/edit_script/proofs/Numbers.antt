-- Numbers before a space.
use Rattle.std.proofs.Common.{◌≡◌, ◌∙◌, ℕ, ◌+◌, ◌<◌, ◌^◌, Bool, true, false, ◌&&◌, cond, List, [], ◌∷◌, ◌++◌, length, take, drop, sym, ap, refl, arith}
use Rattle.std.specs.Prelude.{decimal}
use Rattle.std.specs.Char.{is_ascii_digit}
use Rattle.std.specs.List.{prefix_len}
use Rattle.std.specs.Str.{all_ascii_digits}
use Rattle.std.proofs.Math.Seq.{take-append_seam, drop-append_seam}
use Rattle.std.proofs.lemmas.Fmt.{digits_decimal, decimal_injective}
use Rattle.std.proofs.lemmas.List.{take-append-drop}
use Rattle.std.proofs.lemmas.Str.Parse.{numerals_by_value, tells_all_ascii_digits}
use Rattle.adv_base.specs.Numbers.{IsNumber}
use Rattle.edit_script.specs.inner.Fronts.{BeginsWithNumber}

both : (a b : Bool) → (a && b) ≡ true → (a ≡ true) × (b ≡ true)
both true b e = (refl, e)
both false b e = absurd cc

digits-len : (ds rest : List ℕ) → all_ascii_digits ds ≡ true → prefix_len is_ascii_digit (ds ++ 32 ∷ rest) ≡ length ds
digits-len [] rest all = refl
digits-len (c ∷ ds) rest all =
    let parts = both (is_ascii_digit c) (all_ascii_digits ds) all in
    let more = digits-len ds rest parts.1 in
    ap (λ (b : Bool). cond b (1 + prefix_len is_ascii_digit (ds ++ 32 ∷ rest)) 0) parts.0 ∙ omega (arith, more)

number-len : (n : ℕ) (rest : List ℕ) → n < 2 ^ 64 → prefix_len is_ascii_digit (decimal n ++ 32 ∷ rest) ≡ length (decimal n)
number-len n rest small = digits-len (decimal n) rest (digits_decimal (numerals_by_value (λ ds. all_ascii_digits ds ≡ true) tells_all_ascii_digits) n small)

-- where the digits at the front are a number before a space
pub number-parts : (text : List ℕ) (n : ℕ) (rest : List ℕ) (len : ℕ) → n < 2 ^ 64 → len ≡ prefix_len is_ascii_digit text → text ≡ decimal n ++ 32 ∷ rest →
    (take len text ≡ decimal n) × (drop len text ≡ 32 ∷ rest)
number-parts text n rest len small is e =
    let long : len ≡ length (decimal n) = is ∙ ap (prefix_len is_ascii_digit) e ∙ number-len n rest small in (
      ap (λ (k : ℕ). take k text) long ∙ ap (take (length (decimal n))) e ∙ take-append_seam (decimal n) (32 ∷ rest),
      ap (λ (k : ℕ). drop k text) long ∙ ap (drop (length (decimal n))) e ∙ drop-append_seam (decimal n) (32 ∷ rest),
    )

-- and where they are put together
pub number-front : (most : ℕ) (text : List ℕ) (n : ℕ) (rest : List ℕ) (len : ℕ) → IsNumber 1 most (take len text) n → drop len text ≡ 32 ∷ rest → BeginsWithNumber most text n rest
number-front most text n rest len h e =
    record {
      text = sym (take-append-drop len text) ∙ ap (λ (w : List ℕ). w ++ drop len text) h.digits ∙ ap (λ (w : List ℕ). decimal n ++ w) e;
      low = h.low;
      high = h.high;
    }

-- bytes begin with one number
pub one_number : (m n : ℕ) (rest more : List ℕ) → m < 2 ^ 64 → n < 2 ^ 64 → decimal m ++ 32 ∷ rest ≡ decimal n ++ 32 ∷ more → (m ≡ n) × (rest ≡ more)
one_number m n rest more small few e =
    let text : List ℕ = decimal m ++ 32 ∷ rest in
    let one = number-parts text m rest (prefix_len is_ascii_digit text) small refl refl in
    let other = number-parts text n more (prefix_len is_ascii_digit text) few refl e in
    (decimal_injective m n small few (sym one.0 ∙ other.0), ap (drop 1) (sym one.1 ∙ other.1))
