-- The word behind a front of words.
use Rattle.std.proofs.Common.{◌≡◌, ◌∙◌, ℕ, suc, ◌-◌, ◌<◌, ◌^◌, List, [], ◌∷◌, ◌++◌, length, slice_get, Option, Some, None, Ok, Err, refl, ap, arith}
use Rattle.std.specs.Prelude.{decimal}
use Rattle.std.proofs.lemmas.List.{append_assoc}
use Rattle.adv_base.specs.Readings.{or_fault}
use Rattle.command_line.specs.declared.fault.WordFault.TheVariants.{BadNumber, Missing}
use Rattle.command_line.specs.Numbers.{number_within}
use Rattle.command_line.specs.Spellings.{IsWithin}
use Rattle.command_line.specs.CommandLine.{word_at, number_at}
use Rattle.command_line.proofs.NumberLaws.{number_is, number_found}
use Rattle.command_line.proofs.Results.{not_ok}

seam : {A : Type 0} (front : List A) (x : A) (back : List A) → slice_get (front ++ x ∷ back) (length front) ≡ Some x
seam [] x back = refl
seam (y ∷ front) x back = seam front x back

past : {A : Type 0} (front : List A) → slice_get (front ++ []) (length front) ≡ None
past [] = refl
past (y ∷ front) = past front

pub one_longer : {A : Type 0} (front : List A) (x : A) → length (front ++ x ∷ []) ≡ suc (length front)
one_longer [] x = refl
one_longer (y ∷ front) x = ap suc (one_longer front x)

pub moved : {A : Type 0} (front : List A) (x : A) (back : List A) → (front ++ x ∷ []) ++ back ≡ front ++ x ∷ back
moved front x back = append_assoc front (x ∷ []) back

pub word_is : (front : List (List ℕ)) (w : List ℕ) (back : List (List ℕ)) → word_at (front ++ w ∷ back) (suc (length front)) ≡ Ok w
unfolding word_at
word_is front w back =
    let place : suc (length front) - 1 ≡ length front = omega arith in
    rw (place, seam front w back)

pub no_word : (front : List (List ℕ)) → word_at (front ++ []) (suc (length front)) ≡ Err (Missing (suc (length front)))
unfolding word_at
no_word front =
    let place : suc (length front) - 1 ≡ length front = omega arith in
    rw (place, past front)

pub number_of_word : (front : List (List ℕ)) (w : List ℕ) (back : List (List ℕ)) (least most : ℕ) →
    number_at (front ++ w ∷ back) (suc (length front)) least most ≡ or_fault (BadNumber (suc (length front))) (number_within least most w)
unfolding number_at
number_of_word front w back least most = rw (word_is front w back)

pub no_number : (front : List (List ℕ)) (least most : ℕ) → number_at (front ++ []) (suc (length front)) least most ≡ Err (Missing (suc (length front)))
unfolding number_at
no_number front least most = rw (no_word front)

pub found : (least most n : ℕ) → most < 2 ^ 64 → IsWithin least most n → number_within least most (decimal n) ≡ Some n
found least most n small is = number_found least most (decimal n) n small (record { digits = refl; low = is.low; high = is.high })

pub number_here : (front : List (List ℕ)) (n : ℕ) (back : List (List ℕ)) (least most : ℕ) → most < 2 ^ 64 → IsWithin least most n →
    number_at (front ++ decimal n ∷ back) (suc (length front)) least most ≡ Ok n
number_here front n back least most small is =
    number_of_word front (decimal n) back least most ∙ ap (λ o. or_fault (BadNumber (suc (length front))) o) (found least most n small is)

told : (k : ℕ) (o : Option ℕ) (n : ℕ) → or_fault (BadNumber k) o ≡ Ok n → o ≡ Some n
told k None n e = absurd (not_ok (BadNumber k) n e)
told k (Some m) n e = let same : m ≡ n = cc in ap Some same

-- a word that is read as a number
pub within : (k least most : ℕ) (word : List ℕ) (n : ℕ) → or_fault (BadNumber k) (number_within least most word) ≡ Ok n → (word ≡ decimal n) × IsWithin least most n
within k least most word n e =
    let is = number_is least most word n (told k (number_within least most word) n e) in
    (is.digits, record { low = is.low; high = is.high })
