-- Texts that are added in two parts.
use Rattle.std.proofs.Common.{◌≡◌, ◌++◌, ◌∙◌, ℕ, List, Result, Ok, Err, OnOk, ap, append_assoc}

pub in_two_parts : {T E : Type 0} (r : Result T E) (new mid old front back : List ℕ) → mid ≡ old ++ front → OnOk r (new ≡ mid ++ back) → OnOk r (new ≡ old ++ (front ++ back))
in_two_parts (Ok x) new mid old front back e h = h ∙ (ap (λ (xs : List ℕ). xs ++ back) e ∙ append_assoc old front back)
in_two_parts (Err x) new mid old front back e h = tt
