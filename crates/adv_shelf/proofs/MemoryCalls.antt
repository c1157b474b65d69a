-- When a call on a shelf or a sink in memory fails: where it is due to, or finds nothing.
use Rattle.std.proofs.Common.{◌≡◌, ℕ, ◌⊎◌, List, Option, None, Some, true, false, sym, inl, inr, refl}

-- a read that finds the file and isn't due to fail doesn't fail
pub read_of_file : (IsDueNow : Type 0) (found : Option (List ℕ)) (file : List ℕ) → (IsDueNow → false ≡ true) → Some file ≡ found
    → (false ≡ true → IsDueNow ⊎ (found ≡ None)) × (IsDueNow ⊎ (found ≡ None) → false ≡ true)
read_of_file IsDueNow found file quiet is = (λ e. cc, elim [ inl due ↦ quiet due | inr none ↦ cc ])

-- a read that finds no file fails
pub read_of_none : (IsDueNow : Type 0) (found : Option (List ℕ)) → None ≡ found
    → (true ≡ true → IsDueNow ⊎ (found ≡ None)) × (IsDueNow ⊎ (found ≡ None) → true ≡ true)
read_of_none IsDueNow found is = (λ _. inr (sym is), λ _. refl)
