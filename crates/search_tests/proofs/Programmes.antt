-- What programmes and answers that are made by hand keep.
use Rattle.std.proofs.Common.{◌≡◌, ◌∙◌, ℕ, ◌*◌, ◌+◌, ◌<◌, ◌≤◌, ◌==◌, not, List, [], ◌∷◌, All, length, get_or, replicate, sym, ap, subst, refl, arith}
use Rattle.std.specs.Prelude.{sum_by}
use Rattle.std.proofs.lemmas.List.{get_or-replicate, length-replicate}
use Rattle.std.proofs.lemmas.List.Elements.{All-from_recursion}
use Rattle.std.proofs.lemmas.List.Sums.{sum_by-cons, count_by-le-length}
use Rattle.adv_base.specs.declared.limits.TheConstants.{MOST_ENTRIES, MOST_INDEX_PAGES, MOST_STATEMENTS, MOST_UPKEEP, MOST_WEIGHT}
use Rattle.bip_model.specs.declared.multipliers.Multipliers.{Multipliers}
use Rattle.bip_model.specs.declared.part.Part.{Part}
use Rattle.bip_model.specs.declared.programme.Programme.{Programme}
use Rattle.bip_model.specs.Limits.Programmes.{ProgrammeLimits, GrantsWithin}
use Rattle.bip_model.specs.Views.{AreMultipliers}
use Rattle.certificate.specs.Answers.{rent_count}

all-zeros : (n most : ℕ) → All (λ (x : ℕ). x ≤ most) (replicate n 0)
all-zeros n most k d below =
    let within : k < n = omega (arith, length-replicate {A = ℕ} n 0) in
    omega (arith, get_or-replicate {A = ℕ} n k 0 d within)

-- grants keep their own limits, and so those of 256 candidates
all-within : (parts : List Part) → All (GrantsWithin 256) parts
all-within parts = λ k d below i e within j g inside.
    let limits = (get_or (get_or (get_or parts k d).slots i e).grants j g).limits in limits.most

pub programme-limits : (sizes upkeep : List ℕ) (parts : List Part) → sizes ≡ replicate 256 0 → upkeep ≡ replicate 256 0 → length parts ≤ 1000 → ProgrammeLimits sizes upkeep 0 parts
programme-limits sizes upkeep parts s u few =
    let size : length sizes ≡ 256 = ap length s ∙ length-replicate {A = ℕ} 256 0 in
    let each : length upkeep ≡ length sizes = ap length (u ∙ sym s) in
    record {
      sizes_most = omega arith;
      pages_most = subst (λ (xs : List ℕ). All (λ (x : ℕ). x ≤ MOST_INDEX_PAGES) xs) (sym s) (all-zeros 256 MOST_INDEX_PAGES);
      upkeep_each = each;
      upkeep_most = subst (λ (xs : List ℕ). All (λ (x : ℕ). x ≤ MOST_STATEMENTS * (MOST_WEIGHT * MOST_UPKEEP)) xs) (sym u) (all-zeros 256 (MOST_STATEMENTS * (MOST_WEIGHT * MOST_UPKEEP)));
      kept_most = omega arith;
      parts_most = few;
      candidates = subst (λ (n : ℕ). All (GrantsWithin n) parts) (sym size) (all-within parts);
    }

pub both-sets : (programme : Programme) (s t : Multipliers) → AreMultipliers programme s → AreMultipliers programme t → All (AreMultipliers programme) (s ∷ t ∷ [])
both-sets programme s t h g = All-from_recursion (AreMultipliers programme) (s ∷ t ∷ []) (h, (g, tt))

pub both-few : (s t : Multipliers) → length s.lambda ≡ 8 → length t.lambda ≡ 8 → sum_by (λ (set : Multipliers). rent_count set.lambda) (s ∷ t ∷ []) ≤ MOST_ENTRIES
both-few s t h g =
    let count : Multipliers → ℕ = λ (set : Multipliers). rent_count set.lambda in
    let one : sum_by count (s ∷ t ∷ []) ≡ count s + sum_by count (t ∷ []) = sum_by-cons count s (t ∷ []) in
    let two : sum_by count (t ∷ []) ≡ count t + sum_by count [] = sum_by-cons count t [] in
    let most : rent_count s.lambda ≤ 8 = omega (arith, count_by-le-length (λ (rent : ℕ). not (rent == 0)) s.lambda, h) in
    let last : rent_count t.lambda ≤ 8 = omega (arith, count_by-le-length (λ (rent : ℕ). not (rent == 0)) t.lambda, g) in
    let none : sum_by count [] ≡ 0 = refl in
    omega (arith, one, two, most, last, none)
