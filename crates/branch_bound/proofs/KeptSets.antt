-- One set of multipliers more.
use Rattle.std.proofs.Common.{◌≡◌, ◌∙◌, ℕ, ◌+◌, ◌<◌, ◌≤◌, List, [], ◌∷◌, ◌++◌, length, take, refl, sym, subst, arith}
use Rattle.std.proofs.lemmas.List.{length-append}
use Rattle.std.proofs.lemmas.List.Elements.{All-push}
use Rattle.bip_model.specs.declared.fix.Fix.{Fix}
use Rattle.bip_model.specs.declared.multipliers.Multipliers.{Multipliers}
use Rattle.bip_model.specs.declared.programme.Programme.{Programme}
use Rattle.bip_model.specs.Views.{AreMultipliers}
use Rattle.branch_bound.specs.inner.Proposals.{AreRaised}

pub raised-kept : (programme : Programme) (budget : ℕ) (root : Fix) (most : ℕ) (before after : List Multipliers) (set : Multipliers) → AreRaised programme budget root most before → length before < most →
    AreMultipliers programme set → after ≡ before ++ set ∷ [] → AreRaised programme budget root most after
raised-kept programme budget root most before after set are few fits is =
    let long : length (before ++ set ∷ []) ≡ length before + 1 = length-append before (set ∷ []) in
    subst (λ (sets : List Multipliers). AreRaised programme budget root most sets) (sym is)
    (record {
      first = are.first;
      front = front before set are.proposed.some ∙ are.front;
      proposed =
          record {
            some = omega (arith, long, are.proposed.some);
            few = omega (arith, long, few);
            fit = All-push (AreMultipliers programme) before set are.proposed.fit fits;
          };
      tried = are.tried;
    })
  where
    front : (xs : List Multipliers) (x : Multipliers) → 1 ≤ length xs → take 1 (xs ++ x ∷ []) ≡ take 1 xs
    front [] x some = absurd (omega (arith, some))
    front (y ∷ xs) x some = refl
