-- Parts of which one is taken away.
use Rattle.std.proofs.Common.{◌≡◌, ◌∙◌, inl, inr, ℕ, zero, suc, ◌<◌, ◌==◌, List, [], ◌∷◌, length, get_or, All, refl, sym, ap, subst, arith}
use Rattle.std.specs.List.{remove}
use Rattle.std.proofs.lemmas.Bool.{cases_Bool, eq-eqb, false≢true}
use Rattle.std.proofs.lemmas.Bool.Decides.{Decides-eqb}
use Rattle.std.proofs.lemmas.List.Elements.{All-cons, All-nil}
use Rattle.bip_model.specs.declared.part.Part.{Part}
use Rattle.retune.specs.inner.Renewing.{without_part}
use Rattle.retune.specs.inner.Weights.{RiseFrom}
use Rattle.retune.proofs.Without.{kept-part, gone-part}

abbrev pub IsOther : ℕ → Part → Type 0
IsOther gone part = part.statement ≡ gone → ⊥

-- those with other numbers stay
pub others-stay : (gone : ℕ) (parts : List Part) → All (IsOther gone) parts → parts ≡ without_part gone parts
others-stay gone [] all = refl
others-stay gone (part ∷ parts) all =
    ap (λ (ps : List Part). part ∷ ps) (others-stay gone parts (λ k d within. all (suc k) d (omega (arith, within)))) ∙ sym (kept-part gone part parts (all 0 part (omega arith)))

later-others : (gone least : ℕ) (parts : List Part) → RiseFrom least parts → gone < least → All (IsOther gone) parts
later-others gone least [] rise low = All-nil (IsOther gone)
later-others gone least (part ∷ parts) rise low =
    All-cons (IsOther gone) part parts (λ same. omega (arith, rise.0, low, same)) (later-others gone (suc part.statement) parts rise.1 (omega (arith, rise.0, low)))

-- the one with the number goes
pub one-goes : (gone least at : ℕ) (parts : List Part) → RiseFrom least parts → at < length parts → ((d : Part) → (get_or parts at d).statement ≡ gone) → remove parts at ≡ without_part gone parts
one-goes gone least at [] rise within own = absurd (omega (arith, within))
one-goes gone least zero (part ∷ parts) rise within own =
    let same : part.statement ≡ gone = own part in
    others-stay gone parts (later-others gone (suc part.statement) parts rise.1 (omega (arith, same))) ∙ sym (gone-part gone part parts same)
one-goes gone least (suc at) (part ∷ parts) rise within own =
    let inside : at < length parts = omega (arith, within) in
    ap (λ (ps : List Part). part ∷ ps) (one-goes gone (suc part.statement) at parts rise.1 inside own)
    ∙ sym (kept-part gone part parts (λ same. later-others gone (suc part.statement) parts rise.1 (omega (arith, same)) at part inside (own part)))

-- none of those that are left has the number
pub left-others : (gone : ℕ) (parts : List Part) → All (IsOther gone) (without_part gone parts)
left-others gone [] = All-nil (IsOther gone)
left-others gone (part ∷ parts) =
    elim (cases_Bool (part.statement == gone)) [
      | inl on ↦ subst (All (IsOther gone)) (sym (gone-part gone part parts ((Decides-eqb part.statement gone).0 on))) (left-others gone parts)
      | inr off ↦
          let other : IsOther gone part = λ same. false≢true (sym off ∙ eq-eqb part.statement gone same) in
          subst (All (IsOther gone)) (sym (kept-part gone part parts other)) (All-cons (IsOther gone) part (without_part gone parts) other (left-others gone parts))
    ]
