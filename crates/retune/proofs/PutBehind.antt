-- Parts put into their places from the last one on, where one statement has gone.
use Rattle.std.proofs.Common.{◌≡◌, ◌≢◌, ◌∙◌, ℕ, ◌<◌, List, [], ◌∷◌, ◌++◌, length, set, get_or, get_or-set_other, refl, sym, ap, subst, arith}
use Rattle.std.specs.Prelude.{Option}
use Rattle.bip_model.specs.declared.part.Part.{Part}
use Rattle.retune.specs.inner.Renewing.{ArePutBehind, IsPutAt}

pub behind-last : (gone : ℕ) (number : ℕ → ℕ) (front : List (Option Part)) (own : Option Part) (olds parts news : List Part) → length front < length olds → IsPutAt gone number own (length front) olds parts →
    ArePutBehind gone number front parts news → ArePutBehind gone number (front ++ own ∷ []) olds news
behind-last gone number [] own [] parts news few put are = absurd (omega (arith, few))
behind-last gone number [] own (old ∷ olds) parts news few put are =
    let last : news ≡ put.part ∷ olds = are ∙ put.others in
    subst (ArePutBehind gone number (own ∷ []) (old ∷ olds)) (sym last) (put.is old, refl)
behind-last gone number (first ∷ front) own [] parts news few put are = absurd (omega (arith, few))
behind-last gone number (first ∷ front) own (old ∷ olds) parts [] few put are =
    absurd (subst (λ (xs : List Part). ArePutBehind gone number (first ∷ front) xs []) put.others are)
behind-last gone number (first ∷ front) own (old ∷ olds) parts (new ∷ news) few put are =
    let both = subst (λ (xs : List Part). ArePutBehind gone number (first ∷ front) xs (new ∷ news)) put.others are in (
      both.0,
      behind-last gone number front own olds (set olds (length front) put.part) news (omega (arith, few)) (record { part = put.part; is = λ d. put.is d; others = refl }) both.1,
    )

-- those before the place stay
pub before-stay : (gone : ℕ) (number : ℕ → ℕ) (own : Option Part) (at : ℕ) (olds parts : List Part) (k : ℕ) (d : Part) → k < at → IsPutAt gone number own at olds parts → get_or parts k d ≡ get_or olds k d
before-stay gone number own at olds parts k d low put =
    let other : k ≢ at = omega (arith, low) in
    ap (λ (xs : List Part). get_or xs k d) put.others ∙ get_or-set_other olds at k put.part d other
