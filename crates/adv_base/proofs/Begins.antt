-- Laws of what orders begin with.
use Rattle.std.proofs.Common.{◌≡◌, ◌∙◌, ◌⊎◌, inl, inr, ℕ, ◌≤◌, [], ◌∷◌, length, take, All, Decides, refl, sym, ap, subst, arith}
use Rattle.std.proofs.lemmas.List.{take-take, length-take}
use Rattle.std.proofs.lemmas.List.Elements.{All-take}
use Rattle.std.proofs.lemmas.Bool.{cases_Bool, false≢true}
use Rattle.adv_base.specs.declared.workload.parts.Item.{Item}
use Rattle.adv_base.specs.Items.{Order, BeginsWith, is_same_order}
use Rattle.adv_base.proofs.ItemLaws.{is_same_order-decides}

pub begins_nil : (o : Order) → BeginsWith o []
begins_nil o = refl

pub begins_self : (o : Order) → BeginsWith o o
begins_self [] = refl
begins_self (x ∷ xs) = ap (λ (t : Order). x ∷ t) (begins_self xs)

pub begins_length : (o r : Order) → BeginsWith o r → length r ≤ length o
begins_length o r h =
    let e : length (take (length r) o) ≡ length r = ap length h in
    omega (arith, e, length-take (length r) o)

pub begins_trans : (o g f : Order) → BeginsWith o g → BeginsWith g f → BeginsWith o f
begins_trans o g f og gf =
    let le : length f ≤ length g = begins_length g f gf in
    sym (take-take (length f) (length g) o le) ∙ ap (take (length f)) og ∙ gf

-- of two orders that one begins with, the longer begins with the shorter
pub begins_longer : (o g f : Order) → BeginsWith o g → BeginsWith o f → length f ≤ length g → BeginsWith g f
begins_longer o g f og of' le =
    ap (take (length f)) (sym og) ∙ take-take (length f) (length g) o le ∙ of'

-- orders that begin with each other are the same
pub begins_both : (o r : Order) → BeginsWith o r → BeginsWith r o → o ≡ r
begins_both o r h g =
    let same : length o ≡ length r = omega (arith, begins_length o r h, begins_length r o g) in
    sym (begins_self o) ∙ ap (λ (n : ℕ). take n o) same ∙ h

-- what holds of an order's items holds of those that it begins with
pub begins_all : (P : Item → Type 0) (o r : Order) → All P o → BeginsWith o r → All P r
begins_all P o r h e = subst (All P) e (All-take P (length r) o h)

-- whether an order begins with another
pub begins_decides : (o r : Order) → Decides (is_same_order (take (length r) o) r) (BeginsWith o r)
begins_decides o r = is_same_order-decides (take (length r) o) r

pub begins_cases : (o r : Order) → BeginsWith o r ⊎ (BeginsWith o r → ⊥)
begins_cases o r =
    elim (cases_Bool (is_same_order (take (length r) o) r)) [
      | inl so ↦ inl ((begins_decides o r).0 so)
      | inr not_so ↦ inr (λ h. false≢true (sym not_so ∙ (begins_decides o r).1 h))
    ]
