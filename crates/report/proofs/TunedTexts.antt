-- The texts of advice, one more at a time.
use Rattle.std.proofs.Common.{◌≡◌, ℕ, suc, ◌+◌, ◌<◌, ◌≤◌, List, [], ◌∷◌, ◌++◌, length, get_or, drop, refl, sym, ap, add-one, drop-cons}
use Rattle.std.proofs.lemmas.List.{at_drop_all}
use Rattle.adv_base.specs.declared.catalogue.Catalogue.{Catalogue}
use Rattle.report.specs.declared.done.Tuned.{Tuned}
use Rattle.report.specs.Retuned.{tuned_text, tuned_texts}

-- the text of one, and those behind it
pub tuned_texts-turn : (cat : Catalogue) (n i : ℕ) (all : List Tuned) (tuned : Tuned) → i < length all → tuned ≡ get_or all i tuned → tuned_texts cat n (drop i all) ≡ tuned_text cat n tuned ++ tuned_texts cat (n + 1) (drop (i + 1) all)
unfolding tuned_texts
tuned_texts-turn cat n i all tuned h e =
    let first : drop i all ≡ tuned ∷ drop (i + 1) all = rw (add-one, drop-cons all i tuned) (ap (λ (x : Tuned). x ∷ drop (suc i) all) (sym e)) in
    rw first refl

-- no text is left
pub tuned_texts-end : (cat : Catalogue) (n i : ℕ) (all : List Tuned) → length all ≤ i → tuned_texts cat n (drop i all) ≡ []
unfolding tuned_texts
tuned_texts-end cat n i all h = at_drop_all (tuned_texts cat n) all i h
