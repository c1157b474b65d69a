-- The lines of candidates, one more at a time.
use Rattle.std.proofs.Common.{◌≡◌, ℕ, suc, ◌+◌, ◌<◌, ◌≤◌, List, [], ◌∷◌, ◌++◌, length, get_or, drop, refl, sym, ap, add-one, drop-cons}
use Rattle.std.proofs.lemmas.List.{at_drop_all}
use Rattle.adv_base.specs.declared.catalogue.Catalogue.{Catalogue}
use Rattle.adv_base.specs.declared.catalogue.index.IndexShape.{IndexShape}
use Rattle.report.specs.Listings.{candidate_words, candidate_lines}

-- the line of a candidate, and those behind it
pub candidate_lines-turn : (cat : Catalogue) (n i : ℕ) (shapes : List IndexShape) (shape : IndexShape) → i < length shapes → shape ≡ get_or shapes i shape → candidate_lines cat n (drop i shapes) ≡ candidate_words cat n shape ++ 10 ∷ [] ++ candidate_lines cat (n + 1) (drop (i + 1) shapes)
unfolding candidate_lines
candidate_lines-turn cat n i shapes shape h e =
    let first : drop i shapes ≡ shape ∷ drop (i + 1) shapes = rw (add-one, drop-cons shapes i shape) (ap (λ (x : IndexShape). x ∷ drop (suc i) shapes) (sym e)) in
    rw first refl

-- no line is left
pub candidate_lines-end : (cat : Catalogue) (n i : ℕ) (shapes : List IndexShape) → length shapes ≤ i → candidate_lines cat n (drop i shapes) ≡ []
unfolding candidate_lines
candidate_lines-end cat n i shapes h = at_drop_all (candidate_lines cat n) shapes i h
