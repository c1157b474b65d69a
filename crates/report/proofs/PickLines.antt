-- The lines of candidates that are picked, one candidate more at a time.
use Rattle.std.proofs.Common.{◌≡◌, ℕ, suc, ◌+◌, ◌<◌, ◌≤◌, List, [], ◌∷◌, ◌++◌, length, get_or, drop, refl, sym, ap, add-one, drop-cons}
use Rattle.std.proofs.lemmas.List.{at_drop_all}
use Rattle.adv_base.specs.declared.catalogue.Catalogue.{Catalogue}
use Rattle.adv_base.specs.declared.catalogue.index.IndexShape.{IndexShape}
use Rattle.adv_base.specs.declared.setting.Config.{Config}
use Rattle.report.specs.Listings.{pick_line, pick_lines}

-- the line of a candidate, and those behind it
pub pick_lines-turn : (cat : Catalogue) (config : Config) (n i : ℕ) (shapes : List IndexShape) (shape : IndexShape) → i < length shapes → shape ≡ get_or shapes i shape → pick_lines cat config n (drop i shapes) ≡ pick_line cat config n shape ++ pick_lines cat config (n + 1) (drop (i + 1) shapes)
unfolding pick_lines
pick_lines-turn cat config n i shapes shape h e =
    let first : drop i shapes ≡ shape ∷ drop (i + 1) shapes = rw (add-one, drop-cons shapes i shape) (ap (λ (x : IndexShape). x ∷ drop (suc i) shapes) (sym e)) in
    rw first refl

-- no line is left
pub pick_lines-end : (cat : Catalogue) (config : Config) (n i : ℕ) (shapes : List IndexShape) → length shapes ≤ i → pick_lines cat config n (drop i shapes) ≡ []
unfolding pick_lines
pick_lines-end cat config n i shapes h = at_drop_all (pick_lines cat config n) shapes i h
