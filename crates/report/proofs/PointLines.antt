-- The lines of points, one more at a time.
use Rattle.std.proofs.Common.{◌≡◌, ℕ, suc, ◌+◌, ◌<◌, ◌≤◌, List, [], ◌∷◌, ◌++◌, length, get_or, drop, refl, sym, ap, add-one, drop-cons}
use Rattle.std.proofs.lemmas.List.{at_drop_all}
use Rattle.adv_base.specs.Settings.{TheSetting}
use Rattle.bip_model.specs.declared.point.Point.{Point}
use Rattle.report.specs.Sweeps.{point_line, point_lines}

-- the line of a point, and those behind it
pub point_lines-turn : (setting : TheSetting) (n i : ℕ) (points : List Point) (point : Point) → i < length points → point ≡ get_or points i point → point_lines setting n (drop i points) ≡ point_line setting n point ++ point_lines setting (n + 1) (drop (i + 1) points)
unfolding point_lines
point_lines-turn setting n i points point h e =
    let first : drop i points ≡ point ∷ drop (i + 1) points = rw (add-one, drop-cons points i point) (ap (λ (x : Point). x ∷ drop (suc i) points) (sym e)) in
    rw first refl

-- no line is left
pub point_lines-end : (setting : TheSetting) (n i : ℕ) (points : List Point) → length points ≤ i → point_lines setting n (drop i points) ≡ []
unfolding point_lines
point_lines-end setting n i points h = at_drop_all (point_lines setting n) points i h
