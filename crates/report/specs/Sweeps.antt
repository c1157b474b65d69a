-- The text of a sweep over space budgets: a line for each of them, and one that says whether a gap is left.
use Rattle.std.specs.List.{list_all}
use Rattle.std.specs.Prelude.{ℕ, ◌+◌, ◌==◌, if◌then◌else◌, Bool, false, ℤ, pos, negsuc, List, [], ◌∷◌, ◌++◌, length, codes, Option, Some, None}
use Rattle.adv_base.specs.Configs.{config_pages}
use Rattle.adv_base.specs.Settings.{TheSetting}
use Rattle.bip_model.specs.declared.point.Point.{Point}
use Rattle.report.specs.Words.{numbered, signed, line}

-- a bound is the cost
abbrev pub has_no_gap : ℕ → ℤ → Bool
has_no_gap cost (pos bound) = bound == cost
has_no_gap cost (negsuc below) = false

-- no gap is left at any point: the greatest bound is the least cost
abbrev pub have_no_gap : List Point → Bool
have_no_gap points = list_all (λ point. has_no_gap point.best point.low) points

-- a point by its number, with its budget and the pages of what is picked
unfoldable pub place_words : ℕ → ℕ → ℕ → List ℕ
place_words number budget size = numbered (codes "point ") number ++ (numbered (codes " budget ") budget ++ numbered (codes " size ") size)

-- the cost and the bound of its own answer
unfoldable pub answer_words : ℕ → ℤ → List ℕ
answer_words cost bound = numbered (codes " cost ") cost ++ signed (codes " bound ") bound

-- the least cost, the greatest bound, and the nodes of its search
unfoldable pub curve_words : ℕ → ℤ → ℕ → List ℕ
curve_words best low nodes = numbered (codes " best ") best ++ (signed (codes " low ") low ++ numbered (codes " nodes ") nodes)

unfoldable pub point_line : TheSetting → ℕ → Point → List ℕ
point_line setting number point =
    line (place_words number point.budget (config_pages setting.cat setting.shapes point.answer.config)
    ++ (answer_words point.answer.cost point.answer.bound ++ curve_words point.best point.low (length point.answer.tree)))

-- a line for each, numbered from there on
unfoldable pub point_lines : TheSetting → ℕ → List Point → List ℕ
point_lines setting number [] = []
point_lines setting number (point ∷ points) = point_line setting number point ++ point_lines setting (number + 1) points

-- whether no gap is left at any of them
abbrev pub ending_line : Bool → List ℕ
ending_line no_gap = if no_gap then line (codes "finished") else line (codes "stopped")

abbrev pub curve_text : TheSetting → List Point → List ℕ
curve_text setting points = point_lines setting 1 points ++ ending_line (have_no_gap points)

-- over the setting that is there
abbrev pub swept_text : Option TheSetting → List Point → List ℕ
swept_text None points = []
swept_text (Some setting) points = curve_text setting points
