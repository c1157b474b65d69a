-- The lines that a draft has taken.
use Rattle.std.specs.Prelude.{◌≡◌, ℕ, zero, suc, ◌+◌, List, [], ◌∷◌, ◌++◌, length, map}
use Rattle.certificate.specs.Texts.{title_line, budget_line, config_line, cost_line, bound_line, set_line, entry_line, tree_line, node_line, end_line, head_lines, sets_lines}
use Rattle.certificate.specs.inner.Outlines.{Draft}
use Rattle.certificate.specs.declared.stage.Stage.{Stage}
use Rattle.certificate.specs.declared.stage.Stage.TheVariants as stages
use Rattle.certificate.specs.inner.Steps.{StepAt}

-- those of the set that is begun
abbrev pub begun_lines : ℕ → Draft → List (List ℕ)
begun_lines zero d = []
begun_lines (suc left) d = set_line d.mu (length d.entries + suc left) ∷ map entry_line d.entries

abbrev pub head_of : Draft → List (List ℕ)
head_of d = head_lines d.version d.budget d.config d.cost d.bound (length d.sets + d.sets_left)

abbrev pub tree_of : Draft → List (List ℕ)
tree_of d = tree_line (length d.tree + d.nodes_left) ∷ map node_line d.tree

abbrev pub lines_at : Stage → Draft → List (List ℕ)
lines_at stages.Title d = []
lines_at stages.Budget d = title_line d.version ∷ []
lines_at stages.Config d = title_line d.version ∷ budget_line d.budget ∷ []
lines_at stages.Cost d = title_line d.version ∷ budget_line d.budget ∷ config_line d.config ∷ []
lines_at stages.Bound d = title_line d.version ∷ budget_line d.budget ∷ config_line d.config ∷ cost_line d.cost ∷ []
lines_at stages.Sets d =
    title_line d.version ∷ budget_line d.budget ∷ config_line d.config ∷ cost_line d.cost ∷ bound_line d.bound ∷ []
lines_at stages.Body d = head_of d ++ (sets_lines d.sets ++ begun_lines d.entries_left d)
lines_at stages.Nodes d = head_of d ++ (sets_lines d.sets ++ tree_of d)
lines_at stages.Done d = head_of d ++ (sets_lines d.sets ++ (tree_of d ++ end_line ∷ []))

-- lines lead from a draft to another, a step a line
abbrev pub Run : Draft → List (List ℕ) → Draft → Type 0
Run d [] e = d ≡ e
Run d (line ∷ lines) e = (f : Draft) × StepAt d.stage d line f × Run f lines e
