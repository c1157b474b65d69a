-- From line to line: what the lines so far leave to come, and which line may come next.
use Rattle.std.specs.Prelude.{◌≡◌, ℕ, zero, suc, ◌+◌, ◌-◌, ◌%◌, ◌<◌, ◌≤◌, ◌^◌, ℤ, pos, Bool, true, false, List, [], ◌∷◌, ◌++◌, length}
use Rattle.adv_base.specs.declared.limits.TheConstants.{MOST_PAGES, MOST_SETS, MOST_ENTRIES, MOST_NODES}
use Rattle.bip_model.specs.declared.answer.Node.{Node}
use Rattle.bip_model.specs.declared.answer.Node.TheVariants.{Branch, Bounded, Overfull}
use Rattle.certificate.specs.Limits.{Rise, IsSmall, EntryLimits, NodeLimits, entry_place}
use Rattle.certificate.specs.Texts.{title_line, budget_line, config_line, cost_line, bound_line, sets_line, entry_line, tree_line, node_line, end_line}
use Rattle.certificate.specs.declared.cert.Entry.{Entry}
use Rattle.certificate.specs.declared.outline.Outline.{Outline}
use Rattle.certificate.specs.declared.stage.Stage.{Stage}
use Rattle.certificate.specs.declared.stage.Stage.TheVariants as stages
use Rattle.certificate.specs.declared.stage.Taken.{Taken}
use Rattle.certificate.specs.declared.stage.Taken.TheVariants as takes
use Rattle.certificate.specs.declared.outline.TheConstants.{FIRST_PLACE, LAST_PLACE}
use Rattle.certificate.specs.inner.Outlines.{Draft, with_tree}
use Rattle.certificate.specs.inner.Words.{IsSetLine}

-- before the first line
unfoldable pub start : Draft
start = record {
  stage = stages.Title;
  version = 1;
  budget = 0;
  config = [];
  cost = 0;
  bound = pos 0;
  sets = [];
  sets_left = 0;
  mu = 0;
  entries = [];
  entries_left = 0;
  least = FIRST_PLACE;
  spare = MOST_ENTRIES;
  tree = [];
  nodes_left = 1;
  trees_left = 1;
}

-- the set that is begun stands behind the whole ones where it needs no more entries
abbrev pub closed_by : ℕ → Draft → Draft
closed_by zero d =
    record d { sets = d.sets ++ record { mu = d.mu; entries = d.entries } ∷ []; sets_left = d.sets_left - 1; entries = [] }
closed_by (suc left) d = d

unfoldable pub closed : Draft → Draft
closed d = closed_by d.entries_left d

unfoldable pub with_set : ℕ → ℕ → Draft → Draft
with_set mu count d =
    closed (record d { mu = mu; entries_left = count; spare = d.spare - count; least = FIRST_PLACE })

unfoldable pub with_entry : Entry → ℕ → Draft → Draft
with_entry entry left d =
    closed (record d { entries = d.entries ++ entry ∷ []; entries_left = left; least = entry_place entry + 1 })

-- how many trees are to come behind a node
abbrev pub trees_after : ℕ → Node → ℕ
trees_after trees (Branch candidate) = trees + 1
trees_after trees (Bounded set) = trees - 1
trees_after trees Overfull = trees - 1

-- a line of the sets, or the one behind them
abbrev pub BodyStep : ℕ → ℕ → Draft → List ℕ → Draft → Type 0
BodyStep (suc left) sets d line e =
    (entry : Entry) × EntryLimits entry × (line ≡ entry_line entry) × (d.least ≤ entry_place entry)
    × (left + entry_place entry ≤ LAST_PLACE) × (e ≡ with_entry entry left d)
BodyStep zero (suc more) d line e =
    (mu : ℕ) × (count : ℕ) × IsSetLine d.spare line mu count × (e ≡ with_set mu count d)
BodyStep zero zero d line e =
    (n : ℕ) × (n ≤ MOST_NODES) × (n % 2 ≡ 1) × (line ≡ tree_line n) × (e ≡ record d { nodes_left = n; stage = stages.Nodes })

-- a line of the tree, or the one behind it
abbrev pub NodeStep : ℕ → Draft → List ℕ → Draft → Type 0
NodeStep (suc left) d line e =
    (node : Node) × NodeLimits (length d.sets) node × (line ≡ node_line node) × (trees_after d.trees_left node ≤ left)
    × (trees_after d.trees_left node ≡ 0 → left ≡ 0)
    × (e ≡ record d { tree = d.tree ++ node ∷ []; nodes_left = left; trees_left = trees_after d.trees_left node })
NodeStep zero d line e = (line ≡ end_line) × (e ≡ record d { stage = stages.Done })

-- the line that may come at a stage, and what stands behind it
abbrev pub StepAt : Stage → Draft → List ℕ → Draft → Type 0
StepAt stages.Title d line e =
    (n : ℕ) × (1 ≤ n) × (n ≤ 2) × (line ≡ title_line n) × (e ≡ record d { version = n; stage = stages.Budget })
StepAt stages.Budget d line e =
    (n : ℕ) × (n ≤ MOST_PAGES) × (line ≡ budget_line n) × (e ≡ record d { budget = n; stage = stages.Config })
StepAt stages.Config d line e =
    (ns : List ℕ) × Rise 1 ns × (line ≡ config_line ns) × (e ≡ record d { config = ns; stage = stages.Cost })
StepAt stages.Cost d line e =
    (n : ℕ) × (n < 2 ^ 127) × (line ≡ cost_line n) × (e ≡ record d { cost = n; stage = stages.Bound })
StepAt stages.Bound d line e =
    (z : ℤ) × IsSmall z × (line ≡ bound_line z) × (e ≡ record d { bound = z; stage = stages.Sets })
StepAt stages.Sets d line e =
    (n : ℕ) × (n ≤ MOST_SETS) × (line ≡ sets_line n) × (e ≡ record d { sets_left = n; stage = stages.Body })
StepAt stages.Body d line e = BodyStep d.entries_left d.sets_left d line e
StepAt stages.Nodes d line e = NodeStep d.nodes_left d line e
StepAt stages.Done d line e = ⊥

-- before the lines of nodes
abbrev pub is_front : Stage → Bool
is_front stages.Nodes = false
is_front stages.Done = false
is_front stage = true

-- a line is taken as one that may come, or none may come so
abbrev pub Reads : Bool → Draft → List ℕ → Draft → Type 0
Reads true d line e = StepAt d.stage d line e
Reads false d line e = (f : Draft) → ¬ (StepAt d.stage d line f)

-- a step was made, whose node, if it has one, is behind the tree so far; or there is none
abbrev pub Takes : Taken → (Draft → Type 0) → Outline → List Node → Type 0
Takes takes.Refused P o tree = (f : Draft) → ¬ (P f)
Takes takes.Line P o tree = P (with_tree o tree)
Takes (takes.Node node) P o tree = P (with_tree o (tree ++ node ∷ []))

-- so of a line at a stage, whatever the tree so far
abbrev pub TakesAt : Stage → Taken → Outline → List ℕ → Outline → Type 0
TakesAt stage taken o line p = (tree : List Node) → Takes taken (StepAt stage (with_tree o tree) line) p tree
