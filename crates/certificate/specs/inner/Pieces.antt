-- A text that is read in pieces: whole lines, and one that is open.
use Rattle.std.specs.Prelude.{◌≡◌, ℕ, ◌+◌, ◌<◌, ◌≤◌, Bool, true, false, List, [], ◌∷◌, ◌++◌, length}
use Rattle.bip_model.specs.declared.answer.Node.{Node}
use Rattle.certificate.specs.Certificates.{IsLine, BreaksAt}
use Rattle.certificate.specs.Texts.{text_of, tree_line, sets_lines}
use Rattle.certificate.specs.declared.counts.Counts.{Counts}
use Rattle.certificate.specs.declared.head.Head.{Head}
use Rattle.certificate.specs.declared.outline.Outline.{Outline}
use Rattle.certificate.specs.declared.stage.Stage.{Stage}
use Rattle.certificate.specs.declared.stage.Stage.TheVariants as stages
use Rattle.certificate.specs.declared.pieces.Reading.{Reading}
use Rattle.certificate.specs.declared.pieces.TheConstants.{LONGEST_LINE}
use Rattle.certificate.specs.inner.Outlines.{Draft, with_tree}
use Rattle.certificate.specs.inner.Runs.{head_of, lines_at, Run}
use Rattle.certificate.specs.inner.Steps.{start, StepAt}

abbrev pub counts_of : List (List ℕ) → Counts
counts_of lines = record { bytes = length (text_of lines); lines = length lines }

-- with one more line
abbrev pub with_line : Counts → ℕ → Counts
with_line counts len = record { bytes = counts.bytes + len + 1; lines = counts.lines + 1 }

-- the lines before those of the nodes, where these come next or came
abbrev pub front_of : Draft → List (List ℕ)
front_of d = head_of d ++ (sets_lines d.sets ++ tree_line (length d.tree + d.nodes_left) ∷ [])

-- the same at a stage, or all lines so far
abbrev pub front_at : Stage → Draft → List (List ℕ)
front_at stages.Nodes d = front_of d
front_at stages.Done d = front_of d
front_at stage d = lines_at stage d

-- lines lead to an outline, and they were counted
pub record Reaches (lines : List (List ℕ)) (tree : List Node) (outline : Outline) (read front : Counts) (nodes : ℕ) : Type 0 where
  pub run : Run start lines (with_tree outline tree)
  pub read_is : read ≡ counts_of lines
  pub front_is : front ≡ counts_of (front_at outline.stage (with_tree outline tree))
  pub nodes_is : nodes ≡ length tree + outline.nodes_left

-- some lines do, and the open one is short
pub record IsReached (reading : Reading) : Type 0 where
  pub lines : List (List ℕ)
  pub tree : List Node
  pub reaches : Reaches lines tree reading.outline reading.read reading.front reading.nodes
  pub short : length reading.partial ≤ LONGEST_LINE

-- a text is whole lines and the open one
pub record IsRead (reading : Reading) (text : List ℕ) : Type 0 where
  pub lines : List (List ℕ)
  pub tree : List Node
  pub reaches : Reaches lines tree reading.outline reading.read reading.front reading.nodes
  pub plain : IsLine reading.partial
  pub parts : text ≡ text_of lines ++ reading.partial

-- however a text goes on, it breaks at a line
abbrev pub Breaks : List ℕ → ℕ → Type 0
Breaks text number = (more : List ℕ) → BreaksAt (text ++ more) number

-- a text was read on, or it breaks at the line that is open
abbrev pub ReadsOn : Bool → List ℕ → Reading → Type 0
ReadsOn true text reading = IsRead reading text
ReadsOn false text reading = Breaks text (reading.read.lines + 1)

-- bytes stand behind those of the open line, or they are too many
abbrev pub Extends : Bool → Reading → List ℕ → Reading → Type 0
Extends true old bytes new = (new ≡ record old { partial = old.partial ++ bytes }) × (length new.partial ≤ LONGEST_LINE)
Extends false old bytes new = (new ≡ old) × (LONGEST_LINE < length (old.partial ++ bytes))

-- the open line was counted
abbrev pub counted : Bool → Reading → Reading
counted true reading =
    record reading { partial = []; read = with_line reading.read (length reading.partial); front = with_line reading.read (length reading.partial); nodes = reading.outline.nodes_left }
counted false reading = record reading { partial = []; read = with_line reading.read (length reading.partial) }

-- the open line was taken behind others, or none may come so
abbrev pub TakesLine : Bool → List (List ℕ) → List Node → Reading → Reading → Type 0
TakesLine true lines tree old new =
    (more : List Node) × Reaches (lines ++ old.partial ∷ []) more new.outline new.read new.front new.nodes × (new.partial ≡ [])
TakesLine false lines tree old new =
    ((f : Draft) → ¬ (StepAt old.outline.stage (with_tree old.outline tree) old.partial f)) × (new.read ≡ old.read)

-- what was read of the lines before the nodes
abbrev pub head_read : Reading → Head
head_read reading = record {
  version = reading.outline.version;
  budget = reading.outline.budget;
  config = reading.outline.config;
  cost = reading.outline.cost;
  bound = reading.outline.bound;
  sets = reading.outline.sets;
  nodes = reading.nodes;
  tree_at = reading.front.bytes;
  lines = reading.front.lines;
}
