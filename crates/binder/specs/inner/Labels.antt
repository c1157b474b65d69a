-- Labels of slots as quick-find (Sedgewick) keeps them: slots with one label hang together.
use Rattle.std.specs.Prelude.{ℕ, ◌==◌, Bool, if◌then◌else◌, List, map, fold, slice_index}
use Rattle.std.specs.List.{list_all, range_with_len}
use Rattle.binder.specs.Plain.{PlainEdge}

-- a label in place of another
abbrev pub renamed : ℕ → ℕ → ℕ → ℕ
renamed from to label = if label == from then to else label

-- an edge gives all slots that hang together with its left one the label of its right one
abbrev pub relabelled : List ℕ → PlainEdge → List ℕ
relabelled labels edge = map (renamed (slice_index labels edge.left) (slice_index labels edge.right)) labels

-- the labels behind all edges; each slot begins with its own
unfoldable pub labels_of : ℕ → List PlainEdge → List ℕ
labels_of n edges = fold relabelled (range_with_len 0 n) edges

-- all of n slots have one label behind the edges
unfoldable pub have_one_label : ℕ → List PlainEdge → Bool
have_one_label n edges = list_all (λ label. label == slice_index (labels_of n edges) 0) (labels_of n edges)
