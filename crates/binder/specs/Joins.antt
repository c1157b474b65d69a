-- Whether join edges connect the slots of a block.
use Rattle.std.specs.Prelude.{ℕ, ◌-◌, Bool, List, map}
use Rattle.std.specs.List.{list_any, list_all, range_with_len}
use Rattle.adv_base.specs.Sets.{all_slots, is_crossing}
use Rattle.binder.specs.Plain.{PlainEdge}

-- the slots that an edge joins
abbrev pub joined_slots : PlainEdge → ℕ × ℕ
joined_slots edge = (edge.left, edge.right)

-- some edge leads from a set of the slots below n to the others
abbrev pub is_left : ℕ → List PlainEdge → ℕ → Bool
is_left n edges set = list_any (is_crossing set (all_slots n - set)) (map joined_slots edges)

-- the edges connect the slots below n: whichever way these are cut in two, some edge crosses the cut
unfoldable pub is_joined : ℕ → List PlainEdge → Bool
is_joined n edges = list_all (is_left n edges) (range_with_len 1 (all_slots n - 1))
