-- Limits of blocks.
use Rattle.std.specs.Prelude.{◌≡◌, ℕ, ◌<◌, ◌≤◌, ◌^◌, false, List, length, All, map, Option}
use Rattle.std.specs.Option.{ForSome}
use Rattle.adv_base.specs.declared.limits.TheConstants.{MOST_SLOTS}
use Rattle.adv_base.specs.declared.workload.parts.Edge.{Edge}
use Rattle.adv_base.specs.declared.workload.parts.Item.{Item}
use Rattle.adv_base.specs.declared.workload.parts.Slot.{Slot}
use Rattle.adv_base.specs.declared.workload.predicate.Pred.{Pred}
use Rattle.adv_base.specs.Sets.{IsConnected}
use Rattle.adv_base.specs.Predicates.{is_bound_item}
use Rattle.adv_base.specs.Items.{AreWithinSlots, AreUpward, AreApart}

-- the two slots of an edge
abbrev pub ends : Edge → ℕ × ℕ
ends e = (e.left, e.right)

-- a list to group or order by: its columns are of the block's slots, and none stands twice
pub record ListLimits (slots : ℕ) (items : List Item) : Type 0 where
  pub within : AreWithinSlots slots items
  pub apart : AreApart items

-- none of the columns is bound by a predicate
abbrev pub AreFree : List Pred → List Item → Type 0
AreFree preds items = All (λ item. is_bound_item preds item ≡ false) items

-- a list to group by is upward throughout
pub record GroupLimits (slots : ℕ) (items : List Item) : Type 0 where
  pub list : ListLimits slots items
  pub upward : AreUpward items

-- 1 to 8 slots that fewer than 2^32 edges connect; predicates, edges and lists name slots of the block, and the lists no bound column
pub record BlockLimits (slots : List Slot) (preds : List Pred) (edges : List Edge) (group : Option (List Item)) (order : List Item) : Type 0 where
  pub slots_some : 1 ≤ length slots
  pub slots_most : length slots ≤ MOST_SLOTS
  pub pred_slots : All (λ pred. pred.slot < length slots) preds
  pub edge_lefts : All (λ edge. edge.left < length slots) edges
  pub edge_rights : All (λ edge. edge.right < length slots) edges
  pub edges_most : length edges < 2 ^ 32
  pub connected : IsConnected (length slots) (map ends edges)
  pub group_list : ForSome group (GroupLimits (length slots))
  pub group_free : ForSome group (AreFree preds)
  pub order_list : ListLimits (length slots) order
  pub order_free : AreFree preds order
