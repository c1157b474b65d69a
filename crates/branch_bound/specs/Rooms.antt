-- The memory of a search, and how many sets of multipliers it may keep.
use Rattle.std.specs.Prelude.{◌≡◌, ℕ, ◌*◌, ◌<◌, ◌≤◌, ◌⊎◌, [], replicate, All, length}
use Rattle.std.specs.Vec.{vec_capacity}
use Rattle.adv_base.specs.declared.limits.TheConstants.{MOST_ENTRIES, MOST_SETS}
use Rattle.bip_model.specs.declared.programme.Programme.{Programme}
use Rattle.bip_model.specs.Values.{grant_count}
use Rattle.bip_model.specs.Views.{AreMultipliers}
use Rattle.lagrange_bound.specs.Ledgers.{AreCheaperParts, HasPlaces, HasRoom}
use Rattle.branch_bound.specs.declared.room.Room.{Room}

-- so many sets, of which at least one is always kept, have no more rents than an answer may have
pub record IsSetLimit (programme : Programme) (count : ℕ) : Type 0 where
  pub some : 1 ≤ count
  pub most : count ≤ MOST_SETS
  pub entries : (count ≡ 1) ⊎ (count * grant_count programme ≤ MOST_ENTRIES)

-- a room is enough for a search of a programme with so many nodes
pub record IsRoomFor (programme : Programme) (nodes : ℕ) (room : Room) : Type 0 where
  pub tree_empty : room.tree.items ≡ []
  pub tree_room : nodes ≤ vec_capacity room.tree
  pub sets_empty : room.sets.items ≡ []
  pub sets_room : MOST_SETS ≤ vec_capacity room.sets
  pub zeros_page : room.zeros.mu ≡ 0
  pub zeros_are : room.zeros.lambda ≡ replicate (grant_count programme) 0
  pub zeros_fit : AreMultipliers programme room.zeros
  pub first_fits : AreMultipliers programme room.spares.first
  pub spare_fits : AreMultipliers programme room.spares.spare
  pub others_fit : All (AreMultipliers programme) room.spares.others.items
  pub cheaper_are : AreCheaperParts programme room.cheaper
  pub ledgers_room : All (HasRoom programme) room.ledgers.each.items
  pub ledgers_most : MOST_SETS < length room.ledgers.each.items
  pub rows_places : HasPlaces room.cheaper room.ledgers.rows
