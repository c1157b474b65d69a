-- Tables of the rows of sets of slots.
use Rattle.std.specs.Prelude.{◌≡◌, ℕ, ◌<◌, List, length, All, slice_index}
use Rattle.adv_base.specs.declared.catalogue.Catalogue.{Catalogue}
use Rattle.adv_base.specs.declared.workload.block.Block.{Block}
use Rattle.adv_base.specs.Rows.{AreRows, set_rows}

-- for each set below a number, at its place, the rows of the join of its slots
pub record HoldsRows (cat : Catalogue) (block : Block) (sets : ℕ) (of : List ℕ) : Type 0 where
  pub count : length of ≡ sets
  pub exact : (set : ℕ) → set < sets → slice_index of set ≡ set_rows cat block set
  pub bounds : All AreRows of
