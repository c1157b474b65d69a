-- Which statements a change of the available candidates touches.
use Rattle.std.specs.Prelude.{◌≡◌, ℕ, suc, Bool, true, false, List, Some, slice_get, slice_index_or}
use Rattle.adv_base.specs.declared.catalogue.index.IndexShape.{IndexShape}
use Rattle.adv_base.specs.declared.setting.Config.{Config}
use Rattle.adv_base.specs.declared.workload.Work.{Work}
use Rattle.adv_base.specs.declared.workload.block.Block.{Block}
use Rattle.adv_base.specs.declared.workload.parts.Slot.{Slot}
use Rattle.adv_base.specs.Configs.{has_candidate}
use Rattle.plan_model.specs.Totals.{block_of}
use Rattle.gap_checker.specs.declared.changes.Changes.{Changes}

abbrev pub is_marked : List Bool → ℕ → Bool
is_marked tables t = slice_index_or tables t true

-- two configurations have the same candidates on each table that isn't marked
abbrev pub AgreeApart : List Bool → Config → Config → List IndexShape → Type 0
AgreeApart tables from to shapes =
    (a : ℕ) (shape : IndexShape) → slice_get shapes a ≡ Some shape → is_marked tables shape.table ≡ false → has_candidate from (suc a) ≡ has_candidate to (suc a)

-- no slot is on a marked table
abbrev pub NoneMarked : List Bool → List Slot → Type 0
NoneMarked tables slots = (s : ℕ) (slot : Slot) → slice_get slots s ≡ Some slot → is_marked tables slot.table ≡ false

-- costs are kept, and none of the statement's slots is on a table whose candidates changed
pub record IsUntouched (changes : Changes) (work : Work) : Type 0 where
  pub known : changes.all ≡ false
  pub apart : (block : Block) → block_of work ≡ Some block → NoneMarked changes.tables block.slots
