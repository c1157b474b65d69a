-- Uses that entries name, and the first that names none.
use Rattle.std.specs.Prelude.{◌≡◌, ℕ, ◌-◌, ◌<◌, ◌==◌, Bool, false, All, List, Option, Some, slice_get, option_and_then}
use Rattle.std.specs.Option.{option_map_or}
use Rattle.adv_base.specs.declared.workload.parts.Slot.{Slot}
use Rattle.adv_base.specs.Settings.{TheSetting}
use Rattle.plan_model.specs.Totals.{block_of}
use Rattle.certificate.specs.declared.cert.Entry.{Entry}
use Rattle.certificate.specs.declared.cert.SparseSet.{SparseSet}
use Rattle.gap_checker.specs.Faults.{NamesPair}
use Rattle.gap_checker.specs.declared.fault.CheckFault.{CheckFault}
use Rattle.gap_checker.specs.declared.fault.CheckFault.TheVariants.{BadPair}

-- slot s, from 0, of statement q, from 1
abbrev pub slot_of : TheSetting → ℕ → ℕ → Option Slot
slot_of setting q s =
    option_and_then (λ statement. option_and_then (λ block. slice_get block.slots s) (block_of statement.work)) (slice_get setting.statements (q - 1))

-- a candidate, by its number from 1, is on a slot's table
abbrev pub is_on : TheSetting → Slot → ℕ → Bool
is_on setting slot a = option_map_or (λ shape. shape.table == slot.table) (slice_get setting.shapes (a - 1)) false

abbrev pub names_use : TheSetting → ℕ → ℕ → ℕ → Bool
names_use setting q s a = option_map_or (λ slot. is_on setting slot a) (slot_of setting q s) false

-- the entry of a place names no use, or names one
pub record IsBadAt (setting : TheSetting) (set : SparseSet) (place : ℕ) : Type 0 where
  pub entry : Entry
  pub found : slice_get set.entries place ≡ Some entry
  pub none : ¬ (NamesPair setting entry)

pub record IsNamedAt (setting : TheSetting) (set : SparseSet) (place : ℕ) : Type 0 where
  pub entry : Entry
  pub found : slice_get set.entries place ≡ Some entry
  pub names : NamesPair setting entry

-- the place of a set's first entry that names no use
pub record IsBadEntry (setting : TheSetting) (set : SparseSet) (place : ℕ) : Type 0 where
  pub some : 0 < place
  pub entry : Entry
  pub found : slice_get set.entries (place - 1) ≡ Some entry
  pub none : ¬ (NamesPair setting entry)
  pub before : (k : ℕ) (earlier : Entry) → k < place - 1 → slice_get set.entries k ≡ Some earlier → NamesPair setting earlier

pub record IsFirstBad (setting : TheSetting) (sets : List SparseSet) (number place : ℕ) : Type 0 where
  pub some : 0 < number
  pub set : SparseSet
  pub found : slice_get sets (number - 1) ≡ Some set
  pub entry : IsBadEntry setting set place
  pub before : (j : ℕ) (earlier : SparseSet) → j < number - 1 → slice_get sets j ≡ Some earlier → All (NamesPair setting) earlier.entries

abbrev pub IsPairFault : TheSetting → List SparseSet → CheckFault → Type 0
IsPairFault setting sets (BadPair number place) = IsFirstBad setting sets number place
IsPairFault setting sets fault = ⊥
