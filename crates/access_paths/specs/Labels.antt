-- The words by which the plans of a block are told.
use Rattle.std.specs.Prelude.{ℕ, List, [], ◌++◌, map, Option, Some, None, codes, decimal}
use Rattle.adv_base.specs.declared.catalogue.Catalogue.{Catalogue}
use Rattle.adv_base.specs.declared.catalogue.index.IndexShape.{IndexShape}
use Rattle.adv_base.specs.declared.catalogue.table.Table.{Table}
use Rattle.adv_base.specs.declared.setting.Config.{Config}
use Rattle.adv_base.specs.declared.workload.block.Block.{Block}
use Rattle.adv_base.specs.declared.workload.parts.Slot.{Slot}
use Rattle.adv_base.specs.Lookups.{table_at}
use Rattle.adv_base.specs.Offers.{Path, Heap, Existing, Candidate, paths_of}

-- the words of an access path
abbrev pub path_words : Path → List ℕ
path_words Heap = codes "heap"
path_words (Existing index) = codes "index " ++ index.name
path_words (Candidate number shape) = codes "candidate " ++ decimal number

-- those of each way to read a slot
abbrev pub slot_words : Catalogue → List IndexShape → Config → Slot → List (List ℕ)
slot_words cat shapes config slot = map path_words (paths_of cat shapes config (Some slot))

-- the names of a table's columns
abbrev pub column_names : Option Table → List (List ℕ)
column_names (Some table) = map (λ column. column.name) table.columns
column_names None = []

-- the columns of a slot's table
abbrev pub slot_columns : Catalogue → Slot → List (List ℕ)
slot_columns cat slot = column_names (table_at cat slot.table)

-- each slot's name
abbrev pub slot_labels : Block → List (List ℕ)
slot_labels block = map (λ slot. slot.name) block.slots

-- for each slot, the names of its columns
abbrev pub column_labels : Catalogue → Block → List (List (List ℕ))
column_labels cat block = map (slot_columns cat) block.slots

-- for each slot, the words of each of its offers, in the order of the offers
abbrev pub offer_labels : Catalogue → Block → List IndexShape → Config → List (List (List ℕ))
offer_labels cat block shapes config = map (slot_words cat shapes config) block.slots
