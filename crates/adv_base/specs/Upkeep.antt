-- What a write costs at the indexes of its table, in thousandths of a page read.
use Rattle.std.specs.Prelude.{ℕ, ◌+◌, ◌*◌, ◌==◌, Bool, false, ◌&&◌, if◌then◌else◌, List, sum_by, slice_get}
use Rattle.std.specs.List.{list_any}
use Rattle.std.specs.Option.{option_map_or}
use Rattle.adv_base.specs.declared.catalogue.Catalogue.{Catalogue}
use Rattle.adv_base.specs.declared.catalogue.index.IndexShape.{IndexShape}
use Rattle.adv_base.specs.declared.setting.Config.{Config}
use Rattle.adv_base.specs.declared.workload.Work.{Work}
use Rattle.adv_base.specs.declared.workload.Work.TheVariants.{Select, Update, Delete, Insert}
use Rattle.adv_base.specs.declared.workload.block.Block.{Block}
use Rattle.adv_base.specs.Configs.{candidates_in}
use Rattle.adv_base.specs.Lookups.{table_at}
use Rattle.adv_base.specs.Rows.{filtered_rows}
use Rattle.adv_base.specs.Settings.{TheSetting}
use Rattle.adv_base.specs.Sizes.{index_levels}

-- the block's one slot is on the index's table
abbrev pub is_on_table : Block → IndexShape → Bool
is_on_table block shape = option_map_or (λ slot. slot.table == shape.table) (slice_get block.slots 0) false

-- some key is a column that is set
abbrev pub holds_some : List ℕ → List ℕ → Bool
holds_some keys columns = list_any (λ key. list_any (λ column. column == key) columns) keys

-- which indexes a statement writes: all of the table for INSERT and DELETE, for UPDATE those with a key among the set columns
abbrev pub touches : Work → IndexShape → Bool
touches (Select block) shape = false
touches (Update block columns) shape = is_on_table block shape && holds_some shape.keys columns
touches (Delete block) shape = is_on_table block shape
touches (Insert table rows) shape = table == shape.table

-- the rows that a statement changes
abbrev pub changed_rows : Catalogue → Work → ℕ
changed_rows cat (Select block) = 0
changed_rows cat (Update block columns) = filtered_rows cat block 0
changed_rows cat (Delete block) = filtered_rows cat block 0
changed_rows cat (Insert table rows) = rows

-- an UPDATE takes an entry out and puts one in
abbrev pub writes_per_row : Work → ℕ
writes_per_row (Select block) = 0
writes_per_row (Update block columns) = 2
writes_per_row (Delete block) = 1
writes_per_row (Insert table rows) = 1

-- one write goes down the levels at random and handles a row
abbrev pub write_cost : Catalogue → IndexShape → ℕ
write_cost cat shape =
    cat.rates.rand_page * option_map_or (λ table. index_levels table shape.keys) (table_at cat shape.table) 0 + cat.rates.row_cpu

-- the upkeep of one index by one statement, without its weight
unfoldable pub upkeep : Catalogue → Work → IndexShape → ℕ
upkeep cat work shape = if touches work shape then writes_per_row work * (changed_rows cat work * write_cost cat shape) else 0

-- the upkeep of the indexes that exist
unfoldable pub kept_upkeep : Catalogue → Work → ℕ
kept_upkeep cat work = sum_by (λ table. sum_by (λ index. upkeep cat work index.shape) table.indexes) cat.tables

-- the upkeep of a configuration's candidates
unfoldable pub config_upkeep : Catalogue → List IndexShape → Config → Work → ℕ
config_upkeep cat shapes config work = sum_by (upkeep cat work) (candidates_in shapes config)

-- ## By weight

-- the sum of weight times upkeep of an index
abbrev pub weighted_upkeep : TheSetting → IndexShape → ℕ
weighted_upkeep setting shape = sum_by (λ statement. statement.weight * upkeep setting.cat statement.work shape) setting.statements

-- the same of the indexes that exist
abbrev pub weighted_kept : TheSetting → ℕ
weighted_kept setting = sum_by (λ statement. statement.weight * kept_upkeep setting.cat statement.work) setting.statements
