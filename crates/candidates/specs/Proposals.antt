-- The indexes that a workload proposes: for each statement with a block, and in it for each slot in order.
use Rattle.std.specs.Prelude.{ℕ, Bool, true, false, not, ◌&&◌, if◌then◌else◌, List, [], ◌∷◌, ◌++◌, map, take}
use Rattle.std.specs.List.{list_any, flat_map, enumerate_from}
use Rattle.std.specs.Option.{option_map_or}
use Rattle.adv_base.specs.declared.catalogue.Catalogue.{Catalogue}
use Rattle.adv_base.specs.declared.workload.Statement.{Statement}
use Rattle.adv_base.specs.declared.workload.Work.{Work}
use Rattle.adv_base.specs.declared.workload.Work.TheVariants.{Select, Update, Delete, Insert}
use Rattle.adv_base.specs.declared.workload.block.Block.{Block}
use Rattle.adv_base.specs.declared.workload.parts.Slot.{Slot}
use Rattle.adv_base.specs.Lookups.{table_at}
use Rattle.candidates.specs.Columns.{with_column, joined, point_columns, range_columns, join_columns, group_columns, order_columns, needed_columns}

-- ## Key lists

-- the number of a table and key columns of it
abbrev pub KeyList : Type 0
KeyList = ℕ × List ℕ

-- each column alone
abbrev pub single_lists : ℕ → List ℕ → List KeyList
single_lists table columns = map (λ c. (table, c ∷ [])) columns

-- a list followed by each of the columns
abbrev pub lists_behind : ℕ → List ℕ → List ℕ → List KeyList
lists_behind table keys columns = map (λ c. (table, with_column keys c)) columns

-- From the columns with equality or IN, those with a range test and those of edges: each column alone, and the first
-- followed by a column with a range test or by one of an edge.
unfoldable pub column_lists : ℕ → List ℕ → List ℕ → List ℕ → List KeyList
column_lists table points ranges joins =
    single_lists table points ++ single_lists table ranges ++ single_lists table joins ++ lists_behind table points ranges ++ lists_behind table points joins

-- the list to group by, the list to order by, and the latter behind the columns with equality or IN
unfoldable pub sorted_lists : ℕ → List ℕ → List ℕ → List ℕ → List KeyList
sorted_lists table points group order = (table, group) ∷ (table, order) ∷ (table, joined points order) ∷ []

-- the columns with equality or IN, the first one with a range test, and the rest of what is needed
unfoldable pub covering_list : ℕ → List ℕ → List ℕ → List ℕ → KeyList
covering_list table points ranges needed = (table, joined (joined points (take 1 ranges)) needed)

-- ## Indexes

-- an index that is proposed: the number of a table, key columns of it, and whether the table is to be clustered by them
pub record Proposal : Type 0 where
  pub table : ℕ
  pub keys : List ℕ
  pub clustered : Bool

abbrev pub plain_index : KeyList → Proposal
plain_index list = record { table = list.0; keys = list.1; clustered = false }

abbrev pub clustered_index : KeyList → Proposal
clustered_index list = record { table = list.0; keys = list.1; clustered = true }

-- a table may be clustered, and no index of it that exists is
unfoldable pub is_clusterable : Catalogue → ℕ → Bool
is_clusterable cat t = option_map_or (λ table. table.may_cluster && not (list_any (λ index. index.shape.clustered) table.indexes)) (table_at cat t) false

-- a key list plain, and then clustered where its table is clusterable
abbrev pub forms : Bool → KeyList → List Proposal
forms clusterable list = plain_index list ∷ (if clusterable then clustered_index list ∷ [] else [])

-- what a slot proposes, in sequence; the covering list is proposed plain alone
unfoldable pub slot_proposals : Catalogue → Block → ℕ → Slot → List Proposal
slot_proposals cat block s slot =
    flat_map (forms (is_clusterable cat slot.table)) (column_lists slot.table (point_columns block s) (range_columns block s) (join_columns block s)
    ++ sorted_lists slot.table (point_columns block s) (group_columns block s) (order_columns block s))
    ++ plain_index (covering_list slot.table (point_columns block s) (range_columns block s) (needed_columns cat slot)) ∷ []

unfoldable pub block_proposals : Catalogue → Block → List Proposal
block_proposals cat block = flat_map (λ numbered. slot_proposals cat block numbered.0 numbered.1) (enumerate_from 0 block.slots)

-- an INSERT proposes nothing
unfoldable pub work_proposals : Catalogue → Work → List Proposal
work_proposals cat (Select block) = block_proposals cat block
work_proposals cat (Update block columns) = block_proposals cat block
work_proposals cat (Delete block) = block_proposals cat block
work_proposals cat (Insert table rows) = []

-- what a workload proposes, in sequence
unfoldable pub proposals : Catalogue → List Statement → List Proposal
proposals cat statements = flat_map (λ statement. work_proposals cat statement.work) statements
