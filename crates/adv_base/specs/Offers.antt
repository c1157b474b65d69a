-- The ways to read each slot of a block, as one list; each has the order that it delivers and its price.
use Rattle.std.specs.Prelude.{ℕ, ◌+◌, ◌==◌, List, [], ◌∷◌, ◌++◌, filter, map, Option, Some, None, slice_get, option_and_then}
use Rattle.std.specs.List.{enumerate_from}
use Rattle.adv_base.specs.declared.catalogue.Catalogue.{Catalogue}
use Rattle.adv_base.specs.declared.catalogue.index.Index.{Index}
use Rattle.adv_base.specs.declared.catalogue.index.IndexShape.{IndexShape}
use Rattle.adv_base.specs.declared.catalogue.table.Table.{Table}
use Rattle.adv_base.specs.declared.setting.Config.{Config}
use Rattle.adv_base.specs.declared.workload.block.Block.{Block}
use Rattle.adv_base.specs.declared.workload.parts.Slot.{Slot}
use Rattle.adv_base.specs.Items.{Order}
use Rattle.adv_base.specs.Configs.{chosen}
use Rattle.adv_base.specs.Lookups.{table_at}
use Rattle.adv_base.specs.Access.{index_price, table_price, index_order}

-- an order and a price, in thousandths of a page read
abbrev pub Offer : Type 0
Offer = Order × ℕ

-- the offers of each slot, by number
abbrev pub OfferTable : Type 0
OfferTable = ℕ → List Offer

-- an access path: the whole table, an index that exists, or a candidate with its number, from 1
pub data Path : Type 0 where
  Heap : Path
  Existing : Index → Path
  Candidate : ℕ → IndexShape → Path

-- ## The paths to a table

abbrev pub candidate_path : ℕ × IndexShape → Path
candidate_path numbered = Candidate numbered.0 numbered.1

-- the candidates of a configuration, each with its number from 1
abbrev pub numbered_in : List IndexShape → Config → List (ℕ × IndexShape)
numbered_in shapes config = chosen config.on (enumerate_from 1 shapes)

-- those of them that are on a table
abbrev pub numbered_on : List IndexShape → Config → ℕ → List (ℕ × IndexShape)
numbered_on shapes config t = filter (λ numbered. numbered.1.table == t) (numbered_in shapes config)

-- the table, its indexes in catalogue order, and the configuration's candidates on it in increasing number
abbrev pub paths_on : List IndexShape → Config → ℕ → Table → List Path
paths_on shapes config t table =
    Heap ∷ (map Existing table.indexes ++ map candidate_path (numbered_on shapes config t))

abbrev pub path_shape : Path → Option IndexShape
path_shape Heap = None
path_shape (Existing index) = Some index.shape
path_shape (Candidate number shape) = Some shape

abbrev pub path_candidate : Path → Option ℕ
path_candidate (Candidate number shape) = Some number
path_candidate path = None

abbrev pub paths_in : List IndexShape → Config → ℕ → Option Table → List Path
paths_in shapes config t (Some table) = paths_on shapes config t table
paths_in shapes config t None = []

abbrev pub paths_of : Catalogue → List IndexShape → Config → Option Slot → List Path
paths_of cat shapes config (Some slot) = paths_in shapes config slot.table (table_at cat slot.table)
paths_of cat shapes config None = []

-- the paths of slot s of the block under the configuration
unfoldable pub paths : Catalogue → Block → List IndexShape → Config → ℕ → List Path
paths cat block shapes config s = paths_of cat shapes config (slice_get block.slots s)

-- which candidate the path of a number is, by the candidate's own number; none for the table and an index that exists
abbrev pub path_candidate_at : Catalogue → Block → List IndexShape → Config → ℕ → ℕ → Option ℕ
path_candidate_at cat block shapes config s path = option_and_then path_candidate (slice_get (paths cat block shapes config s) path)

-- ## Offers

abbrev pub index_offer : Catalogue → Block → ℕ → Slot → Table → IndexShape → Offer
index_offer cat block s slot table shape = (index_order block s shape.keys, index_price cat block s slot table shape)

-- what a path offers slot s
abbrev pub path_offer : Catalogue → Block → ℕ → Slot → Table → Path → Offer
path_offer cat block s slot table Heap = ([], table_price cat table)
path_offer cat block s slot table (Existing index) = index_offer cat block s slot table index.shape
path_offer cat block s slot table (Candidate number shape) = index_offer cat block s slot table shape

-- the same where a candidate is charged for its use: a slot, from 0, and a candidate's number, from 1, have a charge
abbrev pub charged_path_offer : (ℕ → ℕ → ℕ) → Catalogue → Block → ℕ → Slot → Table → Path → Offer
charged_path_offer charge cat block s slot table (Candidate number shape) =
    (index_order block s shape.keys, index_price cat block s slot table shape + charge s number)
charged_path_offer charge cat block s slot table path = path_offer cat block s slot table path

abbrev pub offers_on : Catalogue → Block → List IndexShape → Config → ℕ → Slot → Option Table → List Offer
offers_on cat block shapes config s slot (Some table) =
    map (path_offer cat block s slot table) (paths_on shapes config slot.table table)
offers_on cat block shapes config s slot None = []

abbrev pub offers_of : Catalogue → Block → List IndexShape → Config → ℕ → Option Slot → List Offer
offers_of cat block shapes config s (Some slot) = offers_on cat block shapes config s slot (table_at cat slot.table)
offers_of cat block shapes config s None = []

-- the offers of slot s of the block under the configuration
unfoldable pub offers : Catalogue → Block → List IndexShape → Config → OfferTable
offers cat block shapes config s = offers_of cat block shapes config s (slice_get block.slots s)

abbrev pub charged_offers_on : (ℕ → ℕ → ℕ) → Catalogue → Block → List IndexShape → Config → ℕ → Slot → Option Table → List Offer
charged_offers_on charge cat block shapes config s slot (Some table) =
    map (charged_path_offer charge cat block s slot table) (paths_on shapes config slot.table table)
charged_offers_on charge cat block shapes config s slot None = []

abbrev pub charged_offers_of : (ℕ → ℕ → ℕ) → Catalogue → Block → List IndexShape → Config → ℕ → Option Slot → List Offer
charged_offers_of charge cat block shapes config s (Some slot) =
    charged_offers_on charge cat block shapes config s slot (table_at cat slot.table)
charged_offers_of charge cat block shapes config s None = []

-- the same with a charge on each use of a candidate; a Lagrangian multiplier is one
unfoldable pub charged_offers : (ℕ → ℕ → ℕ) → Catalogue → Block → List IndexShape → Config → OfferTable
charged_offers charge cat block shapes config s = charged_offers_of charge cat block shapes config s (slice_get block.slots s)
