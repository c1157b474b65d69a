-- Candidate indexes as they are printed: `2 t(a, b) 5 pages`, and `3 t(b) clustered 4 pages` for a clustered one.
use Rattle.std.specs.Prelude.{ℕ, ◌+◌, Bool, if◌then◌else◌, List, [], ◌∷◌, ◌++◌, codes, decimal, slice_get}
use Rattle.std.specs.List.{join_by}
use Rattle.std.specs.Option.{option_map_or}
use Rattle.adv_base.specs.declared.catalogue.Catalogue.{Catalogue}
use Rattle.adv_base.specs.declared.catalogue.index.IndexShape.{IndexShape}
use Rattle.adv_base.specs.declared.catalogue.table.Table.{Table}
use Rattle.adv_base.specs.declared.setting.Config.{Config}
use Rattle.adv_base.specs.Configs.{has_candidate}
use Rattle.adv_base.specs.Lookups as lookups
use Rattle.adv_base.specs.Sizes as sizes

-- the name of a table's column
abbrev pub column_words : Table → ℕ → List ℕ
column_words table c = option_map_or (λ column. column.name) (slice_get table.columns c) []

-- the columns of keys, with commas between them
abbrev pub key_words : Table → List ℕ → List ℕ
key_words table keys = join_by (column_words table) (codes ", ") keys

-- a table, and key columns in parentheses
abbrev pub index_words : Table → List ℕ → List ℕ
index_words table keys = table.name ++ (codes "(" ++ (key_words table keys ++ codes ")"))

-- those of an index
abbrev pub shape_words : Catalogue → IndexShape → List ℕ
shape_words cat shape = option_map_or (λ table. index_words table shape.keys) (lookups.table_at cat shape.table) []

abbrev pub cluster_words : Bool → List ℕ
cluster_words clustered = if clustered then codes " clustered" else []

-- a candidate by its number, its table and columns, whether it is clustered, and its pages
unfoldable pub candidate_words : Catalogue → ℕ → IndexShape → List ℕ
candidate_words cat number shape =
    decimal number ++ (codes " " ++ (shape_words cat shape ++ (cluster_words shape.clustered ++ (codes " " ++ (decimal (sizes.shape_pages cat shape) ++ codes " pages")))))

-- a line for each, numbered from there on
unfoldable pub candidate_lines : Catalogue → ℕ → List IndexShape → List ℕ
candidate_lines cat number [] = []
candidate_lines cat number (shape ∷ shapes) =
    candidate_words cat number shape ++ 10 ∷ [] ++ candidate_lines cat (number + 1) shapes

-- the line of a candidate that is picked; nothing for one that isn't
abbrev pub pick_line : Catalogue → Config → ℕ → IndexShape → List ℕ
pick_line cat config number shape =
    if has_candidate config number then codes "pick " ++ (candidate_words cat number shape ++ 10 ∷ []) else []

-- the lines of those of the candidates, numbered from there on, that are picked
unfoldable pub pick_lines : Catalogue → Config → ℕ → List IndexShape → List ℕ
pick_lines cat config number [] = []
pick_lines cat config number (shape ∷ shapes) = pick_line cat config number shape ++ pick_lines cat config (number + 1) shapes
