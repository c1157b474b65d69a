-- The path of a catalogue's key, as it is printed: `table[2].column[1].width`.
use Rattle.std.specs.Prelude.{ℕ, ◌==◌, if◌then◌else◌, List, [], ◌++◌, codes, decimal}
use Rattle.catalogue.specs.declared.fault.KeyField.{KeyField}
use Rattle.catalogue.specs.declared.fault.KeyField.TheVariants.{Itself, Version, SeqPage, RandPage, RowCpu, SortCpu, MergeCpu, HashCpu, GroupCpu, Name, Rows, Pages, MayCluster, Columns, Indexes, Kind, Width, Distinct, Low, High, Bounds, Keys, Unique, Clustered}
use Rattle.catalogue.specs.declared.fault.KeyPart.{KeyPart}
use Rattle.catalogue.specs.declared.fault.KeyPart.TheVariants.{Whole, Rates, Table, Column, Index}
use Rattle.catalogue.specs.declared.fault.KeyPath.{KeyPath}

-- a key as the catalogue spells it
abbrev pub field_word : KeyField → List ℕ
field_word Itself = []
field_word Version = codes "version"
field_word SeqPage = codes "seq_page"
field_word RandPage = codes "rand_page"
field_word RowCpu = codes "row_cpu"
field_word SortCpu = codes "sort_cpu"
field_word MergeCpu = codes "merge_cpu"
field_word HashCpu = codes "hash_cpu"
field_word GroupCpu = codes "group_cpu"
field_word Name = codes "name"
field_word Rows = codes "rows"
field_word Pages = codes "pages"
field_word MayCluster = codes "may_cluster"
field_word Columns = codes "column"
field_word Indexes = codes "index"
field_word Kind = codes "kind"
field_word Width = codes "width"
field_word Distinct = codes "distinct"
field_word Low = codes "low"
field_word High = codes "high"
field_word Bounds = codes "bounds"
field_word Keys = codes "keys"
field_word Unique = codes "unique"
field_word Clustered = codes "clustered"

-- a number in brackets; 0 is none
abbrev pub bracket : ℕ → List ℕ
bracket number = if number == 0 then [] else (codes "[" ++ (decimal number ++ codes "]"))

-- a point and the key; nothing where the part itself is meant
abbrev pub dotted : KeyField → List ℕ
dotted Itself = []
dotted field = codes "." ++ field_word field

-- a key of a column or an index
abbrev pub item_path : List ℕ → KeyPath → List ℕ
item_path word path =
    codes "table" ++ (bracket path.table ++ (word ++ (bracket path.item ++ (dotted path.field ++ bracket path.at))))

abbrev pub path_of : KeyPart → KeyPath → List ℕ
path_of Whole path = field_word path.field
path_of Rates path = codes "rates" ++ dotted path.field
path_of Table path = codes "table" ++ (bracket path.table ++ dotted path.field)
path_of Column path = item_path (codes ".column") path
path_of Index path = item_path (codes ".index") path

abbrev pub path_text : KeyPath → List ℕ
path_text path = path_of path.part path
