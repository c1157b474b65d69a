-- What a catalogue holds, without the proofs of its limits.
use Rattle.std.specs.Prelude.{ℕ, Bool, ℤ, List, map, Option}
use Rattle.adv_base.specs.declared.catalogue.Catalogue.{Catalogue}
use Rattle.adv_base.specs.declared.catalogue.column.Column.{Column}
use Rattle.adv_base.specs.declared.catalogue.column.Kind.{Kind}
use Rattle.adv_base.specs.declared.catalogue.index.Index.{Index}
use Rattle.adv_base.specs.declared.catalogue.index.IndexShape.{IndexShape}
use Rattle.adv_base.specs.declared.catalogue.rates.Rates.{Rates}
use Rattle.adv_base.specs.declared.catalogue.table.Table.{Table}

pub record PlainColumn : Type 0 where
  pub name : List ℕ
  pub kind : Kind
  pub width : ℕ
  pub distinct : Option ℕ
  pub low : Option ℤ
  pub high : Option ℤ
  pub bounds : List ℤ

-- an index's shape names the table that holds it and its key columns by their numbers from 0
pub record PlainShape : Type 0 where
  pub table : ℕ
  pub keys : List ℕ
  pub unique : Bool
  pub clustered : Bool

-- an index is a name and a shape
pub record PlainIndex : Type 0 where
  pub name : List ℕ
  pub table : ℕ
  pub keys : List ℕ
  pub unique : Bool
  pub clustered : Bool

pub record PlainTable : Type 0 where
  pub name : List ℕ
  pub rows : ℕ
  pub pages : ℕ
  pub may_cluster : Bool
  pub columns : List PlainColumn
  pub indexes : List PlainIndex

pub record PlainRates : Type 0 where
  pub seq_page : ℕ
  pub rand_page : ℕ
  pub row_cpu : ℕ
  pub sort_cpu : ℕ
  pub merge_cpu : ℕ
  pub hash_cpu : ℕ
  pub group_cpu : ℕ

pub record PlainCatalogue : Type 0 where
  pub rates : PlainRates
  pub tables : List PlainTable

abbrev pub plain_column : Column → PlainColumn
plain_column x = record { name = x.name; kind = x.kind; width = x.width; distinct = x.distinct; low = x.low; high = x.high; bounds = x.bounds }

abbrev pub plain_shape : IndexShape → PlainShape
plain_shape x = record { table = x.table; keys = x.keys; unique = x.unique; clustered = x.clustered }

abbrev pub plain_index : Index → PlainIndex
plain_index x = record { name = x.name; table = x.shape.table; keys = x.shape.keys; unique = x.shape.unique; clustered = x.shape.clustered }

abbrev pub plain_columns : List Column → List PlainColumn
plain_columns xs = map plain_column xs

abbrev pub plain_indexes : List Index → List PlainIndex
plain_indexes xs = map plain_index xs

abbrev pub plain_table : Table → PlainTable
plain_table x = record { name = x.name; rows = x.rows; pages = x.pages; may_cluster = x.may_cluster; columns = plain_columns x.columns; indexes = plain_indexes x.indexes }

abbrev pub plain_tables : List Table → List PlainTable
plain_tables xs = map plain_table xs

abbrev pub plain_rates : Rates → PlainRates
plain_rates x = record { seq_page = x.seq_page; rand_page = x.rand_page; row_cpu = x.row_cpu; sort_cpu = x.sort_cpu; merge_cpu = x.merge_cpu; hash_cpu = x.hash_cpu; group_cpu = x.group_cpu }

abbrev pub plain_catalogue : Catalogue → PlainCatalogue
plain_catalogue x = record { rates = plain_rates x.rates; tables = plain_tables x.tables }
