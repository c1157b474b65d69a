-- Limits of catalogues.
use Rattle.std.specs.Prelude.{◌≡◌, ℕ, ◌≤◌, List, length, All, sum_by, slice_get, Some}
use Rattle.adv_base.specs.declared.limits.TheConstants.{MOST_TABLES, MOST_INDEXES}
use Rattle.adv_base.specs.declared.catalogue.table.Table.{Table}

-- at most 200 tables and 1000 indexes, each of which names the table that holds it
pub record CatalogueLimits (tables : List Table) : Type 0 where
  pub tables_most : length tables ≤ MOST_TABLES
  pub indexes_most : sum_by (λ table. length table.indexes) tables ≤ MOST_INDEXES
  pub own_table : (t : ℕ) (table : Table) → slice_get tables t ≡ Some table → All (λ index. index.shape.table ≡ t) table.indexes
