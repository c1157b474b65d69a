-- Limits of tables.
use Rattle.std.specs.Prelude.{ℕ, ◌<◌, ◌≤◌, List, length, All}
use Rattle.adv_base.specs.declared.limits.TheConstants.{MOST_ROWS, MOST_PAGES, MOST_COLUMNS}
use Rattle.adv_base.specs.declared.catalogue.column.Column.{Column}
use Rattle.adv_base.specs.declared.catalogue.index.Index.{Index}

-- counts up to 10^12, 1 to 200 columns, and indexes whose keys are among them
pub record TableLimits (rows pages : ℕ) (columns : List Column) (indexes : List Index) : Type 0 where
  pub rows_most : rows ≤ MOST_ROWS
  pub pages_most : pages ≤ MOST_PAGES
  pub columns_some : 1 ≤ length columns
  pub columns_most : length columns ≤ MOST_COLUMNS
  pub keys : All (λ index. All (λ key. key < length columns) index.shape.keys) indexes
