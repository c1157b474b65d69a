-- What a write costs at the indexes of one table.
use Rattle.std.specs.Prelude.{ℕ, sum_by}
use Rattle.adv_base.specs.declared.catalogue.Catalogue.{Catalogue}
use Rattle.adv_base.specs.declared.catalogue.table.Table.{Table}
use Rattle.adv_base.specs.declared.workload.Work.{Work}
use Rattle.adv_base.specs.Upkeep.{upkeep}

-- the upkeep of the indexes that exist on a table
abbrev pub table_upkeep : Catalogue → Work → Table → ℕ
table_upkeep cat work table = sum_by (λ index. upkeep cat work index.shape) table.indexes
