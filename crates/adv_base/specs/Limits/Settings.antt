-- Limits of settings.
use Rattle.std.specs.Prelude.{ℕ, ◌≤◌, List, length, All, sum_by}
use Rattle.adv_base.specs.declared.limits.TheConstants.{MOST_STATEMENTS, MOST_SLOTS_IN_ALL, MOST_CANDIDATES}
use Rattle.adv_base.specs.declared.catalogue.Catalogue.{Catalogue}
use Rattle.adv_base.specs.declared.catalogue.index.IndexShape.{IndexShape}
use Rattle.adv_base.specs.declared.workload.Statement.{Statement}
use Rattle.adv_base.specs.declared.workload.Work.{Work}
use Rattle.adv_base.specs.declared.workload.Work.TheVariants.{Select, Update, Delete, Insert}
use Rattle.adv_base.specs.Named.{NamesWork, NamesShape}

-- how many slots a statement has
abbrev pub slot_count : Work → ℕ
slot_count (Select block) = length block.slots
slot_count (Update block columns) = length block.slots
slot_count (Delete block) = length block.slots
slot_count (Insert table rows) = 0

-- at most 1000 statements with 2000 slots and 256 candidates, all of which name what the catalogue has
pub record SettingLimits (cat : Catalogue) (statements : List Statement) (shapes : List IndexShape) : Type 0 where
  pub statements_most : length statements ≤ MOST_STATEMENTS
  pub slots_most : sum_by (λ statement. slot_count statement.work) statements ≤ MOST_SLOTS_IN_ALL
  pub shapes_most : length shapes ≤ MOST_CANDIDATES
  pub statements_named : All (λ statement. NamesWork cat statement.work) statements
  pub shapes_named : All (NamesShape cat) shapes
