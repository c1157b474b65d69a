-- The setting that two files describe, or the first refusal of them.
use Rattle.std.specs.Prelude.{◌≡◌, ◌≢◌, ℕ, List, Ok, Err}
use Rattle.adv_base.specs.declared.catalogue.Catalogue.{Catalogue}
use Rattle.adv_base.specs.declared.workload.Statement.{Statement}
use Rattle.binder.specs.Plain.{plain_statements}
use Rattle.binder.specs.Statements.{statements_of}
use Rattle.binder.specs.declared.fault.BindFault.{BindFault}
use Rattle.binder.specs.declared.fault.BindFault.TheVariants as bind
use Rattle.candidates.specs.Candidates.{AreCandidates}
use Rattle.catalogue.specs.Catalogue.{catalogue_in}
use Rattle.catalogue.specs.Content.{plain_catalogue}
use Rattle.catalogue.specs.declared.fault.CatFault.{CatFault}
use Rattle.catalogue.specs.declared.fault.CatFault.TheVariants as cat
use Rattle.sql_reader.specs.Workload.{IsWorkload, HasSqlFault}
use Rattle.sql_reader.specs.declared.parsed.ParsedStatement.{ParsedStatement}
use Rattle.sql_reader.specs.declared.parsed.SqlFault.{SqlFault}
use Rattle.adv_base.specs.Settings.{TheSetting}
use Rattle.report.specs.declared.done.Refusal.{Refusal}
use Rattle.report.specs.declared.done.Refusal.TheVariants.{Cat, Sql, Bind}

-- the catalogue that bytes describe
abbrev pub IsCatalogueOf : List ℕ → Catalogue → Type 0
IsCatalogueOf bytes catalogue = catalogue_in bytes ≡ Ok (plain_catalogue catalogue)

-- the statements that a text means over a catalogue
pub record AreStatementsOf (catalogue : Catalogue) (text : List ℕ) (statements : List Statement) : Type 0 where
  pub parsed : List ParsedStatement
  pub is_workload : IsWorkload text parsed
  pub bound : statements_of catalogue text parsed ≡ Ok (plain_statements statements)

-- the setting of a catalogue's and a workload's bytes, and how many candidates were left over
pub record IsSetting (cat_bytes load_bytes : List ℕ) (setting : TheSetting) (left_over : ℕ) : Type 0 where
  pub catalogue_is : IsCatalogueOf cat_bytes setting.cat
  pub statements_are : AreStatementsOf setting.cat load_bytes setting.statements
  pub candidates_are : AreCandidates setting.cat setting.statements setting.shapes left_over

-- the first fault of a catalogue's bytes
pub record HasCatFault (bytes : List ℕ) (fault : CatFault) : Type 0 where
  pub no_memory : fault ≢ cat.Memory
  pub first : catalogue_in bytes ≡ Err fault

-- the catalogue has no fault, and this is the workload's first
pub record IsSqlRefusal (cat_bytes load_bytes : List ℕ) (fault : SqlFault) : Type 0 where
  pub catalogue : Catalogue
  pub catalogue_is : IsCatalogueOf cat_bytes catalogue
  pub first : HasSqlFault load_bytes fault

-- the names of a workload have this fault first, over a catalogue
pub record HasBindFault (catalogue : Catalogue) (text : List ℕ) (fault : BindFault) : Type 0 where
  pub parsed : List ParsedStatement
  pub is_workload : IsWorkload text parsed
  pub no_memory : fault ≢ bind.Memory
  pub first : statements_of catalogue text parsed ≡ Err fault

-- neither the catalogue nor the workload's text has a fault, and this is the first of the workload's names
pub record IsBindRefusal (cat_bytes load_bytes : List ℕ) (fault : BindFault) : Type 0 where
  pub catalogue : Catalogue
  pub catalogue_is : IsCatalogueOf cat_bytes catalogue
  pub first : HasBindFault catalogue load_bytes fault

-- the first refusal of two files as a setting
abbrev pub IsSettingRefusal : List ℕ → List ℕ → Refusal → Type 0
IsSettingRefusal cat_bytes load_bytes (Cat fault) = HasCatFault cat_bytes fault
IsSettingRefusal cat_bytes load_bytes (Sql fault) = IsSqlRefusal cat_bytes load_bytes fault
IsSettingRefusal cat_bytes load_bytes (Bind fault) = IsBindRefusal cat_bytes load_bytes fault
IsSettingRefusal cat_bytes load_bytes why = ⊥
