-- Settings as definitions see them.
use Rattle.std.specs.Prelude.{List}
use Rattle.adv_base.specs.declared.catalogue.Catalogue.{Catalogue}
use Rattle.adv_base.specs.declared.catalogue.index.IndexShape.{IndexShape}
use Rattle.adv_base.specs.declared.setting.Setting.{Setting}
use Rattle.adv_base.specs.declared.workload.Statement.{Statement}
use Rattle.adv_base.specs.Limits.Settings.{SettingLimits}

-- what advice is asked about: a catalogue, the statements of a workload, and candidate indexes, numbered from 1
pub record TheSetting : Type 0 where
  pub cat : Catalogue
  pub statements : List Statement
  pub shapes : List IndexShape

abbrev pub KeepsLimits : TheSetting → Type 0
KeepsLimits setting = SettingLimits setting.cat setting.statements setting.shapes

-- a setting that a function has, as definitions see it
abbrev pub the_setting : Setting → TheSetting
the_setting setting = record { cat = setting.cat.now; statements = setting.statements.now; shapes = setting.shapes.now }
