-- The setting of what was read.
use Rattle.adv_base.specs.Settings.{TheSetting}
use Rattle.cophy_core.specs.declared.opened.Opened.{Opened}

abbrev pub setting_in : Opened → TheSetting
setting_in opened = record { cat = opened.cat; statements = opened.statements; shapes = opened.shapes }
