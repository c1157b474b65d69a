-- When a setting has no programme: some block has more combinations of interesting orders than a cache of plans takes.
use Rattle.adv_base.specs.Settings.{TheSetting}
use Rattle.programme_parts.specs.Combinations.{IsFirstBeyond}
use Rattle.tuning.specs.declared.fault.TuneFault.{TuneFault}
use Rattle.tuning.specs.declared.fault.TuneFault.TheVariants.{Memory, TooManyCombinations}

-- what a fault says of the setting; want of memory says nothing
abbrev pub IsCause : TheSetting → TuneFault → Type 0
IsCause setting Memory = Unit {0}
IsCause setting (TooManyCombinations n count) = IsFirstBeyond setting.cat setting.statements n count
