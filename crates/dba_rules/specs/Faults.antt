-- Readings of rules, each of which gives a value or the first fault.
use Rattle.std.specs.Prelude.{Result}
use Rattle.adv_base.specs.Readings.{GivesUnless}
use Rattle.dba_rules.specs.declared.fault.RuleFault.{RuleFault}
use Rattle.dba_rules.specs.declared.fault.RuleFault.TheVariants.{Memory}

-- what a function returned, seen by view, is what reading gives, unless memory ran out
abbrev pub Gives : {X Y : Type 0} → (X → Y) → Result X RuleFault → Result Y RuleFault → Type 0
Gives view result read = GivesUnless Memory view result read
