use Rattle.adv_base.specs.Settings.{the_setting}
use Rattle.programme_parts.specs.inner.Prices.{ArePriced}
use Rattle.programme_parts.proofs.parts.slot_parts.Given as goal

abbrev pub invariant-loop-slot : goal.invariant-loop-slot
invariant-loop-slot l = ArePriced (the_setting l.setting) l.block l.cache l.slot l.parts.items
