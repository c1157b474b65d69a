use Rattle.adv_base.specs.Settings.{the_setting}
use Rattle.retune.specs.inner.Renewing.{AreRenewed}
use Rattle.retune.proofs.renewing.renewed.Given as goal

abbrev pub invariant-loop-at : goal.invariant-loop-at
invariant-loop-at l = AreRenewed (the_setting l.setting) l.changed l.at l.renewed.items
