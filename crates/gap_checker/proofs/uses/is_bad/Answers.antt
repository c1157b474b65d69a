use Rattle.adv_base.specs.Settings.{the_setting}
use Rattle.gap_checker.proofs.Naming.{bad-at, named-at}
use Rattle.gap_checker.proofs.uses.is_bad.Goals as goal

pub returns-clause-yes : goal.returns-clause-yes
returns-clause-yes c = λ h. bad-at (the_setting c.args.setting.now) c.args.set.now c.args.place c.entry_at-entry.result.now c.names_use.result c.entry_at-entry.ensures c.names_use.ensures h

pub returns-clause-no : goal.returns-clause-no
returns-clause-no c = λ h. named-at (the_setting c.args.setting.now) c.args.set.now c.args.place c.entry_at-entry.result.now c.names_use.result c.requires.limits.entries c.entry_at-entry.ensures c.names_use.ensures h
