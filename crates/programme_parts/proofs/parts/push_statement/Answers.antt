use Rattle.std.proofs.Common.{sym}
use Rattle.adv_base.specs.Settings.{the_setting}
use Rattle.programme_parts.proofs.Statements.{parts-same}
use Rattle.programme_parts.proofs.parts.push_statement.Goals as goal

pub returns-in-None : goal.returns-in-None
returns-in-None c =
    parts-same (the_setting c.args.setting.now) c.args.at c.args.statement.now c.args.parts.now.items c.requires.found (sym c.in-None.ensures) c.requires.before
