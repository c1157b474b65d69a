use Rattle.adv_base.specs.Settings.{the_setting}
use Rattle.cophy_core.proofs.commands.advise.advise.Goals as goal

pub certified-requires-clause-limits : goal.certified-requires-clause-limits
certified-requires-clause-limits c =
    let setting = the_setting c.args.setting.now in
    c.best_answers_keep_limits.ensures setting c.in_ok-programme.programme c.args.budget c.args.nodes _ c.in_ok-advice.advice.answer c.args.setting.now.limits
    c.in_ok-programme.ensures.stands c.requires.budget c.requires.nodes c.in_ok-advice.ensures.advice.best

pub certified-requires-clause-order : goal.certified-requires-clause-order
certified-requires-clause-order c =
    c.standing_programmes_are_in_order.ensures (the_setting c.args.setting.now) c.in_ok-programme.programme c.in_ok-programme.ensures.stands

pub returns-clause-puts : goal.returns-clause-puts
returns-clause-puts c = rw c.in_ok-advice.ensures.advice.budget_is c.in_ok-puts.ensures
