use Rattle.adv_base.specs.Settings.{the_setting}
use Rattle.cophy_core.proofs.Obeying.{root_starts}
use Rattle.cophy_core.proofs.commands.ruled.ruled.Goals as goal

pub advice_below-requires-clause-root : goal.advice_below-requires-clause-root
advice_below-requires-clause-root c =
    root_starts (the_setting c.args.setting.now) c.in_ok-programme.programme c.args.budget c.in_ok-root.root c.in_ok-programme.ensures.stands c.in_ok-root.ensures.root.fits c.in_ok-root.ensures.past

pub certified-requires-clause-limits : goal.certified-requires-clause-limits
certified-requires-clause-limits c =
    let setting = the_setting c.args.setting.now in
    c.best_answers_keep_limits.ensures setting c.in_ok-programme.programme c.args.budget c.args.nodes _ c.in_ok-advice.advice.answer c.args.setting.now.limits
    c.in_ok-programme.ensures.stands c.requires.budget c.requires.nodes c.in_ok-advice.ensures.advice.best

pub certified-requires-clause-order : goal.certified-requires-clause-order
certified-requires-clause-order c =
    c.standing_programmes_are_in_order.ensures (the_setting c.args.setting.now) c.in_ok-programme.programme c.in_ok-programme.ensures.stands
