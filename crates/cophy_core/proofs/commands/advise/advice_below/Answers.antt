use Rattle.std.proofs.Common.{refl}
use Rattle.adv_base.specs.Settings.{the_setting}
use Rattle.bip_model.specs.Best.{IsBest, sets_in}
use Rattle.bip_model.specs.Trees.{ByFit}
use Rattle.bip_model.specs.Views.{node_of}
use Rattle.cophy_core.proofs.Advising.{is_bounded}
use Rattle.cophy_core.proofs.commands.advise.advice_below.Goals as goal

pub returns-clause-advice : goal.returns-clause-advice
returns-clause-advice c =
    let setting = the_setting c.args.setting.now in
    let root = node_of c.args.root.now in
    let answer = c.search-answer.result in
    let best : IsBest setting c.args.budget c.args.nodes root answer = c.search-answer.ensures setting c.args.setting.now.limits c.requires.stands refl in
    record {
      budget_is = refl;
      nodes_is = refl;
      left_over_is = c.requires.found.rest;
      few = c.requires.few;
      flags = c.has_all_flags.ensures;
      best = best;
      bounds = λ other total members fits below is.
          c.shown_bounds.ensures.proof ByFit setting c.args.budget root answer.config answer.cost answer.bound (sets_in setting answer) answer.tree other total
          c.args.setting.now.limits best.proves members fits below is;
    }

pub returns-clause-bounded : goal.returns-clause-bounded
returns-clause-bounded c =
    let setting = the_setting c.args.setting.now in
    is_bounded setting c.args.budget c.args.nodes _ c.search-answer.result c.args.setting.now.limits
    (c.search-answer.ensures setting c.args.setting.now.limits c.requires.stands refl)
