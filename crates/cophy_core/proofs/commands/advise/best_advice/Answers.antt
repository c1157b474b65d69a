use Rattle.std.proofs.Common.{subst}
use Rattle.adv_base.specs.Nodes as nodes
use Rattle.adv_base.specs.Settings.{the_setting}
use Rattle.cophy_core.specs.commands.Advise.{IsAdviceFrom}
use Rattle.branch_bound.proofs.Roots.{root-starts}
use Rattle.cophy_core.proofs.Advising.{from_free}
use Rattle.cophy_core.proofs.commands.advise.best_advice.Goals as goal

pub advice_below-requires-clause-root : goal.advice_below-requires-clause-root
advice_below-requires-clause-root c = root-starts c.args.programme.now c.args.setting.now.shapes.now c.args.budget c.free-root.result c.free-root.ensures.states

pub returns-clause-advice : goal.returns-clause-advice
returns-clause-advice c =
    let setting = the_setting c.args.setting.now in
    let advice = c.in_ok-advice.advice in
    from_free c.args.budget c.args.nodes setting advice
    (subst (λ (node : nodes.Node). IsAdviceFrom node c.args.budget c.args.nodes setting advice) c.free-root.ensures.node c.in_ok-advice.ensures.advice)
