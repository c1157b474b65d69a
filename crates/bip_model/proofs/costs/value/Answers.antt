use Rattle.std.proofs.Common.{◌≡◌, ℕ, ◌+◌, sym, subst, rules}
use Rattle.plan_model.specs.Totals.{IsTotal}
use Rattle.bip_model.specs.Values.{value}
use Rattle.bip_model.proofs.Totalling.{value-total}
use Rattle.bip_model.proofs.costs.value.Goals as goal

pub returns-clause-total : goal.returns-clause-total
unfolding value
returns-clause-total c setting limits stands =
    let exact : c.args.programme.now.kept + c.chosen_upkeep.result + c.weighted_plans.result ≡ value c.args.programme.now c.args.config.now = search rules in
    subst (λ (cost : ℕ). IsTotal setting.cat setting.shapes c.args.config.now setting.statements cost) (sym exact)
    (value-total setting c.args.programme.now c.args.config.now limits stands)
