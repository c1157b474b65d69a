use Rattle.std.proofs.Common.{ℤ, sym, subst, rules}
use Rattle.plan_model.specs.Lagrangian.{IsLagrangian}
use Rattle.bip_model.specs.Views.{node_of, multipliers_of}
use Rattle.lagrange_bound.proofs.SummandLimits.{summands-below}
use Rattle.lagrange_bound.proofs.StandingValue.{lagrangian-is}
use Rattle.lagrange_bound.proofs.bounds.bound.Goals as goal

pub returns-clause-exact : goal.returns-clause-exact
returns-clause-exact c = search (c.value_of, rules)

pub returns-clause-summands : goal.returns-clause-summands
returns-clause-summands c = summands-below c.args.programme.now c.args.budget c.args.fix.now c.args.multipliers.now c.requires.budget c.requires.multipliers

pub returns-clause-lagrangian : goal.returns-clause-lagrangian
returns-clause-lagrangian c = λ setting limits stands.
    subst (λ (value : ℤ). IsLagrangian setting c.args.budget (node_of c.args.fix.now) (multipliers_of c.args.programme.now c.args.multipliers.now) value) (sym (returns-clause-exact c))
    (lagrangian-is setting c.args.programme.now c.args.budget c.args.fix.now c.args.multipliers.now limits stands c.requires.multipliers)
