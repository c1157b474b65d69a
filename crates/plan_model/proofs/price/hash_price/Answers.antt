use Rattle.plan_model.specs.Costs.{hash_cost}
use Rattle.plan_model.proofs.price.hash_price.Goals as goal

pub returns-clause-exact : goal.returns-clause-exact
unfolding hash_cost
returns-clause-exact c = cc
