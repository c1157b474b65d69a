use Rattle.plan_model.specs.Costs.{merge_cost}
use Rattle.plan_model.proofs.price.merge_price.Goals as goal

pub returns-clause-exact : goal.returns-clause-exact
unfolding merge_cost
returns-clause-exact c = cc
