use Rattle.plan_model.proofs.Exchanging.{cost-splits, whole-cost-splits}
use Rattle.plan_model.proofs.laws.cost_splits.Goals as goal

pub returns-clause-plan : goal.returns-clause-plan
returns-clause-plan c = cost-splits

pub returns-clause-whole : goal.returns-clause-whole
returns-clause-whole c = whole-cost-splits
