use Rattle.plan_model.proofs.Comparing.{least-one}
use Rattle.plan_model.proofs.laws.least_is_one.Goals as goal

pub returns : goal.returns
returns c = least-one
