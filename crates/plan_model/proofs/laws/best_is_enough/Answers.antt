use Rattle.plan_model.proofs.Comparing.{best-is-enough}
use Rattle.plan_model.proofs.laws.best_is_enough.Goals as goal

pub returns : goal.returns
returns c = best-is-enough
