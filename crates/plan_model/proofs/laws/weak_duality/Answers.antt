use Rattle.plan_model.proofs.Duality.{weak-duality}
use Rattle.plan_model.proofs.laws.weak_duality.Goals as goal

pub returns : goal.returns
returns c = weak-duality
