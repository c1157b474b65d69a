use Rattle.plan_model.proofs.TotalBound.{total-below}
use Rattle.plan_model.proofs.laws.total_stays_below.Goals as goal

pub returns : goal.returns
returns c = total-below
