use Rattle.budget_sweep.proofs.CurveLaws.{curves-fall}
use Rattle.budget_sweep.proofs.laws.curves_fall.Goals as goal

pub returns-clause-fall : goal.returns-clause-fall
returns-clause-fall c = curves-fall
