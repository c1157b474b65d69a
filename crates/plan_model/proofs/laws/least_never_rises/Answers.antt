use Rattle.plan_model.proofs.Comparing.{least-never-rises, added-never-raises}
use Rattle.plan_model.proofs.laws.least_never_rises.Goals as goal

pub returns-clause-better : goal.returns-clause-better
returns-clause-better c = least-never-rises

pub returns-clause-added : goal.returns-clause-added
returns-clause-added c = added-never-raises
