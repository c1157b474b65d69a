use Rattle.plan_model.proofs.Exists.{has-plan}
use Rattle.plan_model.proofs.AsksNothing.{some-asks-nothing}
use Rattle.plan_model.proofs.laws.plans_exist.Goals as goal

pub returns-clause-plan : goal.returns-clause-plan
returns-clause-plan c = has-plan

pub returns-clause-template : goal.returns-clause-template
returns-clause-template c = some-asks-nothing
