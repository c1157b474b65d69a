use Rattle.plan_model.proofs.Exchanging.{leaves-exchange, whole-exchange}
use Rattle.plan_model.proofs.laws.leaves_exchange.Goals as goal

pub returns-clause-plan : goal.returns-clause-plan
returns-clause-plan c = leaves-exchange

pub returns-clause-whole : goal.returns-clause-whole
returns-clause-whole c = whole-exchange
