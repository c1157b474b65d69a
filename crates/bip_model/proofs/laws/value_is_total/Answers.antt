use Rattle.bip_model.proofs.Standing.{part-least}
use Rattle.bip_model.proofs.Totalling.{value-total}
use Rattle.bip_model.proofs.laws.value_is_total.Goals as goal

pub returns-clause-total : goal.returns-clause-total
returns-clause-total c = value-total

pub returns-clause-part : goal.returns-clause-part
returns-clause-part c = λ setting blocked part config named is. record { task = is.task; task_is = is.task_is; least = part-least setting blocked part config named is }
