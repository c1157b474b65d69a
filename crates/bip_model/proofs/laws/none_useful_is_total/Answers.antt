use Rattle.bip_model.proofs.Unrented.{useless-total}
use Rattle.bip_model.proofs.laws.none_useful_is_total.Goals as goal

pub returns : goal.returns
returns c = useless-total
