use Rattle.certificate.proofs.InOrder.{standing-in-order}
use Rattle.certificate.proofs.laws.standing_programmes_are_in_order.Goals as goal

pub returns : goal.returns
returns c = standing-in-order
