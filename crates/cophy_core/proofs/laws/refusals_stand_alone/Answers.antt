use Rattle.cophy_core.proofs.OneRefusal.{refusal_alone}
use Rattle.cophy_core.proofs.laws.refusals_stand_alone.Goals as goal

pub returns : goal.returns
returns c = refusal_alone
