use Rattle.bip_model.proofs.Counting.{tight-smaller}
use Rattle.bip_model.proofs.laws.trees_stay_small.Goals as goal

pub returns : goal.returns
returns c = tight-smaller
