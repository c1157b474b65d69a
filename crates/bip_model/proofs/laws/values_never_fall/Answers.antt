use Rattle.bip_model.proofs.Descending.{useful-branches, value-below, space-below}
use Rattle.bip_model.proofs.laws.values_never_fall.Goals as goal

pub returns-clause-value : goal.returns-clause-value
returns-clause-value c = λ setting budget root tree multipliers above value i s limits worthwhile found at_root here.
    value-below setting budget root tree multipliers above value limits (useful-branches setting budget root tree worthwhile) i s found at_root here

pub returns-clause-space : goal.returns-clause-space
returns-clause-space c = λ setting budget root tree i s worthwhile space found. space-below setting budget root tree (useful-branches setting budget root tree worthwhile) space i s found
