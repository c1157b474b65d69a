use Rattle.bip_model.specs.Trees.{in_side, out_side}
use Rattle.bip_model.proofs.Fixing.{narrower-value, out-narrower, in-narrower}
use Rattle.bip_model.proofs.laws.fixing_never_lowers.Goals as goal

pub returns-clause-out : goal.returns-clause-out
returns-clause-out c = λ setting budget node a multipliers before after limit branch old new.
    narrower-value setting budget node (out_side node a) multipliers before after limit (out-narrower setting budget node a branch) old new

pub returns-clause-inside : goal.returns-clause-inside
returns-clause-inside c = λ setting budget node a multipliers before after limit branch open' old new.
    narrower-value setting budget node (in_side node a) multipliers before after limit (in-narrower setting budget node a branch open') old new
