use Rattle.plan_model.proofs.Comparing.{raised-lies-between}
use Rattle.plan_model.proofs.laws.raised_lies_between.Goals as goal

pub returns : goal.returns
returns c = raised-lies-between
