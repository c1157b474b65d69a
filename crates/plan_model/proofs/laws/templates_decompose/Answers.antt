use Rattle.plan_model.specs.Combinations.{IsIn}
use Rattle.plan_model.proofs.Decomposing.{enough-decompose}
use Rattle.plan_model.proofs.Listing.{each-decompose, kept-list-decompose}
use Rattle.plan_model.proofs.laws.templates_decompose.Goals as goal

pub returns-clause-enough : goal.returns-clause-enough
returns-clause-enough c = λ task templates enough table cost limits. enough-decompose task (IsIn task templates) enough table cost limits

pub returns-clause-each : goal.returns-clause-each
returns-clause-each c = each-decompose

pub returns-clause-kept : goal.returns-clause-kept
returns-clause-kept c = kept-list-decompose
