use Rattle.std.proofs.Common.{arith}
use Rattle.std.proofs.lemmas.Grind.{common_steps}
use Rattle.std.proofs.lemmas.Option.{slice_get_cases}
use Rattle.plan_model.specs.declared.edge.TaskEdge.{TaskEdge}
use Rattle.plan_model.proofs.lines.push_merge.Goals as goal

pub returns-in_ok-push-in-Some : goal.returns-in_ok-push-in-Some
returns-in_ok-push-in-Some c = grind (arith, common_steps, slice_get_cases {X = TaskEdge})

pub returns-in-None : goal.returns-in-None
returns-in-None c = grind (arith, common_steps, slice_get_cases {X = TaskEdge})
