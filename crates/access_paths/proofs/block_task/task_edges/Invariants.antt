use Rattle.std.proofs.Common.{◌≡◌, map, take}
use Rattle.plan_model.specs.BlockTask.{task_edge}
use Rattle.access_paths.proofs.block_task.task_edges.Given as goal

abbrev pub invariant-loop-edge : goal.invariant-loop-edge
invariant-loop-edge l = l.edges.items ≡ map (task_edge l.block) (take l.edge-index l.block.edges)
