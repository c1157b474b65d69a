use Rattle.std.proofs.Common.{◌≡◌, map, take}
use Rattle.adv_base.specs.Parts.{edge_part}
use Rattle.cardinality.proofs.ties.Ties.new.Given as goal

abbrev pub invariant-loop-edge : goal.invariant-loop-edge
invariant-loop-edge l = l.parts.items ≡ map (edge_part l.cat l.block) (take l.edge-index l.block.edges)
