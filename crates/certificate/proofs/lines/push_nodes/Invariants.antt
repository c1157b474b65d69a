use Rattle.std.proofs.Common.{◌≡◌, ◌++◌, drop}
use Rattle.certificate.specs.inner.Writing.{nodes_text}
use Rattle.certificate.proofs.lines.push_nodes.Given as goal

-- the lines so far, and those of the nodes that are left, are those of all
abbrev pub invariant-nodes : goal.invariant-nodes
invariant-nodes l = l.out.items ++ nodes_text (drop l.at l.nodes) ≡ l.initial.out.items ++ nodes_text l.nodes
