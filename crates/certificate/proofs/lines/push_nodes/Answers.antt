use Rattle.std.proofs.Common.{◌∙◌, ◌++◌, ℕ, List, sym, ap, append-nil, refl}
use Rattle.certificate.proofs.WriteLaws.{nodes-turn, nodes-end, turn-over}
use Rattle.certificate.proofs.lines.push_nodes.Goals as goal

pub nodes-preserved : goal.nodes-preserved
nodes-preserved c =
    turn-over c.nodes.out.items c.push_node.new.out.items _ _ _ _ _ c.in_ok-push_node.ensures refl refl (nodes-turn c.nodes.at c.args.nodes.now _ _ c.nodes-test.true refl)
    ∙ c.nodes.invariant

pub returns : goal.returns
returns c =
    let end = nodes-end c.nodes.at c.args.nodes.now c.nodes-test.false in
    sym (append-nil c.nodes.out.items) ∙ ap (λ (xs : List ℕ). c.nodes.out.items ++ xs) (sym end) ∙ c.nodes.invariant
