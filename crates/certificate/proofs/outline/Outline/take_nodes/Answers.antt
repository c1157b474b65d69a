use Rattle.std.proofs.Common.{◌≡◌, ℕ, subst, arith}
use Rattle.std.proofs.lemmas.Bool.Decides.{nat_tests}
use Rattle.certificate.specs.inner.Outlines.{with_tree}
use Rattle.certificate.specs.inner.Steps.{Takes, NodeStep}
use Rattle.certificate.proofs.outline.Outline.take_nodes.Goals as goal

pub returns-else-self-gt0 : goal.returns-else-self-gt0
returns-else-self-gt0 c = λ tree.
    let none : 0 ≡ c.args.self.now.nodes_left = grind (arith, nat_tests) in
    subst (λ (n : ℕ). Takes c.take_end.result (NodeStep n (with_tree c.args.self.now tree) c.args.line.now) c.take_end.new.self tree) none (c.take_end.ensures tree)
