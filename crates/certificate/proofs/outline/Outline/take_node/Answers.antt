use Rattle.std.proofs.Common.{◌∙◌, ℕ, sym, subst, arith}
use Rattle.certificate.specs.Limits.{NodeLimits}
use Rattle.certificate.specs.inner.Outlines.{with_tree}
use Rattle.certificate.proofs.Taken.{no-node}
use Rattle.certificate.proofs.outline.Outline.take_node.Goals as goal

pub returns-then-not-trees_fit : goal.returns-then-not-trees_fit
returns-then-not-trees_fit c = λ tree f step.
    no-node c.args.self.now.nodes_left (with_tree c.args.self.now tree) f c.args.line.now c.in-Some.node c.requires.more (omega (arith, c.requires.fits.few_sets)) (subst (λ (k : ℕ). NodeLimits k c.in-Some.node) c.len.ensures c.in-Some.ensures.0) c.in-Some.ensures.1
    (λ low none. c.trees_fit.ensures.not c.if-not-trees_fit.true (omega (arith, low, c.trees_after-trees.ensures)) (λ z. none (sym c.trees_after-trees.ensures ∙ z))) step
