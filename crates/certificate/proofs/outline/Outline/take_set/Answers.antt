use Rattle.certificate.specs.inner.Outlines.{with_tree}
use Rattle.certificate.proofs.Taken.{body-set}
use Rattle.certificate.proofs.outline.Outline.take_set.Goals as goal

pub returns-in_ok-close-in-Some : goal.returns-in_ok-close-in-Some
returns-in_ok-close-in-Some c = λ tree. body-set c.args.self.now.sets_left (with_tree c.args.self.now tree) _ c.args.line.now _ _ c.requires.more c.in-Some.ensures (c.in_ok-close-in-Some.ensures tree)
