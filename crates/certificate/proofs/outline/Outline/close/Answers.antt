use Rattle.std.proofs.Common.{◌∙◌}
use Rattle.certificate.specs.inner.Outlines.{with_tree}
use Rattle.certificate.proofs.Taken.{closed-none, closed-more}
use Rattle.certificate.proofs.outline.Outline.close.Goals as goal

pub returns-in_ok-put_set : goal.returns-in_ok-put_set
returns-in_ok-put_set c = λ tree.
    closed-none (with_tree c.args.self.now tree) c.put_set.new.sets c.replace-entries.new.dest c.replace-entries.result c.if-self-eq0.true c.in_ok-put_set.ensures
    c.replace-entries.ensures.value (c.replace-entries.ensures.after ∙ c.new.ensures)

pub returns-else-self-eq0 : goal.returns-else-self-eq0
returns-else-self-eq0 c = λ tree. closed-more (with_tree c.args.self.now tree) c.if-self-eq0.false
