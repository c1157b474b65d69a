use Rattle.std.proofs.Common.{not, refl, ap, ◌∙◌}
use Rattle.binder.specs.contracts.gathered.SlotColumnPartialEq.TheImpl.{eq-value}
use Rattle.binder.proofs.Marked.{marked-by, marked-after}
use Rattle.binder.proofs.lists.mark.Goals as goal

pub returns-clause-is_new : goal.returns-clause-is_new
returns-clause-is_new c = c.in_ok-is_new.ensures.added ∙ ap not (marked-by eq-value.it (λ x y. refl) c.args.marked.now.keys c.args.c)

pub returns-clause-marks : goal.returns-clause-marks
returns-clause-marks c = marked-after eq-value.it (λ x y. refl) c.args.marked.now.keys c.insert.new.self.keys c.args.c c.in_ok-is_new.ensures.keys
