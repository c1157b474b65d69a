use Rattle.std.proofs.Common.{◌∙◌, subst}
use Rattle.programme_parts.specs.Combinations.{AreFew}
use Rattle.retune.proofs.session.Session.over.Goals as goal

pub returns-clause-few : goal.returns-clause-few
returns-clause-few c =
    subst (AreFew c.args.cat.now) (c.as_slice.ensures.value ∙ c.statements.view_is) c.in_ok-caches.ensures.few
