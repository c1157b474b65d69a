use Rattle.std.proofs.Common.{rules, ◌≡◌, ◌∙◌, sym}
use Rattle.advice_tests.proofs.sessions.rows.Goals as goal

pub loop-step-preserved : goal.loop-step-preserved
loop-step-preserved g c =
    let begun : c.expect-session.result.cat ≡ c.catalogue_of-cat.result = search rules in
    c.take.ensures ∙ sym begun
