use Rattle.std.proofs.Common.{rules, ◌≡◌, ◌∙◌, sym}
use Rattle.advice_tests.proofs.sessions.more_proposals_than_candidates.Goals as goal

pub loop-turn-preserved : goal.loop-turn-preserved
loop-turn-preserved g c =
    let begun : c.expect-session.result.cat ≡ c.wide_catalogue-cat.result = search rules in
    c.take_wide.ensures ∙ sym begun
