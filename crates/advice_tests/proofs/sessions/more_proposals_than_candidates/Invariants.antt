use Rattle.std.proofs.Common.{◌≡◌}
use Rattle.advice_tests.proofs.sessions.more_proposals_than_candidates.Given as goal

-- the session stays over its catalogue
abbrev pub invariant-loop-turn : goal.invariant-loop-turn
invariant-loop-turn g l = l.session.cat ≡ l.initial.session.cat
