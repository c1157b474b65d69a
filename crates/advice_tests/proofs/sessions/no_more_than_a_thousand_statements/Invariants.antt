use Rattle.std.proofs.Common.{◌≡◌}
use Rattle.advice_tests.proofs.sessions.no_more_than_a_thousand_statements.Given as goal

-- the session stays over its catalogue
abbrev pub invariant-loop-step : goal.invariant-loop-step
invariant-loop-step g l = l.session.cat ≡ l.initial.session.cat
