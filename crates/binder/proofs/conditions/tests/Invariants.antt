use Rattle.std.proofs.Common.{◌≡◌, drop}
use Rattle.adv_base.specs.Readings.{in_turn}
use Rattle.binder.specs.Conditions.{with_condition, tests_of}
use Rattle.binder.specs.View.{names_of, plain_tests}
use Rattle.binder.proofs.conditions.tests.Given as goal

-- the tests so far, with those of the rest behind them, are all tests
abbrev pub invariant-loop-condition : goal.invariant-loop-condition
invariant-loop-condition l = in_turn (with_condition (names_of l.scope)) (plain_tests l.so_far) (drop l.condition-index l.conditions) ≡ tests_of (names_of l.scope) l.conditions
