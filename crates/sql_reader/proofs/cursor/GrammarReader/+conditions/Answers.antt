use Rattle.std.proofs.Common.{sym, ◌∙◌}
use Rattle.std.proofs.lemmas.Result.{err_from_is_err_and}
use Rattle.sql_reader.specs.Grammar.{more_conditions}
use Rattle.sql_reader.specs.inner.Remaining.{remaining}
use Rattle.sql_reader.proofs.Loops.{takes, keep, exit, end, turn-and_condition}
use Rattle.sql_reader.proofs.cursor.GrammarReader.+conditions.Goals as goal

pub more_conditions-turns-preserved : goal.more_conditions-turns-preserved
unfolding more_conditions
more_conditions-turns-preserved t c =
    keep turn-and_condition c.args.self.levels _ c.turns.all (remaining c.turns.cursor) c.and_condition.new.all (remaining c.and_condition.new.cursor) c.turns.invariant (sym c.begins.ensures ∙ c.turns-test.true) c.in_ok-and_condition.ensures

pub more_conditions-turns-smaller : goal.more_conditions-turns-smaller
more_conditions-turns-smaller t c =
    takes turn-and_condition c.args.self.levels c.turns.all (remaining c.turns.cursor) c.and_condition.new.all (remaining c.and_condition.new.cursor) c.in_ok-and_condition.ensures

pub more_conditions-returns-in_err-and_condition : goal.more_conditions-returns-in_err-and_condition
unfolding more_conditions
more_conditions-returns-in_err-and_condition t c =
    let p = err_from_is_err_and c.from_residual.result c.from_residual.ensures.1 in
    rw (p.1, p.2) (exit turn-and_condition c.args.self.levels _ c.turns.all (remaining c.turns.cursor) c.in_err-and_condition.field-0.0 (remaining c.and_condition.new.cursor) c.turns.invariant (sym c.begins.ensures ∙ c.turns-test.true) c.in_err-and_condition.ensures)

pub more_conditions-returns : goal.more_conditions-returns
unfolding more_conditions
more_conditions-returns t c = end turn-and_condition c.args.self.levels _ c.turns.all (remaining c.turns.cursor) c.turns.invariant (sym c.begins.ensures ∙ c.turns-test.false)
