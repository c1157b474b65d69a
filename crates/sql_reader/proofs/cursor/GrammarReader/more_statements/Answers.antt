use Rattle.std.proofs.Common.{sym, ◌∙◌}
use Rattle.std.proofs.lemmas.Result.{err_from_is_err_and}
use Rattle.sql_reader.specs.Grammar.{more_statements}
use Rattle.sql_reader.specs.inner.Remaining.{remaining}
use Rattle.sql_reader.proofs.Loops.{takes, keep, exit, end, turn-another_statement}
use Rattle.sql_reader.proofs.cursor.GrammarReader.more_statements.Goals as goal

pub turns-preserved : goal.turns-preserved
unfolding more_statements
turns-preserved c =
    keep turn-another_statement c.args.self.levels _ c.turns.progress (remaining c.turns.cursor) c.another_statement.new.progress (remaining c.another_statement.new.cursor) c.turns.invariant (sym c.begins.ensures ∙ c.turns-test.true) c.in_ok-another_statement.ensures

pub turns-smaller : goal.turns-smaller
turns-smaller c =
    takes turn-another_statement c.args.self.levels c.turns.progress (remaining c.turns.cursor) c.another_statement.new.progress (remaining c.another_statement.new.cursor) c.in_ok-another_statement.ensures

pub returns-in_err-another_statement : goal.returns-in_err-another_statement
unfolding more_statements
returns-in_err-another_statement c =
    let p = err_from_is_err_and c.from_residual.result c.from_residual.ensures.1 in
    rw (p.1, p.2) (exit turn-another_statement c.args.self.levels _ c.turns.progress (remaining c.turns.cursor) c.in_err-another_statement.field-0.0 (remaining c.another_statement.new.cursor) c.turns.invariant (sym c.begins.ensures ∙ c.turns-test.true) c.in_err-another_statement.ensures)

pub returns : goal.returns
unfolding more_statements
returns c = end turn-another_statement c.args.self.levels _ c.turns.progress (remaining c.turns.cursor) c.turns.invariant (sym c.begins.ensures ∙ c.turns-test.false)
