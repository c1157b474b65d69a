use Rattle.std.proofs.Common.{sym, ◌∙◌, arith}
use Rattle.std.proofs.lemmas.Result.{err_from_is_err_and}
use Rattle.sql_reader.specs.Grammar.{operations, more_expressions}
use Rattle.sql_reader.specs.inner.Remaining.{remaining}
use Rattle.sql_reader.proofs.Loops.{takes, keep, exit, end, turn-operation, turn-another_expression}
use Rattle.sql_reader.proofs.cursor.GrammarReader.+expression.Goals as goal

pub operations-turns-preserved : goal.operations-turns-preserved
unfolding operations
operations-turns-preserved t c =
    record {
      read = keep turn-operation c.args.self.levels _ c.turns.found (remaining c.turns.cursor) c.operation.new.found (remaining c.operation.new.cursor) c.turns.invariant.read (sym c.begins.ensures ∙ c.turns-test.true) c.in_ok-operation.ensures.reads;
      room = (omega (arith, c.turns.invariant.room.0, c.operation.ensures.room.0), omega (arith, c.turns.invariant.room.1, c.operation.ensures.room.1));
    }

pub operations-turns-smaller : goal.operations-turns-smaller
operations-turns-smaller t c =
    takes turn-operation c.args.self.levels c.turns.found (remaining c.turns.cursor) c.operation.new.found (remaining c.operation.new.cursor) c.in_ok-operation.ensures.reads

pub operations-returns-in_err-operation-clause-reads : goal.operations-returns-in_err-operation-clause-reads
unfolding operations
operations-returns-in_err-operation-clause-reads t c =
    let p = err_from_is_err_and c.from_residual.result c.from_residual.ensures.1 in
    rw (p.1, p.2) (exit turn-operation c.args.self.levels _ c.turns.found (remaining c.turns.cursor) c.in_err-operation.field-0.0 (remaining c.operation.new.cursor) c.turns.invariant.read (sym c.begins.ensures ∙ c.turns-test.true) c.in_err-operation.ensures.reads)

pub operations-returns-clause-reads : goal.operations-returns-clause-reads
unfolding operations
operations-returns-clause-reads t c = end turn-operation c.args.self.levels _ c.turns.found (remaining c.turns.cursor) c.turns.invariant.read (sym c.begins.ensures ∙ c.turns-test.false)

pub more_expressions-turns-preserved : goal.more_expressions-turns-preserved
unfolding more_expressions
more_expressions-turns-preserved t c =
    record {
      read = keep turn-another_expression c.args.self.levels _ c.turns.found (remaining c.turns.cursor) c.another_expression.new.found (remaining c.another_expression.new.cursor) c.turns.invariant.read (sym c.begins.ensures ∙ c.turns-test.true) c.in_ok-another_expression.ensures.reads;
      room = (omega (arith, c.turns.invariant.room.0, c.another_expression.ensures.room.0), omega (arith, c.turns.invariant.room.1, c.another_expression.ensures.room.1));
    }

pub more_expressions-turns-smaller : goal.more_expressions-turns-smaller
more_expressions-turns-smaller t c =
    takes turn-another_expression c.args.self.levels c.turns.found (remaining c.turns.cursor) c.another_expression.new.found (remaining c.another_expression.new.cursor) c.in_ok-another_expression.ensures.reads

pub more_expressions-returns-in_err-another_expression-clause-reads : goal.more_expressions-returns-in_err-another_expression-clause-reads
unfolding more_expressions
more_expressions-returns-in_err-another_expression-clause-reads t c =
    let p = err_from_is_err_and c.from_residual.result c.from_residual.ensures.1 in
    rw (p.1, p.2) (exit turn-another_expression c.args.self.levels _ c.turns.found (remaining c.turns.cursor) c.in_err-another_expression.field-0.0 (remaining c.another_expression.new.cursor) c.turns.invariant.read (sym c.begins.ensures ∙ c.turns-test.true) c.in_err-another_expression.ensures.reads)

pub more_expressions-returns-clause-reads : goal.more_expressions-returns-clause-reads
unfolding more_expressions
more_expressions-returns-clause-reads t c = end turn-another_expression c.args.self.levels _ c.turns.found (remaining c.turns.cursor) c.turns.invariant.read (sym c.begins.ensures ∙ c.turns-test.false)
