use Rattle.std.proofs.Common.{sym, ◌∙◌, arith}
use Rattle.std.proofs.lemmas.Result.{err_from_is_err_and}
use Rattle.sql_reader.specs.Grammar.{more_having_tests}
use Rattle.sql_reader.specs.inner.Remaining.{remaining}
use Rattle.sql_reader.proofs.Loops.{takes, keep, exit, end, turn-another_having_test}
use Rattle.sql_reader.proofs.cursor.GrammarReader.more_having_tests.Goals as goal

pub turns-preserved : goal.turns-preserved
unfolding more_having_tests
turns-preserved c =
    record {
      read = keep turn-another_having_test c.args.self.levels _ c.turns.found (remaining c.turns.cursor) c.another_having_test.new.found (remaining c.another_having_test.new.cursor) c.turns.invariant.read (sym c.begins.ensures ∙ c.turns-test.true) c.in_ok-another_having_test.ensures.reads;
      room = (omega (arith, c.turns.invariant.room.0, c.another_having_test.ensures.room.0), omega (arith, c.turns.invariant.room.1, c.another_having_test.ensures.room.1));
    }

pub turns-smaller : goal.turns-smaller
turns-smaller c =
    takes turn-another_having_test c.args.self.levels c.turns.found (remaining c.turns.cursor) c.another_having_test.new.found (remaining c.another_having_test.new.cursor) c.in_ok-another_having_test.ensures.reads

pub returns-in_err-another_having_test-clause-reads : goal.returns-in_err-another_having_test-clause-reads
unfolding more_having_tests
returns-in_err-another_having_test-clause-reads c =
    let p = err_from_is_err_and c.from_residual.result c.from_residual.ensures.1 in
    rw (p.1, p.2) (exit turn-another_having_test c.args.self.levels _ c.turns.found (remaining c.turns.cursor) c.in_err-another_having_test.field-0.0 (remaining c.another_having_test.new.cursor) c.turns.invariant.read (sym c.begins.ensures ∙ c.turns-test.true) c.in_err-another_having_test.ensures.reads)

pub returns-clause-reads : goal.returns-clause-reads
unfolding more_having_tests
returns-clause-reads c = end turn-another_having_test c.args.self.levels _ c.turns.found (remaining c.turns.cursor) c.turns.invariant.read (sym c.begins.ensures ∙ c.turns-test.false)
