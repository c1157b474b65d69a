use Rattle.std.proofs.Common.{sym, ◌∙◌, arith}
use Rattle.std.proofs.lemmas.Result.{err_from_is_err_and}
use Rattle.sql_reader.specs.Grammar.{more_in_values}
use Rattle.sql_reader.specs.inner.Remaining.{remaining}
use Rattle.sql_reader.proofs.Loops.{takes, keep, exit, end, turn-in_value}
use Rattle.sql_reader.proofs.cursor.GrammarReader.more_in_values.Goals as goal

pub turns-preserved : goal.turns-preserved
unfolding more_in_values
turns-preserved c =
    record {
      read = keep turn-in_value c.args.self.levels _ c.turns.count (remaining c.turns.cursor) c.in_value.new.count (remaining c.in_value.new.cursor) c.turns.invariant.read (sym c.begins.ensures ∙ c.turns-test.true) c.in_ok-in_value.ensures.reads;
      room = (omega (arith, c.turns.invariant.room.0, c.in_value.ensures.room.0), omega (arith, c.turns.invariant.room.1, c.in_value.ensures.room.1));
    }

pub turns-smaller : goal.turns-smaller
turns-smaller c =
    takes turn-in_value c.args.self.levels c.turns.count (remaining c.turns.cursor) c.in_value.new.count (remaining c.in_value.new.cursor) c.in_ok-in_value.ensures.reads

pub returns-in_err-in_value-clause-reads : goal.returns-in_err-in_value-clause-reads
unfolding more_in_values
returns-in_err-in_value-clause-reads c =
    let p = err_from_is_err_and c.from_residual.result c.from_residual.ensures.1 in
    rw (p.1, p.2) (exit turn-in_value c.args.self.levels _ c.turns.count (remaining c.turns.cursor) c.in_err-in_value.field-0.0 (remaining c.in_value.new.cursor) c.turns.invariant.read (sym c.begins.ensures ∙ c.turns-test.true) c.in_err-in_value.ensures.reads)

pub returns-clause-reads : goal.returns-clause-reads
unfolding more_in_values
returns-clause-reads c = end turn-in_value c.args.self.levels _ c.turns.count (remaining c.turns.cursor) c.turns.invariant.read (sym c.begins.ensures ∙ c.turns-test.false)
