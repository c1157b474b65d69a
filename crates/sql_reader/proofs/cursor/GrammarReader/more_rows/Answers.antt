use Rattle.std.proofs.Common.{sym, ◌∙◌, arith}
use Rattle.std.proofs.lemmas.Result.{err_from_is_err_and}
use Rattle.sql_reader.specs.Grammar.{more_rows}
use Rattle.sql_reader.specs.inner.Remaining.{remaining}
use Rattle.sql_reader.proofs.Loops.{takes, keep, exit, end, turn-another_row}
use Rattle.sql_reader.proofs.cursor.GrammarReader.more_rows.Goals as goal

pub turns-preserved : goal.turns-preserved
unfolding more_rows
turns-preserved c =
    record {
      read = keep turn-another_row c.args.self.levels _ c.turns.parts (remaining c.turns.cursor) c.another_row.new.parts (remaining c.another_row.new.cursor) c.turns.invariant.read (sym c.begins.ensures ∙ c.turns-test.true) c.in_ok-another_row.ensures.reads;
      rows = (omega (arith, c.turns.invariant.rows.0, c.another_row.ensures.rows.0), omega (arith, c.turns.invariant.rows.1, c.another_row.ensures.rows.1));
      stars = (omega (arith, c.turns.invariant.stars.0, c.another_row.ensures.stars.0), omega (arith, c.turns.invariant.stars.1, c.another_row.ensures.stars.1));
    }

pub turns-smaller : goal.turns-smaller
turns-smaller c =
    takes turn-another_row c.args.self.levels c.turns.parts (remaining c.turns.cursor) c.another_row.new.parts (remaining c.another_row.new.cursor) c.in_ok-another_row.ensures.reads

pub returns-in_err-another_row-clause-reads : goal.returns-in_err-another_row-clause-reads
unfolding more_rows
returns-in_err-another_row-clause-reads c =
    let p = err_from_is_err_and c.from_residual.result c.from_residual.ensures.1 in
    rw (p.1, p.2) (exit turn-another_row c.args.self.levels _ c.turns.parts (remaining c.turns.cursor) c.in_err-another_row.field-0.0 (remaining c.another_row.new.cursor) c.turns.invariant.read (sym c.begins.ensures ∙ c.turns-test.true) c.in_err-another_row.ensures.reads)

pub returns-clause-reads : goal.returns-clause-reads
unfolding more_rows
returns-clause-reads c = end turn-another_row c.args.self.levels _ c.turns.parts (remaining c.turns.cursor) c.turns.invariant.read (sym c.begins.ensures ∙ c.turns-test.false)
