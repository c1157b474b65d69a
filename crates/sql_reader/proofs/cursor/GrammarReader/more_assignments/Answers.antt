use Rattle.std.proofs.Common.{sym, ◌∙◌, arith}
use Rattle.std.proofs.lemmas.Result.{err_from_is_err_and}
use Rattle.sql_reader.specs.Grammar.{more_assignments}
use Rattle.sql_reader.specs.inner.Remaining.{remaining}
use Rattle.sql_reader.proofs.Loops.{takes, keep, exit, end, turn-another_assignment}
use Rattle.sql_reader.proofs.cursor.GrammarReader.more_assignments.Goals as goal

pub turns-preserved : goal.turns-preserved
unfolding more_assignments
turns-preserved c =
    record {
      read = keep turn-another_assignment c.args.self.levels _ c.turns.parts (remaining c.turns.cursor) c.another_assignment.new.parts (remaining c.another_assignment.new.cursor) c.turns.invariant.read (sym c.begins.ensures ∙ c.turns-test.true) c.in_ok-another_assignment.ensures.reads;
      room = (omega (arith, c.turns.invariant.room.0, c.another_assignment.ensures.room.0), omega (arith, c.turns.invariant.room.1, c.another_assignment.ensures.room.1));
    }

pub turns-smaller : goal.turns-smaller
turns-smaller c =
    takes turn-another_assignment c.args.self.levels c.turns.parts (remaining c.turns.cursor) c.another_assignment.new.parts (remaining c.another_assignment.new.cursor) c.in_ok-another_assignment.ensures.reads

pub returns-in_err-another_assignment-clause-reads : goal.returns-in_err-another_assignment-clause-reads
unfolding more_assignments
returns-in_err-another_assignment-clause-reads c =
    let p = err_from_is_err_and c.from_residual.result c.from_residual.ensures.1 in
    rw (p.1, p.2) (exit turn-another_assignment c.args.self.levels _ c.turns.parts (remaining c.turns.cursor) c.in_err-another_assignment.field-0.0 (remaining c.another_assignment.new.cursor) c.turns.invariant.read (sym c.begins.ensures ∙ c.turns-test.true) c.in_err-another_assignment.ensures.reads)

pub returns-clause-reads : goal.returns-clause-reads
unfolding more_assignments
returns-clause-reads c = end turn-another_assignment c.args.self.levels _ c.turns.parts (remaining c.turns.cursor) c.turns.invariant.read (sym c.begins.ensures ∙ c.turns-test.false)
