use Rattle.std.proofs.Common.{sym, ◌∙◌}
use Rattle.std.proofs.lemmas.Result.{err_from_is_err_and}
use Rattle.sql_reader.specs.Grammar.{more_sources}
use Rattle.sql_reader.specs.inner.Remaining.{remaining}
use Rattle.sql_reader.proofs.Loops.{takes, keep, exit, end, turn-another_source}
use Rattle.sql_reader.proofs.cursor.GrammarReader.more_sources.Goals as goal

pub turns-preserved : goal.turns-preserved
unfolding more_sources
turns-preserved c =
    keep turn-another_source c.args.self.levels _ c.turns.select (remaining c.turns.cursor) c.another_source.new.select (remaining c.another_source.new.cursor) c.turns.invariant (sym c.begins.ensures ∙ c.turns-test.true) c.in_ok-another_source.ensures

pub turns-smaller : goal.turns-smaller
turns-smaller c =
    takes turn-another_source c.args.self.levels c.turns.select (remaining c.turns.cursor) c.another_source.new.select (remaining c.another_source.new.cursor) c.in_ok-another_source.ensures

pub returns-in_err-another_source : goal.returns-in_err-another_source
unfolding more_sources
returns-in_err-another_source c =
    let p = err_from_is_err_and c.from_residual.result c.from_residual.ensures.1 in
    rw (p.1, p.2) (exit turn-another_source c.args.self.levels _ c.turns.select (remaining c.turns.cursor) c.in_err-another_source.field-0.0 (remaining c.another_source.new.cursor) c.turns.invariant (sym c.begins.ensures ∙ c.turns-test.true) c.in_err-another_source.ensures)

pub returns : goal.returns
unfolding more_sources
returns c = end turn-another_source c.args.self.levels _ c.turns.select (remaining c.turns.cursor) c.turns.invariant (sym c.begins.ensures ∙ c.turns-test.false)
