use Rattle.std.proofs.Common.{sym, ◌∙◌}
use Rattle.std.proofs.lemmas.Result.{err_from_is_err_and}
use Rattle.sql_reader.specs.Grammar.{more_items}
use Rattle.sql_reader.specs.inner.Remaining.{remaining}
use Rattle.sql_reader.proofs.Loops.{takes, keep, exit, end, turn-another_item}
use Rattle.sql_reader.proofs.cursor.GrammarReader.more_items.Goals as goal

pub turns-preserved : goal.turns-preserved
unfolding more_items
turns-preserved c =
    keep turn-another_item c.args.self.levels _ c.turns.all (remaining c.turns.cursor) c.another_item.new.all (remaining c.another_item.new.cursor) c.turns.invariant (sym c.begins.ensures ∙ c.turns-test.true) c.in_ok-another_item.ensures

pub turns-smaller : goal.turns-smaller
turns-smaller c =
    takes turn-another_item c.args.self.levels c.turns.all (remaining c.turns.cursor) c.another_item.new.all (remaining c.another_item.new.cursor) c.in_ok-another_item.ensures

pub returns-in_err-another_item : goal.returns-in_err-another_item
unfolding more_items
returns-in_err-another_item c =
    let p = err_from_is_err_and c.from_residual.result c.from_residual.ensures.1 in
    rw (p.1, p.2) (exit turn-another_item c.args.self.levels _ c.turns.all (remaining c.turns.cursor) c.in_err-another_item.field-0.0 (remaining c.another_item.new.cursor) c.turns.invariant (sym c.begins.ensures ∙ c.turns-test.true) c.in_err-another_item.ensures)

pub returns : goal.returns
unfolding more_items
returns c = end turn-another_item c.args.self.levels _ c.turns.all (remaining c.turns.cursor) c.turns.invariant (sym c.begins.ensures ∙ c.turns-test.false)
