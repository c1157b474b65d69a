use Rattle.std.proofs.Common.{false, sym, ◌∙◌}
use Rattle.sql_reader.proofs.KnownWords.{passed}
use Rattle.sql_reader.proofs.words.+look_up.Goals as goal

pub returns : goal.returns
returns t c =
    c.look_up.ensures
    ∙ sym (passed c.args.table.now c.in-Some.entry.now c.in-Some.rest.now c.args.word.now false c.in-Some.ensures.cases.0 (sym c.is_spelled.ensures ∙ c.if-is_spelled.false))
