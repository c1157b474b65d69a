use Rattle.std.proofs.Common.{sym, ◌∙◌, arith}
use Rattle.binder.proofs.Columns.{table_number-within}
use Rattle.binder.proofs.directory.Directory.table.Goals as goal

pub overflow_cast-result : goal.overflow_cast-result
overflow_cast-result c =
    let self = c.args.self.now in
    let lt = table_number-within self.cat.now.tables c.args.word.now c.in-Some.number (sym (self.tables_indexed c.args.word.now) ∙ sym c.in-Some.ensures) in
    let most = self.cat.now.limits.tables_most in
    omega arith

pub returns-in-Some-clause-within : goal.returns-in-Some-clause-within
returns-in-Some-clause-within c =
    let self = c.args.self.now in
    table_number-within self.cat.now.tables c.args.word.now c.in-Some.number (sym (self.tables_indexed c.args.word.now) ∙ sym c.in-Some.ensures)
