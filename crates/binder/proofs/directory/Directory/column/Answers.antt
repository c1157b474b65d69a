use Rattle.std.proofs.Common.{sym, ◌∙◌, arith, ◌<◌, length}
use Rattle.binder.proofs.Columns.{column_of-small, IndexesEach-at}
use Rattle.binder.proofs.directory.Directory.column.Goals as goal

pub overflow_cast-result : goal.overflow_cast-result
overflow_cast-result c =
    let self = c.args.self.now in
    let lt : c.args.table < length self.columns.items = omega arith in
    let found = IndexesEach-at self.cat.now.tables self.columns.items c.index.result.now c.args.table c.args.word.now self.columns_indexed lt c.index.ensures in
    let small = column_of-small self.cat.now.tables c.args.table c.args.word.now c.in-Some.number (sym found ∙ sym c.in-Some.ensures) in
    omega arith

pub returns-in-Some : goal.returns-in-Some
returns-in-Some c =
    let self = c.args.self.now in
    let lt : c.args.table < length self.columns.items = omega arith in
    c.in-Some.ensures ∙ IndexesEach-at self.cat.now.tables self.columns.items c.index.result.now c.args.table c.args.word.now self.columns_indexed lt c.index.ensures

pub returns-in-None : goal.returns-in-None
returns-in-None c =
    let self = c.args.self.now in
    let lt : c.args.table < length self.columns.items = omega arith in
    c.in-None.ensures ∙ IndexesEach-at self.cat.now.tables self.columns.items c.index.result.now c.args.table c.args.word.now self.columns_indexed lt c.index.ensures
