use Rattle.binder.proofs.Columns.{IndexesEach-none, IndexesEach-more}
use Rattle.binder.proofs.directory.index_each.Goals as goal

pub loop-table-init : goal.loop-table-init
loop-table-init c = IndexesEach-none c.new-indexes.result.items c.new-indexes.ensures.items

pub loop-table-preserved : goal.loop-table-preserved
loop-table-preserved c =
    IndexesEach-more c.args.tables.now c.loop-table.table-index c.table-item.result c.loop-table.indexes.items c.push.new.self.items c.in_ok-index_columns.field-0
    c.loop-table-test.true c.table-item.is c.in_ok-push.ensures.items c.loop-table.invariant c.as_slice.result.now c.as_slice.ensures c.in_ok-index_columns.ensures
