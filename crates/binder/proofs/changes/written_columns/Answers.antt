use Rattle.std.proofs.Common.{refl}
use Rattle.std.proofs.lemmas.Result.{err_from_is_err_and}
use Rattle.adv_base.specs.Readings.{put_behind}
use Rattle.binder.specs.declared.fault.BindFault.TheVariants.{Memory}
use Rattle.binder.specs.Blocks.{written_column, written_columns}
use Rattle.binder.proofs.Turns.{each_goes, each_fails, turn_ends}
use Rattle.binder.proofs.changes.written_columns.Goals as goal

pub returns-in_err-column : goal.returns-in_err-column
returns-in_err-column c =
    let cat = c.args.directory.now.cat.now in
    let text = c.args.text.now in
    let names = c.args.names.now in
    let p = err_from_is_err_and c.from_residual.result c.from_residual.ensures.1 in
    rw (p.1, p.2) (each_fails (written_column cat text c.args.table) names (written_columns cat text c.args.table names) Memory c.loop-name.items.items c.loop-name.name-index _ _
    c.in_err-column.field-0.0 c.loop-name-test.true refl c.in_err-column.ensures c.loop-name.invariant)

pub loop-name-preserved : goal.loop-name-preserved
loop-name-preserved c =
    let cat = c.args.directory.now.cat.now in
    let text = c.args.text.now in
    let names = c.args.names.now in
    each_goes (written_column cat text c.args.table) names (written_columns cat text c.args.table names) c.loop-name.items.items c.push.new.self.items c.loop-name.name-index _ _
    c.in_ok-column.column c.loop-name-test.true refl c.in_ok-column.ensures c.in_ok-push.ensures.items c.loop-name.invariant

pub returns : goal.returns
returns c =
    let cat = c.args.directory.now.cat.now in
    let text = c.args.text.now in
    let names = c.args.names.now in
    turn_ends (put_behind (written_column cat text c.args.table)) names (written_columns cat text c.args.table names) c.loop-name.items.items c.loop-name.name-index c.loop-name-test.false c.loop-name.invariant
