use Rattle.std.proofs.Common.{refl}
use Rattle.std.proofs.lemmas.Result.{err_from_is_err_and}
use Rattle.binder.specs.declared.fault.BindFault.TheVariants.{Memory}
use Rattle.binder.specs.Items.{columns_of}
use Rattle.binder.specs.Scopes.{meaning}
use Rattle.binder.specs.View.{names_of}
use Rattle.binder.proofs.Turns.{each_goes, each_fails, turn_ends}
use Rattle.adv_base.specs.Readings.{put_behind}
use Rattle.binder.proofs.items.columns.Goals as goal

pub returns-in_err-column : goal.returns-in_err-column
returns-in_err-column c =
    let names = names_of c.args.scope.now in
    let uses = c.args.uses.now in
    let p = err_from_is_err_and c.from_residual.result c.from_residual.ensures.1 in
    rw (p.1, p.2) (each_fails (meaning names) uses (columns_of names uses) Memory c.loop-name.items.items c.loop-name.name-index _ _ c.in_err-column.field-0.0
    c.loop-name-test.true refl c.in_err-column.ensures c.loop-name.invariant)

pub loop-name-preserved : goal.loop-name-preserved
loop-name-preserved c =
    let names = names_of c.args.scope.now in
    let uses = c.args.uses.now in
    each_goes (meaning names) uses (columns_of names uses) c.loop-name.items.items c.push.new.self.items c.loop-name.name-index _ _ c.in_ok-column.column
    c.loop-name-test.true refl c.in_ok-column.ensures c.in_ok-push.ensures.items c.loop-name.invariant

pub returns : goal.returns
returns c =
    let names = names_of c.args.scope.now in
    let uses = c.args.uses.now in
    turn_ends (put_behind (meaning names)) uses (columns_of names uses) c.loop-name.items.items c.loop-name.name-index c.loop-name-test.false c.loop-name.invariant
