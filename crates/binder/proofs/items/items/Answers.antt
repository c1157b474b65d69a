use Rattle.std.proofs.lemmas.Result.{err_from_is_err_and}
use Rattle.binder.specs.declared.fault.BindFault.TheVariants.{Memory}
use Rattle.binder.specs.Items.{item_of, items_of}
use Rattle.binder.specs.View.{names_of}
use Rattle.binder.proofs.Turns.{each_goes, each_fails, turn_ends}
use Rattle.adv_base.specs.Readings.{put_behind}
use Rattle.binder.proofs.items.items.Goals as goal

pub returns-in_err-bound : goal.returns-in_err-bound
returns-in_err-bound c =
    let names = names_of c.args.scope.now in
    let written = c.args.written.now in
    let p = err_from_is_err_and c.from_residual.result c.from_residual.ensures.1 in
    rw (p.1, p.2) (each_fails (item_of names) written (items_of names written) Memory c.loop-one.items.items c.loop-one.one-index c.one-item.result c.one-item.result c.in_err-bound.field-0.0
    c.loop-one-test.true c.one-item.is c.in_err-bound.ensures c.loop-one.invariant)

pub loop-one-preserved : goal.loop-one-preserved
loop-one-preserved c =
    let names = names_of c.args.scope.now in
    let written = c.args.written.now in
    each_goes (item_of names) written (items_of names written) c.loop-one.items.items c.push.new.self.items c.loop-one.one-index c.one-item.result c.one-item.result c.in_ok-bound.bound
    c.loop-one-test.true c.one-item.is c.in_ok-bound.ensures c.in_ok-push.ensures.items c.loop-one.invariant

pub returns : goal.returns
returns c =
    let names = names_of c.args.scope.now in
    let written = c.args.written.now in
    turn_ends (put_behind (item_of names)) written (items_of names written) c.loop-one.items.items c.loop-one.one-index c.loop-one-test.false c.loop-one.invariant
