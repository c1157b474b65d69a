use Rattle.std.proofs.Common.{◌+◌, [], map, slice_index_or, refl, sym, subst, arith}
use Rattle.std.proofs.lemmas.List.{length-map}
use Rattle.std.proofs.lemmas.Result.{err_from_is_err_and}
use Rattle.edit_script.specs.Scripts.{the_edit, IsInRange}
use Rattle.edit_script.specs.declared.edit.Edit.{Edit}
use Rattle.edit_script.specs.declared.edit.Edit.TheVariants as edits
use Rattle.cophy_core.specs.Stops.{StopsAt}
use Rattle.cophy_core.specs.commands.Retune.{IsFirstFault}
use Rattle.cophy_core.specs.inner.EditSteps.{IsShort, OfEdit}
use Rattle.cophy_core.proofs.Taking.{drop_at, holds_at, begins, tells, ends, stops}
use Rattle.cophy_core.proofs.commands.retune_workload.advices.Goals as goal

-- what is read where there is no edit
abbrev none : Edit
none = edits.Add 0 (record { ref_ptr = (0, 0); now = [] })

pub edits-init : goal.edits-init
edits-init c = record {
  cat_is = c.requires.cat;
  halfway = rw c.new-all.ensures.items (begins c.args.cat.now c.args.budget c.args.nodes c.args.session.now.statements (map the_edit c.args.edits.now) c.requires.few);
}

pub take-requires-clause-short : goal.take-requires-clause-short
take-requires-clause-short c = holds_at IsShort the_edit c.args.edits.now c.edits.at _ c.edits-test.true c.requires.each

pub take-requires-clause-range : goal.take-requires-clause-range
take-requires-clause-range c = holds_at IsInRange the_edit c.args.edits.now c.edits.at _ c.edits-test.true c.requires.ranges

pub take-requires-clause-cat : goal.take-requires-clause-cat
take-requires-clause-cat c = c.edits.invariant.cat_is

pub take-requires-clause-few : goal.take-requires-clause-few
take-requires-clause-few c = c.edits.invariant.halfway.few

pub returns-in_err-take-clause-stop : goal.returns-in_err-take-clause-stop
returns-in_err-take-clause-stop c =
    let all = map the_edit c.args.edits.now in
    let first = c.args.session.now.statements in
    let p = err_from_is_err_and c.from_residual.result c.from_residual.ensures.1 in
    let edit = slice_index_or c.args.edits.now c.edits.at none in
    let front = drop_at the_edit c.args.edits.now c.edits.at none c.edits-test.true in
    let why = stops c.args.cat.now c.args.budget c.args.nodes first c.edits.session.statements all c.edits.at (c.edits.at + 1) c.edits.all.items (the_edit edit) c.in_err-take.field-0.0 front refl
    c.edits.invariant.halfway c.in_err-take.ensures.stop in
    rw p.1 (subst (StopsAt (OfEdit (IsFirstFault c.args.cat.now first 1 all))) (sym p.2) why)

pub edits-preserved : goal.edits-preserved
edits-preserved c =
    let all = map the_edit c.args.edits.now in
    let first = c.args.session.now.statements in
    let edit = slice_index_or c.args.edits.now c.edits.at none in
    let front = drop_at the_edit c.args.edits.now c.edits.at none c.edits-test.true in
    record {
      cat_is = c.in_ok-take.ensures.cat;
      halfway = tells c.args.cat.now c.args.budget c.args.nodes first c.edits.session.statements c.take.new.session.statements all c.edits.at c.edits.all.items c.put_asked.new.all.items (the_edit edit) front
          c.in_ok-take.ensures.taken c.in_ok-take.ensures.few c.in_ok-put_asked.ensures c.edits.invariant.halfway;
    }

pub returns-clause-tuned : goal.returns-clause-tuned
returns-clause-tuned c =
    let all = map the_edit c.args.edits.now in
    ends c.args.cat.now c.args.budget c.args.nodes c.args.session.now.statements c.edits.session.statements all c.edits.at c.edits.all.items
    (omega (arith, c.edits-test.false, length-map c.args.edits.now the_edit)) c.edits.invariant.halfway

pub returns-clause-fits : goal.returns-clause-fits
returns-clause-fits c = c.edits.invariant.halfway.fits
