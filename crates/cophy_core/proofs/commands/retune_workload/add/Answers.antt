use Rattle.std.proofs.Common.{rules, sym, subst}
use Rattle.adv_base.specs.declared.catalogue.Catalogue.{Catalogue}
use Rattle.programme_parts.specs.Combinations.{AreFew, HasFew}
use Rattle.cophy_core.specs.Stops.{StopsAt}
use Rattle.cophy_core.specs.commands.Retune.{IsAdditionFault}
use Rattle.cophy_core.specs.inner.EditSteps.{OnLine}
use Rattle.cophy_core.proofs.Taking.{few_added, added_stop}
use Rattle.cophy_core.proofs.commands.retune_workload.add.Goals as goal

pub returns-in_err-statement-clause-stop : goal.returns-in_err-statement-clause-stop
returns-in_err-statement-clause-stop c =
    let h : StopsAt (OnLine c.args.line (IsAdditionFault c.args.cat.now c.args.session.now.statements c.args.weight c.args.sql.now)) c.in_err-statement.field-0.0 =
    c.in_err-statement.ensures.stop c.args.session.now.statements in
    search (rules, h)

pub returns-in-Ok-clause-taken : goal.returns-in-Ok-clause-taken
returns-in-Ok-clause-taken c = record {
  statement = c.in_ok-statement.statement;
  addition = c.in_ok-statement.ensures.addition;
  room = c.in-Ok.ensures.can.room;
  slots = c.in-Ok.ensures.can.slots;
  few = subst (λ (cat : Catalogue). HasFew cat c.in_ok-statement.statement) c.requires.cat c.in-Ok.ensures.can.few;
  after_is = c.in-Ok.ensures.statements;
}

pub returns-in-Ok-clause-few : goal.returns-in-Ok-clause-few
returns-in-Ok-clause-few c =
    let own = subst (λ (cat : Catalogue). HasFew cat c.in_ok-statement.statement) c.requires.cat c.in-Ok.ensures.can.few in
    subst (AreFew c.args.cat.now) (sym c.in-Ok.ensures.statements) (few_added c.args.cat.now c.args.session.now.statements c.in_ok-statement.statement c.requires.few own)

pub returns-in-Err-clause-stop : goal.returns-in-Err-clause-stop
returns-in-Err-clause-stop c =
    added_stop c.args.cat.now c.args.session.now c.args.weight c.args.sql.now c.args.line c.in_ok-statement.statement c.in-Err.fault c.step_stop.result c.requires.cat
    c.in_ok-statement.ensures.addition c.in-Err.ensures.fault c.step_stop.ensures
