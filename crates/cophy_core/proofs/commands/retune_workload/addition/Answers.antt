use Rattle.std.proofs.Common.{◌≡◌, List, [], ◌∷◌, Ok, All, ap, sym, subst, ◌∙◌}
use Rattle.std.proofs.lemmas.List.Elements.{All-head}
use Rattle.std.proofs.lemmas.Result.{err_from_is_err_and}
use Rattle.adv_base.specs.Named.{NamesWork}
use Rattle.adv_base.specs.declared.workload.Statement.{Statement}
use Rattle.binder.specs.Plain.{plain_statements}
use Rattle.binder.specs.Statements.{statements_of}
use Rattle.cophy_core.specs.Stops.{StopsAt}
use Rattle.cophy_core.specs.commands.Retune.{IsAdditionFault}
use Rattle.cophy_core.specs.inner.EditSteps.{OnLine}
use Rattle.cophy_core.proofs.commands.retune_workload.addition.Goals as goal

pub returns-in_err-parsed-clause-stop : goal.returns-in_err-parsed-clause-stop
returns-in_err-parsed-clause-stop c =
    let p = err_from_is_err_and c.from_residual.result c.from_residual.ensures.1 in
    rw p.1 (λ before. subst (StopsAt (OnLine c.args.line (IsAdditionFault c.args.cat.now before c.args.weight c.args.sql.now))) (sym p.2) (c.in_err-parsed.ensures.stop c.args.cat.now before c.args.weight))

pub returns-in-Ok-clause-addition : goal.returns-in-Ok-clause-addition
returns-in-Ok-clause-addition c =
    let one = c.in_ok-parsed.ensures.one in
    let made = c.reweighed.ensures in
    let exact : statements_of c.args.cat.now c.args.sql.now (one.statement ∷ []) ≡ Ok (plain_statements c.in-Ok.bound) = rw (one.text_is, one.statements_are) at c.in-Ok.ensures.exact in
    record {
      parsed = one.statement;
      is_workload = one.is_workload;
      read = made.read;
      bound = exact ∙ ap (λ (xs : List Statement). Ok (plain_statements xs)) made.bound_is;
      work_is = made.work_is;
      weight_is = made.weight_is;
    }

pub returns-in-Ok-clause-named : goal.returns-in-Ok-clause-named
returns-in-Ok-clause-named c =
    let made = c.reweighed.ensures in
    let named : All (λ (s : Statement). NamesWork c.args.cat.now s.work) (made.read ∷ []) = subst (All (λ (s : Statement). NamesWork c.args.cat.now s.work)) made.bound_is c.in-Ok.ensures.named in
    subst (NamesWork c.args.cat.now) (sym made.work_is) (All-head (λ (s : Statement). NamesWork c.args.cat.now s.work) made.read [] named)
