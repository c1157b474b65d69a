use Rattle.std.proofs.Common.{◌∙◌, ◌<◌, ◌≤◌, ℕ, length, length-set, arith}
use Rattle.std.proofs.lemmas.List.Elements.{All-set}
use Rattle.std.proofs.lemmas.Option.{slice_get-get_or}
use Rattle.adv_base.specs.Named.{NamesWork}
use Rattle.adv_base.specs.Settings.{the_setting}
use Rattle.adv_base.specs.declared.workload.Statement.{Statement}
use Rattle.plan_model.specs.declared.plan.TheConstants.{MOST_COST}
use Rattle.bip_model.proofs.Lists.{All-some}
use Rattle.gap_checker.specs.inner.Charges.{charge_of}
use Rattle.gap_checker.proofs.EachDesk.{desks-count, desk-at, desks-set}
use Rattle.gap_checker.proofs.Keeping.{renewed-set, renewed-end}
use Rattle.gap_checker.proofs.memo.renew_costs.Goals as goal

pub bounds-desks-i : goal.bounds-desks-i
bounds-desks-i c =
    omega (arith, desks-count (the_setting c.args.setting.now) c.statements.desks c.statements.invariant.desks_are, c.statements-test.true)

pub plan_cost-requires-clause-named : goal.plan_cost-requires-clause-named
plan_cost-requires-clause-named c =
    let setting = c.args.setting.now in
    All-some (λ (s : Statement). NamesWork setting.cat.now s.work) setting.statements.now c.statements.i c.statement_at-statement.result.now setting.limits.statements_named c.statement_at-statement.ensures

pub plan_cost-requires-clause-desk_is : goal.plan_cost-requires-clause-desk_is
plan_cost-requires-clause-desk_is c =
    let setting = the_setting c.args.setting.now in
    let desks = c.statements.desks in
    let within : c.statements.i < length desks = omega (arith, desks-count setting desks c.statements.invariant.desks_are, c.statements-test.true) in
    desk-at setting desks c.statements.i c.statement_at-statement.result.now _ c.statements.invariant.desks_are c.statement_at-statement.ensures
    (slice_get-get_or desks c.statements.i c.index-desks-i.result within)

pub statements-preserved : goal.statements-preserved
statements-preserved c =
    let setting = the_setting c.args.setting.now in
    let costs = c.statements.costs in
    let i = c.statements.i in
    let cost = c.in_ok-cost.cost in
    let statement = c.statement_at-statement.result.now in
    let within : i < length costs = omega (arith, c.statements.invariant.count, c.statements-test.true) in
    let below : cost ≤ MOST_COST = omega (arith, c.in_ok-cost.ensures.most) in
    record {
      desks_are = desks-set setting c.statements.desks i statement c.plan_cost.new.desk c.statements.invariant.desks_are c.statement_at-statement.ensures c.in_ok-cost.ensures.desk;
      count = length-set costs i cost ∙ c.statements.invariant.count;
      most = All-set (λ (n : ℕ). n ≤ MOST_COST) costs i cost below c.statements.invariant.most;
      renewed =
          renewed-set setting c.args.terms.now.config.now (charge_of c.args.terms.now) c.args.changes.now i cost costs statement c.statement_at-statement.ensures within c.in_ok-cost.ensures.least
          c.statements.invariant.renewed;
    }

pub returns-clause-costs : goal.returns-clause-costs
returns-clause-costs c =
    renewed-end (the_setting c.args.setting.now) c.args.terms.now.config.now (charge_of c.args.terms.now) c.args.changes.now c.statements.i c.statements.costs (omega (arith, c.statements-test.false))
    c.statements.invariant.renewed
