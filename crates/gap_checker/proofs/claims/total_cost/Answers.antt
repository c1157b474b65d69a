use Rattle.std.proofs.Common.{◌≡◌, ◌∙◌, ◌+◌, ◌*◌, ◌<◌, ◌≤◌, ◌++◌, ◌∷◌, [], ℕ, length, take, refl, sym, ap, subst, arith}
use Rattle.std.proofs.Math.Nat.{mul-le-mul}
use Rattle.std.proofs.lemmas.Option.{slice_get-get_or}
use Rattle.std.specs.Prelude.{List}
use Rattle.adv_base.specs.declared.limits.TheConstants.{MOST_CANDIDATES, MOST_INDEXES, MOST_UPKEEP, MOST_WEIGHT}
use Rattle.adv_base.specs.declared.workload.Statement.{Statement}
use Rattle.adv_base.specs.Named.{NamesWork}
use Rattle.plan_model.specs.Totals as totals
use Rattle.plan_model.specs.declared.plan.TheConstants.{MOST_COST}
use Rattle.bip_model.proofs.Lists.{All-some}
use Rattle.adv_base.specs.Settings.{the_setting}
use Rattle.gap_checker.proofs.Adding.{costs-more, costs-sum}
use Rattle.gap_checker.proofs.EachDesk.{desks-count, desk-at, desks-set}
use Rattle.gap_checker.proofs.Lists.{take-at, take-whole}
use Rattle.gap_checker.proofs.claims.total_cost.Goals as goal

pub bounds-desks-i : goal.bounds-desks-i
bounds-desks-i c =
    omega (arith, desks-count (the_setting c.args.setting.now) c.statements.desks c.statements.invariant.desks_are, c.statements-test.true)

pub statement_cost-requires-clause-desk_is : goal.statement_cost-requires-clause-desk_is
statement_cost-requires-clause-desk_is c =
    let setting = the_setting c.args.setting.now in
    let desks = c.statements.desks in
    let within : c.statements.i < length desks = omega (arith, desks-count setting desks c.statements.invariant.desks_are, c.statements-test.true) in
    desk-at setting desks c.statements.i c.statement_at-statement.result.now _ c.statements.invariant.desks_are c.statement_at-statement.ensures
    (slice_get-get_or desks c.statements.i c.index-desks-i.result within)

pub statement_cost-requires-clause-named : goal.statement_cost-requires-clause-named
statement_cost-requires-clause-named c =
    let setting = c.args.setting.now in
    All-some (λ (s : Statement). NamesWork setting.cat.now s.work) setting.statements.now c.statements.i c.statement_at-statement.result.now setting.limits.statements_named c.statement_at-statement.ensures

pub statements-init : goal.statements-init
statements-init c = record { desks_are = c.requires.desks_are; costs = []; costs_are = tt; sum_is = refl; small = omega arith }

pub statements-preserved : goal.statements-preserved
statements-preserved c =
    let setting = c.args.setting.now in
    let config = c.args.config.now in
    let ss = setting.statements.now in
    let i = c.statements.i in
    let statement = c.statement_at-statement.result.now in
    let cost = c.in_ok-cost.cost in
    let more = take-at ss i statement c.statement_at-statement.ensures in
    let weight : statement.weight * cost ≤ MOST_WEIGHT * (MOST_COST + (MOST_INDEXES + MOST_CANDIDATES) * MOST_UPKEEP) = mul-le-mul statement.limits.weight_most c.in_ok-cost.ensures.most in
    record {
      desks_are = desks-set (the_setting c.args.setting.now) c.statements.desks i statement c.statement_cost.new.desk c.statements.invariant.desks_are c.statement_at-statement.ensures c.in_ok-cost.ensures.desk;
      costs = c.statements.invariant.costs ++ cost ∷ [];
      costs_are = rw more (costs-more setting.cat.now setting.shapes.now config (take i ss) c.statements.invariant.costs statement cost c.statements.invariant.costs_are c.in_ok-cost.ensures.cost);
      sum_is = rw more (ap (λ (n : ℕ). n + statement.weight * cost) c.statements.invariant.sum_is ∙ sym (costs-sum setting.cat.now setting.shapes.now config (take i ss) c.statements.invariant.costs statement cost c.statements.invariant.costs_are));
      small = omega (arith, weight, c.statements.invariant.small);
    }

pub returns-clause-total : goal.returns-clause-total
returns-clause-total c =
    let setting = c.args.setting.now in
    let ss = setting.statements.now in
    let whole : take c.statements.i ss ≡ ss = take-whole ss c.statements.i (omega (arith, c.statements-test.false)) in
    record {
      costs = c.statements.invariant.costs;
      costs_are = subst (λ (list : List Statement). totals.AreCosts setting.cat.now setting.shapes.now c.args.config.now list c.statements.invariant.costs) whole c.statements.invariant.costs_are;
      sum = c.statements.invariant.sum_is ∙ ap (λ (list : List Statement). totals.weighted_sum list c.statements.invariant.costs) whole;
    }
