use Rattle.std.proofs.Common.{◌≡◌, ◌+◌, ◌*◌, ℕ, take, get_or, length, length-take, sym, ap, ◌∙◌, arith}
use Rattle.adv_base.specs.declared.workload.Statement.{Statement}
use Rattle.gap_checker.proofs.Adding.{costs-more, costs-sum}
use Rattle.cophy_core.proofs.PriceLists.{AreCosts-length, next_statement}
use Rattle.cophy_core.proofs.commands.what_if.prices_of.Goals as goal

pub add-requires-clause-room : goal.add-requires-clause-room
add-requires-clause-room c = simp (AreCosts-length _ _ _ _ _ c.statements.invariant.costs_are, length-take) (omega arith)

pub statements-preserved : goal.statements-preserved
statements-preserved c =
    let i = c.statements.at in
    let ss = c.args.setting.now.statements.now in
    let statement = get_or ss i c.index-setting-at.result in
    let cost = c.plan_cost-plan.result.0 + c.upkeep_of.result in
    let more = next_statement ss i statement c.statements-test.true (ap (λ (s : Statement). get_or ss i s) c.index-setting-at.is) in
    record {
      costs_are = rw (more, c.in_ok-add.ensures.costs) (costs-more _ _ _ _ _ statement cost c.statements.invariant.costs_are (record { plan = c.plan_cost-plan.result.0; plan_is = c.plan_cost-plan.ensures.cost; sum = ap (λ (n : ℕ). c.plan_cost-plan.result.0 + n) c.upkeep_of.ensures.exact }));
      total_is = rw (more, c.in_ok-add.ensures.costs, c.in_ok-add.ensures.total) (ap (λ (n : ℕ). n + statement.weight * cost) c.statements.invariant.total_is ∙ sym (costs-sum _ _ _ _ _ statement cost c.statements.invariant.costs_are));
      parts_are = c.plan_cost-plan.ensures.rest;
    }

pub returns-clause-each : goal.returns-clause-each
returns-clause-each c =
    let ss = c.args.setting.now.statements.now in
    let end : length (take c.statements.at ss) ≡ length ss = simp length-take (omega arith) in
    ap length c.prices.ensures.costs ∙ (AreCosts-length _ _ _ (take c.statements.at ss) c.statements.tally.costs.items c.statements.invariant.costs_are ∙ end)
