use Rattle.std.proofs.Common.{◌∙◌, ◌+◌, ◌*◌, ◌<◌, ◌≤◌, ℕ, length, get_or, sym, ap, arith}
use Rattle.std.proofs.Math.Nat.{mul-le-mul}
use Rattle.std.proofs.lemmas.Option.{slice_get-get_or}
use Rattle.adv_base.specs.declared.limits.TheConstants.{MOST_WEIGHT}
use Rattle.plan_model.specs.declared.plan.TheConstants.{MOST_COST}
use Rattle.gap_checker.proofs.Keeping.{sum-more}
use Rattle.gap_checker.proofs.memo.weighted_sum.Goals as goal

pub loop-i-preserved : goal.loop-i-preserved
loop-i-preserved c =
    let statements = c.args.setting.now.statements.now in
    let costs = c.args.costs.now in
    let i = c.loop-i.i in
    let statement = c.statement_at-statement.result.now in
    let cost : ℕ = get_or costs i 0 in
    let within : i < length costs = omega (arith, c.requires.count, c.loop-i-test.true) in
    let below : cost ≤ MOST_COST = c.requires.most i 0 within in
    let weight : statement.weight * cost ≤ MOST_WEIGHT * MOST_COST = mul-le-mul statement.limits.weight_most below in
    record {
      sum_is =
          ap (λ (n : ℕ). n + statement.weight * cost) c.loop-i.invariant.sum_is
          ∙ sym (sum-more statements costs i statement cost c.statement_at-statement.ensures (slice_get-get_or costs i 0 within));
      small = omega (arith, weight, c.loop-i.invariant.small);
    }
