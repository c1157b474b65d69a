use Rattle.std.proofs.Common.{◌≡◌, ◌+◌, ◌*◌, ◌≤◌, ℕ, get_or, length, take, ap, arith}
use Rattle.std.proofs.Math.Nat.{mul-le-mul}
use Rattle.adv_base.specs.declared.limits.TheConstants.{MOST_RENT, MOST_SLOTS, MOST_WEIGHT}
use Rattle.adv_base.specs.declared.workload.Statement.{Statement}
use Rattle.plan_model.specs.Lagrangian as lagrangian
use Rattle.gap_checker.specs.Views as views
use Rattle.gap_checker.proofs.Adding.{statement_rents, weighted_rents-more}
use Rattle.gap_checker.proofs.Lists.{take-next, length-front}
use Rattle.gap_checker.proofs.multipliers.weighted_rents.Goals as goal

pub loop-i-preserved : goal.loop-i-preserved
loop-i-preserved c =
    let statements = c.args.setting.now.statements.now in
    let i = c.loop-i.i in
    let statement = get_or statements i c.index-setting-i.result in
    let is : statement ≡ get_or statements i statement = ap (λ (s : Statement). get_or statements i s) c.index-setting-i.is in
    let rent : ℕ → ℕ → ℕ = λ q s. views.rent_in c.args.rents.now.entries.now q s c.args.candidate in
    let place : 1 + length (take i statements) ≡ i + 1 = omega (arith, length-front statements i (omega (arith, c.loop-i-test.true))) in
    let own = ap (λ (q : ℕ). statement.weight * statement_rents rent c.args.table q statement) place in
    let cost = ap (λ (n : ℕ). statement.weight * n) c.statement_rents-own.ensures.exact in
    let more = weighted_rents-more rent c.args.table 1 (take i statements) statement in
    let front = ap (lagrangian.weighted_rents rent c.args.table 1) (take-next statements i statement c.loop-i-test.true is) in
    let most : statement.weight * c.statement_rents-own.result ≤ MOST_WEIGHT * (MOST_SLOTS * MOST_RENT) = mul-le-mul statement.limits.weight_most c.statement_rents-own.ensures.most in
    record { sum_is = omega (arith, c.loop-i.invariant.sum_is, cost, own, more, front); most = omega (arith, c.loop-i.invariant.most, most) }
