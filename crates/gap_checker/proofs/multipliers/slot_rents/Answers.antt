use Rattle.std.proofs.Common.{◌≡◌, ◌+◌, ◌==◌, ℕ, length, take, ap, arith}
use Rattle.std.specs.Prelude.{if◌then◌else◌}
use Rattle.plan_model.specs.Lagrangian as lagrangian
use Rattle.gap_checker.specs.Views as views
use Rattle.gap_checker.proofs.Adding.{slot_rents-more}
use Rattle.gap_checker.proofs.Lists.{take-next, length-front}
use Rattle.gap_checker.proofs.multipliers.slot_rents.Goals as goal

pub loop-s-preserved : goal.loop-s-preserved
loop-s-preserved c =
    let slots = c.args.slots.now in
    let s = c.loop-s.s in
    let slot = c.index-slots-s.result in
    let rent : ℕ → ℕ = λ n. views.rent_in c.args.rents.now.entries.now c.args.statement n c.args.candidate in
    let place : 0 + length (take s slots) ≡ s = omega (arith, length-front slots s (omega (arith, c.loop-s-test.true))) in
    let own = ap (λ (n : ℕ). if slot.table == c.args.table then rent n else 0) place in
    let more = slot_rents-more rent c.args.table 0 (take s slots) slot in
    let front = ap (lagrangian.slot_rents rent c.args.table 0) (take-next slots s slot c.loop-s-test.true c.index-slots-s.is) in
    record { sum_is = omega (arith, c.loop-s.invariant.sum_is, c.slot_rent.ensures.exact, own, more, front); most = omega (arith, c.loop-s.invariant.most, c.slot_rent.ensures.most) }
