use Rattle.std.proofs.Common.{◌≡◌, ℕ, ◌+◌, ◌*◌, ◌^◌, ◌<◌, ◌≤◌, ◌-◌, zero, suc, refl, ◌∙◌, ap, add-one, add-zero, add-suc, pow-suc, arith, length}
use Rattle.std.proofs.Math.Nat.{mul-le-mul}
use Rattle.plan_model.specs.declared.task.Task.{Task}
use Rattle.plan_model.specs.Orders.{interesting_orders, combinations_below, combinations}
use Rattle.interesting_orders.proofs.orders.combinations.Goals as goal

below-step : (task : Task) (slot : ℕ) → combinations_below task (slot + 1) ≡ combinations_below task slot * length (interesting_orders task slot)
unfolding combinations_below
below-step task slot = rw add-one

product-step : (p n s : ℕ) → p ≤ 203 ^ s → n ≤ 203 → p * n ≤ 203 ^ (s + 1)
product-step p n s few least = rw (add-one, pow-suc) (mul-le-mul few least)

pow-grows : (s k : ℕ) → 203 ^ s ≤ 203 ^ (s + k)
pow-grows s zero = rw add-zero (omega arith)
pow-grows s (suc k) = rw (add-suc, pow-suc) (omega (arith, pow-grows s k))

product-small : (p s : ℕ) → p ≤ 203 ^ s → s ≤ 8 → p < 2 ^ 63
product-small p s few least =
    let reach : s + (8 - s) ≡ 8 = omega arith in
    let most : 203 ^ s ≤ 203 ^ 8 = rw reach at (pow-grows s (8 - s)) in
    omega arith

pub loop-slot-init : goal.loop-slot-init
unfolding combinations_below
loop-slot-init c = record { counted = refl; small = omega arith }

pub overflow_mul-product : goal.overflow_mul-product
overflow_mul-product c =
    let more = product-step c.loop-slot.product c.order_count-product.result c.loop-slot.slot c.loop-slot.invariant.small c.order_count-product.ensures.few in
    let small = product-small _ (c.loop-slot.slot + 1) more (omega (arith, c.args.task.now.limits.slots_most)) in
    omega arith

pub loop-slot-preserved : goal.loop-slot-preserved
loop-slot-preserved c =
    record {
      counted =
          let step = below-step c.args.task.now c.loop-slot.slot in
          cc;
      small = product-step c.loop-slot.product c.order_count-product.result c.loop-slot.slot c.loop-slot.invariant.small c.order_count-product.ensures.few;
    }

pub returns-clause-exact : goal.returns-clause-exact
unfolding combinations
returns-clause-exact c =
    let end : c.loop-slot.slot ≡ c.args.task.now.slots = omega arith in
    c.loop-slot.invariant.counted ∙ ap (combinations_below c.args.task.now) end

pub returns-clause-small : goal.returns-clause-small
returns-clause-small c = product-small c.loop-slot.product c.loop-slot.slot c.loop-slot.invariant.small (omega (arith, c.args.task.now.limits.slots_most))
