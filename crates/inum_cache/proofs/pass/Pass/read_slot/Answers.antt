use Rattle.std.proofs.Common.{◌≡◌, ◌^◌, ◌≤◌, arith}
use Rattle.std.proofs.Math.Pow.{pow_mono}
use Rattle.inum_cache.specs.Numbering.{size_in}
use Rattle.inum_cache.specs.inner.Cells.{SomeBelow}
use Rattle.inum_cache.specs.inner.Passes.{PlaceGives}
use Rattle.inum_cache.proofs.Taking.{takes-all, takes-more, takes-start, takes-unless, takes-when}
use Rattle.inum_cache.proofs.pass.Pass.read_slot.Goals as goal

pub loop-place-init : goal.loop-place-init
loop-place-init c =
    let orders = c.args.self.now.choices.now.orders in
    takes-start orders (PlaceGives c.args.self.now.ways orders c.args.front c.args.slot) c.args.cell.now.items

pub loop-place-preserved : goal.loop-place-preserved
loop-place-preserved c =
    let orders = c.args.self.now.choices.now.orders in
    takes-more orders (PlaceGives c.args.self.now.ways orders c.args.front c.args.slot) c.loop-place.place c.args.cell.now.items c.loop-place.cell.items c.read_place.new.cell.items c.loop-place.invariant c.in_ok-read_place.ensures

pub returns-then-slot-set : goal.returns-then-slot-set
returns-then-slot-set c =
    let orders = c.args.self.now.choices.now.orders in
    let slots = c.args.self.now.ways.task.now.limits.slots_most in
    takes-unless orders (2 ^ c.args.slot ≡ c.args.set) (SomeBelow (size_in orders c.args.slot) (PlaceGives c.args.self.now.ways orders c.args.front c.args.slot)) c.args.cell.now.items
    (λ same. c.if-slot-set.true (let few : c.args.slot ≤ 7 = omega (arith, c.requires.slot_in, slots) in let most : 2 ^ c.args.slot ≤ 2 ^ 7 = pow_mono few in omega (arith, same)))

pub returns : goal.returns
returns c =
    let orders = c.args.self.now.choices.now.orders in
    let slots = c.args.self.now.ways.task.now.limits.slots_most in
    takes-when orders (2 ^ c.args.slot ≡ c.args.set) (SomeBelow (size_in orders c.args.slot) (PlaceGives c.args.self.now.ways orders c.args.front c.args.slot)) c.args.cell.now.items c.loop-place.cell.items
    (let few : c.args.slot ≤ 7 = omega (arith, c.requires.slot_in, slots) in let most : 2 ^ c.args.slot ≤ 2 ^ 7 = pow_mono few in omega (arith, c.if-slot-set.false))
    (takes-all orders (PlaceGives c.args.self.now.ways orders c.args.front c.args.slot) c.loop-place.place (size_in orders c.args.slot) c.args.cell.now.items c.loop-place.cell.items (omega (arith, c.loop-place-test.false, c.loop-place.auto.place-end, c.size-place-end.ensures)) c.loop-place.invariant)
