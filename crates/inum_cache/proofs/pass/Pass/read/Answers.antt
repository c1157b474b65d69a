use Rattle.std.proofs.Common.{arith}
use Rattle.inum_cache.specs.inner.Passes.{SlotGives}
use Rattle.inum_cache.proofs.Taking.{takes-all, takes-more, takes-start}
use Rattle.inum_cache.proofs.pass.Pass.read.Goals as goal

pub loop-slot-init : goal.loop-slot-init
loop-slot-init c =
    let orders = c.args.self.now.choices.now.orders in
    takes-start orders (SlotGives c.args.self.now.ways orders c.args.set c.args.front) c.args.cell.now.items

pub loop-slot-preserved : goal.loop-slot-preserved
loop-slot-preserved c =
    let orders = c.args.self.now.choices.now.orders in
    takes-more orders (SlotGives c.args.self.now.ways orders c.args.set c.args.front) c.loop-slot.slot c.args.cell.now.items c.loop-slot.cell.items c.read_slot.new.cell.items c.loop-slot.invariant c.in_ok-read_slot.ensures

pub returns : goal.returns
returns c =
    let orders = c.args.self.now.choices.now.orders in
    takes-all orders (SlotGives c.args.self.now.ways orders c.args.set c.args.front) c.loop-slot.slot c.args.self.now.ways.task.now.slots c.args.cell.now.items c.loop-slot.cell.items (omega (arith, c.loop-slot-test.false, c.loop-slot.auto.slot-end)) c.loop-slot.invariant
