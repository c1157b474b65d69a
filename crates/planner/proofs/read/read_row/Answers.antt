use Rattle.std.proofs.Common.{◌≡◌, ℕ, ◌^◌, ◌<◌, length, below_more, arith}
use Rattle.planner.specs.Fronts.{asked, listed}
use Rattle.planner.specs.Cells.{cost_at}
use Rattle.planner.specs.inner.Steps.{SlotBound}
use Rattle.planner.proofs.Reading.{slot_lower}
use Rattle.planner.proofs.read.read_row.Goals as goal

pub loop-slot-preserved : goal.loop-slot-preserved
loop-slot-preserved g c =
    let table = g.O.Offers.table c.args.offers.now in
    let list = listed c.args.task.now in
    let fronts = c.args.fronts.now in
    let new = c.read_if.new.row in
    let P : ℕ → Type 0 = λ s. 2 ^ s ≡ c.args.set → (f : ℕ) → f < length fronts → SlotBound table (asked list fronts f) s (cost_at new f) in
    record {
      offers = c.read_if.ensures.offers;
      lower = λ f within. let a = c.read_if.ensures.lower f within in let b = c.loop-slot.invariant.lower f within in omega arith;
      bounds = below_more P c.loop-slot.slot (λ s h is f within. slot_lower table (asked list fronts f) s (cost_at c.loop-slot.row f) (cost_at new f) (c.read_if.ensures.lower f within) (c.loop-slot.invariant.bounds s h is f within)) c.read_if.ensures.bounds;
    }

pub returns-clause-bounds : goal.returns-clause-bounds
returns-clause-bounds g c =
    λ f within. record { each = λ slot offer slot_in offer_in is begins. (c.loop-slot.invariant.bounds slot (omega arith) is f within).each offer offer_in begins }
