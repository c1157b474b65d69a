use Rattle.std.proofs.Common.{◌≡◌, ℕ, ◌<◌, ◌≤◌, length, below_more, subst, arith}
use Rattle.adv_base.specs.Items.{Order, BeginsWith}
use Rattle.adv_base.specs.OfferTables.{price_at, order_at}
use Rattle.planner.specs.Fronts.{asked, begins_test, listed}
use Rattle.planner.specs.Cells.{cell_at, cost_at}
use Rattle.planner.specs.inner.Steps.{offered}
use Rattle.planner.proofs.Reading.{offered_lower, offered_bound, offered_made}
use Rattle.planner.proofs.read.read_slot.Goals as goal

pub loop-offer-preserved : goal.loop-offer-preserved
loop-offer-preserved g c =
    let task = c.args.task.now in
    let table = g.O.Offers.table c.args.offers.now in
    let list = listed c.args.task.now in
    let fronts = c.args.fronts.now in
    let offer = c.loop-offer.offer in
    let old = c.loop-offer.row in
    let new = c.read_offer.new.row in
    let each = subst (λ (l : Order). (f : ℕ) → f < length fronts → cell_at new f ≡ offered (cell_at old f) (begins_test (order_at table c.args.slot offer) (asked l fronts f)) (price_at table c.args.slot offer)) c.wanted_list-list.ensures.exact c.read_offer.ensures in
    let lower = offered_lower task table list fronts c.args.set c.args.slot offer old new each in
    let P : ℕ → Type 0 = λ k. (f : ℕ) → f < length fronts → BeginsWith (order_at table c.args.slot k) (asked list fronts f) → cost_at new f ≤ price_at table c.args.slot k in
    record {
      offers = offered_made task table list fronts c.args.set c.args.slot offer old new each c.requires.slot_in (omega (arith, c.count-offer-end.ensures, c.loop-offer-test.true)) c.requires.set_is c.loop-offer.invariant.offers;
      lower = λ f within. let a = lower f within in let b = c.loop-offer.invariant.lower f within in omega arith;
      bounds = below_more P offer (λ k h f within begins. let a = lower f within in let b = c.loop-offer.invariant.bounds k h f within begins in omega arith) (offered_bound task table list fronts c.args.set c.args.slot offer old new each);
    }
