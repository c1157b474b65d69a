use Rattle.std.proofs.Common.{ℕ, below_more, sym, subst, ◌∙◌, arith}
use Rattle.std.proofs.lemmas.Bool.{false≢true}
use Rattle.std.proofs.lemmas.Option.{same_Some}
use Rattle.planner.specs.Fronts.{front_order}
use Rattle.planner.specs.inner.Built.{GivesOffer}
use Rattle.planner.proofs.Choosing.{offer_from_test, test_from_offer}
use Rattle.planner.proofs.again.find_offer.Goals as goal

pub returns-then-offer_gives-clause-found : goal.returns-then-offer_gives-clause-found
returns-then-offer_gives-clause-found g c =
    λ x e.
    let table = g.O.Offers.table c.args.offers.now in
    let order = front_order c.args.list.now c.args.front in
    subst (GivesOffer table c.args.slot order c.args.cost) (same_Some c.loop-offer.offer x e) (offer_from_test table c.args.slot order c.args.cost c.loop-offer.offer (omega (arith, c.count-offer-end.ensures, c.loop-offer-test.true)) (sym c.offer_gives.ensures ∙ c.if-offer_gives.true))

pub loop-offer-preserved : goal.loop-offer-preserved
loop-offer-preserved g c =
    let table = g.O.Offers.table c.args.offers.now in
    let order = front_order c.args.list.now c.args.front in
    let P : ℕ → Type 0 = λ k. ¬ (GivesOffer table c.args.slot order c.args.cost k) in
    below_more P c.loop-offer.offer c.loop-offer.invariant (λ h. false≢true (sym c.if-offer_gives.false ∙ c.offer_gives.ensures ∙ test_from_offer table c.args.slot order c.args.cost c.loop-offer.offer h))
