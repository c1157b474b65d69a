use Rattle.std.proofs.Common.{◌<◌, length, slice_index_or, sym, ap, subst, ◌∙◌, arith}
use Rattle.std.proofs.lemmas.List.{get_or_default}
use Rattle.adv_base.specs.Items.{Order}
use Rattle.planner.specs.declared.front.Front.{Front}
use Rattle.planner.specs.declared.front.Front.TheVariants.{Any}
use Rattle.planner.specs.Fronts.{front_order, listed}
use Rattle.planner.specs.inner.Built.{GivesOffer}
use Rattle.planner.proofs.again.find_in_slot.Goals as goal

pub returns-clause-found : goal.returns-clause-found
returns-clause-found g c =
    λ x e.
    let table = g.O.Offers.table c.args.offers.now in
    let fronts = c.as_slice-fronts.result.now in
    let within : c.args.f < length fronts = omega (arith, c.requires.front_in, ap length c.as_slice-fronts.ensures.value) in
    let is = get_or_default fronts c.args.f _ Any within ∙ ap (λ fs. slice_index_or fs c.args.f Any) c.as_slice-fronts.ensures.value in
    let o = subst (λ (front : Front). GivesOffer table c.args.slot (front_order c.wanted_list.result.now front) c.args.cost x) is (c.find_offer.ensures.found x e) in
    let p = subst (λ (l : Order). GivesOffer table c.args.slot (front_order l (slice_index_or c.args.ways.now.fronts.items c.args.f Any)) c.args.cost x) c.wanted_list.ensures.exact o in
    record {
      slot_in = c.requires.slot_in;
      offer_in = p.within;
      set_is = c.is_slot_set.ensures.yes c.if-not-is_slot_set.false;
      begins = p.begins;
      costs = p.costs;
    }

pub returns-clause-none : goal.returns-clause-none
returns-clause-none g c =
    λ none k h.
    let table = g.O.Offers.table c.args.offers.now in
    let fronts = c.as_slice-fronts.result.now in
    let within : c.args.f < length fronts = omega (arith, c.requires.front_in, ap length c.as_slice-fronts.ensures.value) in
    let is = get_or_default fronts c.args.f _ Any within ∙ ap (λ fs. slice_index_or fs c.args.f Any) c.as_slice-fronts.ensures.value in
    let p : GivesOffer table c.args.slot (front_order (listed c.args.ways.now.task.now) (slice_index_or c.args.ways.now.fronts.items c.args.f Any)) c.args.cost k = record { within = h.offer_in; begins = h.begins; costs = h.costs } in
    let o = subst (λ (l : Order). GivesOffer table c.args.slot (front_order l (slice_index_or c.args.ways.now.fronts.items c.args.f Any)) c.args.cost k) (sym c.wanted_list.ensures.exact) p in
    c.find_offer.ensures.none none k (subst (λ (front : Front). GivesOffer table c.args.slot (front_order c.wanted_list.result.now front) c.args.cost k) (sym is) o)
