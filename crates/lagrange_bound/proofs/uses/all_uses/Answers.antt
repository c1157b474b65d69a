use Rattle.std.proofs.Common.{◌≡◌, ◌∙◌, ◌+◌, ◌-◌, ◌*◌, ◌≤◌, ℕ, suc, List, [], drop, get_or, length, take, refl, ap, arith}
use Rattle.std.specs.Prelude.{Some, slice_get, slice_index_or, sum_by}
use Rattle.std.proofs.lemmas.List.{get_or_default, length-drop, length-take-le}
use Rattle.std.proofs.lemmas.List.Sums.{sum_by_more}
use Rattle.std.proofs.lemmas.Option.{slice_get-get_or}
use Rattle.bip_model.specs.declared.part.Part.{Part}
use Rattle.bip_model.specs.Values.{part_grants}
use Rattle.lagrange_bound.specs.Bounds.{part_rents}
use Rattle.lagrange_bound.proofs.EarnedRents.{parts-step}
use Rattle.lagrange_bound.proofs.FlatSlots.{owned-part}
use Rattle.lagrange_bound.specs.CandidateUses.{weighted_rents}
use Rattle.lagrange_bound.proofs.uses.all_uses.Goals as goal

pub loop-i-preserved : goal.loop-i-preserved
loop-i-preserved c =
    let parts : List Part = c.args.parts.now in
    let i : ℕ = c.loop-i.i in
    let at : ℕ = c.span-at.result.0 in
    let n : ℕ = c.span-at.result.1 - c.span-at.result.0 in
    let part : Part = get_or parts i c.index-parts-i.result in
    let more : sum_by part_grants (take (i + 1) parts) ≡ sum_by part_grants (take i parts) + part_grants part = sum_by_more part_grants parts i c.index-parts-i.result c.loop-i-test.true in
    let count : n ≡ part_grants part = omega (arith, more, c.span-at.ensures.start, c.span-at.ensures.end) in
    let found : slice_get parts i ≡ Some part = slice_get-get_or parts i c.index-parts-i.result c.loop-i-test.true in
    let next : at + part_grants part ≡ sum_by part_grants (take (i + 1) parts) = omega (arith, more, c.span-at.ensures.start) in
    let left : length (drop at c.args.owners.now) ≡ length c.args.owners.now - at = length-drop at c.args.owners.now in
    let long : length (take n (drop at c.args.owners.now)) ≡ n = length-take-le n (drop at c.args.owners.now) (omega (arith, left, c.span-at.ensures.order, c.span-at.ensures.most)) in
    let room : at + length (take n (drop at c.args.owners.now)) ≤ sum_by part_grants parts = omega (arith, long, c.span-at.ensures.order, c.span-at.ensures.most, c.requires.owner_each) in
    record {
      long = c.push_part.ensures.long;
      within = λ a. c.in_ok-push_part.ensures.within a (sum_by part_grants parts) room (c.loop-i.invariant.within a);
      bring = λ a rents each.
          let old : ℕ = weighted_rents (slice_index_or c.loop-i.all.items a []) rents in
          let own = owned-part a parts c.args.owners.now rents i at n part c.requires.owner_each c.requires.owners found c.span-at.ensures.start count in
          let paid = ap (λ (m : ℕ). part.weight * m) own in
          let made = c.in_ok-push_part.ensures.bring a rents (omega (arith, room, each)) in
          let place = ap (λ (m : ℕ). old + part_rents (suc a) (drop i parts) (drop m rents)) c.span-at.ensures.start in
          let step = parts-step parts rents at i part part.slots a old _ c.loop-i-test.true (get_or_default parts i _ _ c.loop-i-test.true) refl (place ∙ c.loop-i.invariant.bring a rents each) in
          let moved = ap (λ (m : ℕ). part_rents (suc a) (drop (i + 1) parts) (drop m rents)) next in
          omega (arith, step, made, paid, moved);
    }
