use Rattle.std.proofs.Common.{◌≡◌, ◌∙◌, ◌<◌, ◌≤◌, ℕ, Bool, List, All, length, take, sym, ap, subst, arith, rules}
use Rattle.std.specs.Prelude.{slice_get, slice_index_or, sum_by}
use Rattle.std.specs.Vec.{with_items}
use Rattle.std.proofs.lemmas.List.{with_items_is}
use Rattle.bip_model.specs.declared.part.Part.{Part}
use Rattle.bip_model.specs.Values.{part_grants}
use Rattle.lagrange_bound.specs.CandidateUses.{AreAllUses}
use Rattle.lagrange_bound.specs.ListedPrices.{slots_of}
use Rattle.lagrange_bound.specs.inner.CostsByLists.{AreOwners}
use Rattle.lagrange_bound.specs.inner.Marks.{AreNoted}
use Rattle.lagrange_bound.proofs.FlatSlots.{all-most}
use Rattle.lagrange_bound.proofs.ListedCosts.{owners-count}
use Rattle.lagrange_bound.proofs.cheaper.CheaperParts.new.Goals as goal

pub note_parts-requires-clause-few : goal.note_parts-requires-clause-few
note_parts-requires-clause-few c = subst (λ (parts : List Part). length parts ≤ 1000) (sym c.as_slice-parts.ensures) c.args.programme.now.limits.parts_most

pub write_starts-requires-clause-few : goal.write_starts-requires-clause-few
write_starts-requires-clause-few c = subst (λ (parts : List Part). length parts ≤ 1000) (sym c.as_slice-parts.ensures) c.args.programme.now.limits.parts_most

pub all_uses-requires-clause-starts : goal.all_uses-requires-clause-starts
all_uses-requires-clause-starts c =
    let start_each : length c.as_mut_slice-2.result.now ≡ length c.as_slice-parts.result.now = search rules in
    let starts_are : (with_items c.in_ok-starts.starts c.write_starts.new.starts).items ≡ c.write_starts.new.starts =
    with_items_is c.in_ok-starts.starts c.write_starts.new.starts (c.write_starts.ensures.place_each ∙ sym start_each ∙ c.as_mut_slice-2.ensures.len) in
    λ k within. ap (λ (xs : List ℕ). slice_index_or xs k 0) (c.as_slice-places.ensures.value ∙ starts_are) ∙ c.write_starts.ensures.exact k within

pub all_uses-requires-clause-owner_each : goal.all_uses-requires-clause-owner_each
all_uses-requires-clause-owner_each c =
    ap length c.as_slice-owners.ensures.value ∙ owners-count c.args.programme.now.parts c.in_ok-prices.prices c.in_ok-prices.ensures
    ∙ ap (λ (parts : List Part). sum_by part_grants parts) (sym c.as_slice-parts.ensures)

pub all_uses-requires-clause-owners : goal.all_uses-requires-clause-owners
all_uses-requires-clause-owners c =
    subst (λ (owners : List ℕ). AreOwners (slots_of c.as_slice-parts.result.now) owners) (sym c.as_slice-owners.ensures.value)
    (subst (λ (parts : List Part). AreOwners (slots_of parts) c.in_ok-prices.prices.owners.items) (sym c.as_slice-parts.ensures) c.in_ok-prices.ensures.owners_are)

pub all_uses-requires-clause-numbers : goal.all_uses-requires-clause-numbers
all_uses-requires-clause-numbers c =
    let parts : List Part = c.args.programme.now.parts in
    let each = ap length c.as_slice-owners.ensures.value ∙ owners-count parts c.in_ok-prices.prices c.in_ok-prices.ensures in
    let few : length parts ≤ 1000 = c.args.programme.now.limits.parts_most in
    omega (arith, each, all-most parts, few)

pub returns : goal.returns
returns c =
    let flags_are : (with_items c.in_ok-flags.flags c.note_parts.new.flags).items ≡ c.note_parts.new.flags =
    with_items_is c.in_ok-flags.flags c.note_parts.new.flags (c.note_parts.ensures.long ∙ c.as_mut_slice.ensures.len) in
    let start_each : length c.as_mut_slice-2.result.now ≡ length c.as_slice-parts.result.now = search rules in
    let starts_are : (with_items c.in_ok-starts.starts c.write_starts.new.starts).items ≡ c.write_starts.new.starts =
    with_items_is c.in_ok-starts.starts c.write_starts.new.starts (c.write_starts.ensures.place_each ∙ sym start_each ∙ c.as_mut_slice-2.ensures.len) in
    let long : length c.in_ok-flags.flags.items ≡ 256000 = search rules in
    record {
      flags_each = ap length flags_are ∙ c.note_parts.ensures.long ∙ ap length c.as_mut_slice.ensures.value ∙ long;
      starts_each = ap length starts_are ∙ c.write_starts.ensures.place_each ∙ ap length c.as_slice-parts.ensures;
      starts_are = λ i within.
          ap (λ (xs : List ℕ). slice_index_or xs i 0) starts_are
          ∙ c.write_starts.ensures.exact i (subst (λ (parts : List Part). i < length parts) (sym c.as_slice-parts.ensures) within)
          ∙ ap (λ (parts : List Part). sum_by part_grants (take i parts)) c.as_slice-parts.ensures;
      uses = subst (λ (parts : List Part). AreAllUses parts c.in_ok-uses.uses.items) c.as_slice-parts.ensures c.in_ok-uses.ensures;
      noted = λ i part found.
          subst (λ (flags : List Bool). All (AreNoted flags i) part.slots) (sym flags_are)
          (c.note_parts.ensures.noted i part (ap (λ (parts : List Part). slice_get parts i) c.as_slice-parts.ensures ∙ found));
      prices = search rules;
    }
