use Rattle.std.proofs.Common.{◌≡◌, ◌∙◌, ◌<◌, [], ◌∷◌, ◌++◌, ℕ, List, length, ap, arith}
use Rattle.std.specs.Prelude.{slice_index_or, slice_set}
use Rattle.std.proofs.lemmas.List.{get_or_default}
use Rattle.lagrange_bound.specs.CandidateUses.{weighted_rents}
use Rattle.lagrange_bound.specs.declared.uses.WeightedGrant.{WeightedGrant}
use Rattle.lagrange_bound.proofs.FlatSlots.{bring-push}
use Rattle.lagrange_bound.proofs.uses.push_grant.Goals as goal

pub returns-clause-bring : goal.returns-clause-bring
returns-clause-bring c =
    let all : List (List WeightedGrant) = c.args.all.now.items in
    let owner : ℕ = c.args.owner in
    let within : owner < length all = omega (arith, c.requires.long, c.ranges.owner.fits) in
    let old : c.behind-all.inside.items.items ≡ slice_index_or all owner [] = c.behind-all.view_is ∙ c.index_mut.ensures.value ∙ get_or_default all owner c.index_mut.result.now [] within in
    let put : c.push.new.self.items ≡ slice_index_or all owner [] ++ c.args.grant ∷ [] = c.in_ok-push.ensures.items ∙ ap (λ (uses : List WeightedGrant). uses ++ c.args.grant ∷ []) old in
    λ a rents.
    ap (λ (uses : List WeightedGrant). weighted_rents (slice_index_or (slice_set all owner uses) a []) rents) put
    ∙ bring-push all c.args.grant owner a rents within
