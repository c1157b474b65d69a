use Rattle.std.proofs.Common.{◌≡◌, ◌-◌, [], ◌∷◌, ◌++◌, List, map, drop, ap, sym, ◌∙◌, subst}
use Rattle.std.specs.Prelude.{take}
use Rattle.std.proofs.lemmas.List.{map-append}
use Rattle.std.proofs.lemmas.List.Elements.{All-push}
use Rattle.adv_base.specs.Limits.Numbers.{KeyLimits}
use Rattle.candidates.specs.Candidates.{proposal_of, IsNotUnique}
use Rattle.candidates.specs.declared.known.Proposal.{Proposal as OwnedProposal}
use Rattle.candidates.specs.inner.Known.{as_proposal, as_proposals}
use Rattle.candidates.specs.Proposals.{Proposal}
use Rattle.candidates.proofs.ListLemmas.{drop-map_at, take-map_more}
use Rattle.std.specs.List.{All}
use Rattle.candidates.proofs.found.shapes_between.Goals as goal

pub shape_of-requires-in-places : goal.shape_of-requires-in-places
shape_of-requires-in-places c =
    let known : List OwnedProposal = c.args.known.now.keys in
    let there = drop-map_at as_proposal known c.args.from c.places.at c.index.result.now c.places.auto.at c.index.ensures in
    subst (λ (p : Proposal). KeyLimits p.keys) there.1 (c.requires.limits (c.places.at - c.args.from) (as_proposal c.index.result.now) there.0)

pub places-preserved : goal.places-preserved
places-preserved c =
    let known : List OwnedProposal = c.args.known.now.keys in
    let shape = c.in_ok-shape_of.field-0 in
    let pushed : c.push.new.self.items ≡ c.places.list.items ++ shape ∷ [] = cc (c.in_ok-push.ensures.items) in
    let same : proposal_of shape ≡ as_proposal c.index.result.now = cc (c.in_ok-shape_of.ensures.same) in
    let more = take-map_more as_proposal known c.args.from c.places.at c.index.result.now c.places.auto.at c.index.ensures in
    let mapped : map proposal_of (c.places.list.items ++ shape ∷ []) ≡ take (c.places.at - c.args.from) (drop c.args.from (as_proposals known)) ++ as_proposal c.index.result.now ∷ []
    = map-append proposal_of c.places.list.items (shape ∷ [])
    ∙ ap (λ (ys : List Proposal). ys ++ proposal_of shape ∷ []) c.places.invariant.0
    ∙ ap (λ (p : Proposal). take (c.places.at - c.args.from) (drop c.args.from (as_proposals known)) ++ p ∷ []) same in (
      ap (map proposal_of) pushed ∙ mapped ∙ sym more,
      subst (All IsNotUnique) (sym pushed) (All-push IsNotUnique c.places.list.items shape c.places.invariant.1 c.in_ok-shape_of.ensures.not_unique),
    )
