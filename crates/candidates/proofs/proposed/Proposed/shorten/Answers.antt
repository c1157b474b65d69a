use Rattle.std.proofs.Common.{◌≡◌, ◌+◌, List, ℕ, take, drop, length, sym, ap, ◌∙◌, arith}
use Rattle.std.proofs.lemmas.List.{length-map, length-drop, take-take, take-map, drop-take}
use Rattle.candidates.specs.Growing.{TheProposed, the_proposed}
use Rattle.candidates.specs.Proposals.{Proposal}
use Rattle.candidates.specs.inner.Known.{as_proposal, as_proposals}
use Rattle.candidates.proofs.proposed.Proposed.shorten.Goals as goal

pub overflow_add-self-inside : goal.overflow_add-self-inside
overflow_add-self-inside c =
    let ks = c.self.inside.known.keys in
    let fresh : length (drop c.self.inside.existing (as_proposals ks)) ≡ length c.args.self.now.fresh = ap (λ (p : TheProposed). length p.fresh) c.self.view_is in
    omega (arith, c.self.invariant, c.requires, fresh, length-drop c.self.inside.existing (as_proposals ks), length-map ks as_proposal, c.len-all.ensures.len)

pub returns : goal.returns
returns c =
    let n : ℕ = c.self.inside.existing in
    let count : ℕ = c.args.count in
    let ks = c.self.inside.known.keys in
    let all : List Proposal = as_proposals ks in
    let kept : as_proposals c.truncate.new.self.keys ≡ take (n + count) all = ap as_proposals c.truncate.ensures.keys ∙ sym (take-map as_proposal (n + count) ks) in
    let front : take n (take (n + count) all) ≡ take n all = take-take n (n + count) all (omega arith) in
    let back : drop n (take (n + count) all) ≡ take count (drop n all) = drop-take n count all in
    ap (λ (ps : List Proposal). the_proposed (take n ps) (drop n ps)) kept
    ∙ ap (λ (ps : List Proposal). the_proposed ps (drop n (take (n + count) all))) front
    ∙ ap (λ (ps : List Proposal). the_proposed (take n all) ps) back
    ∙ ap (λ (p : TheProposed). the_proposed p.existing (take count p.fresh)) c.self.view_is
