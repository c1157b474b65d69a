use Rattle.std.proofs.Common.{◌≡◌, ℕ, ◌+◌, ◌-◌, List, length, map, drop, ap, sym, subst, ◌∙◌, arith}
use Rattle.std.specs.Prelude.{take, min, All}
use Rattle.std.proofs.lemmas.List.{length-map, length-drop, length-take}
use Rattle.adv_base.specs.declared.limits.TheConstants.{MOST_CANDIDATES}
use Rattle.adv_base.specs.Limits.Numbers.{KeyLimits}
use Rattle.candidates.specs.Candidates.{proposal_of, fresh_proposals}
use Rattle.candidates.specs.inner.Known.{as_proposal, as_proposals}
use Rattle.candidates.specs.Proposals.{Proposal}
use Rattle.candidates.proofs.ListLemmas.{take-least}
use Rattle.candidates.proofs.SoundLaws.{fresh-limits, shapes-named}
use Rattle.candidates.proofs.found.candidates.Goals as goal

pub shapes_between-requires-clause-limits : goal.shapes_between-requires-clause-limits
shapes_between-requires-clause-limits c =
    subst (All (λ (p : Proposal). KeyLimits p.keys)) (sym c.in_ok-known.ensures.fresh) (fresh-limits c.args.cat.now c.args.statements.now c.requires)

pub returns : goal.returns
returns c =
    let fresh : List Proposal = fresh_proposals c.args.cat.now c.args.statements.now in
    let n : ℕ = c.in_ok-known.existing in
    let kept : ℕ = c.min-kept.result in
    let behind : drop n (as_proposals c.in_ok-known.known.keys) ≡ fresh = c.in_ok-known.ensures.fresh in
    let count : length fresh ≡ c.len.result - n
    = sym (ap length behind) ∙ length-drop n (as_proposals c.in_ok-known.known.keys)
    ∙ ap (λ (k : ℕ). k - n) (length-map c.in_ok-known.known.keys as_proposal ∙ sym c.len.ensures.len) in
    let least : kept ≡ min (length fresh) MOST_CANDIDATES = c.min-kept.ensures ∙ ap (λ (k : ℕ). min k MOST_CANDIDATES) (sym count) in
    let places : n + kept - n ≡ kept = omega arith in
    let listed : map proposal_of c.in_ok-list.list ≡ take MOST_CANDIDATES fresh
    = c.in_ok-list.ensures.same ∙ ap (λ (k : ℕ). take k (drop n (as_proposals c.in_ok-known.known.keys))) places
    ∙ ap (take kept) behind ∙ take-least fresh kept MOST_CANDIDATES least in
    let long : length (map proposal_of c.in_ok-list.list) ≡ min MOST_CANDIDATES (length fresh) = ap length listed ∙ length-take MOST_CANDIDATES fresh in
    let same = length-map c.in_ok-list.list proposal_of in
    record {
      list = listed;
      left_over = omega (arith, count, least);
      not_unique = c.in_ok-list.ensures.not_unique;
      few = omega (arith, long, same);
      named = shapes-named c.args.cat.now c.args.statements.now c.in_ok-list.list MOST_CANDIDATES c.requires listed;
    }
