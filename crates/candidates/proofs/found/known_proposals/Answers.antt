use Rattle.std.proofs.Common.{◌≡◌, ◌+◌, [], List, length, drop, ap, sym, ◌∙◌, arith}
use Rattle.std.specs.Prelude.{fold, take}
use Rattle.std.proofs.lemmas.List.{length-map, length-append, drop_at, take_at}
use Rattle.candidates.specs.Candidates.{with_proposal, existing_indexes, fresh_proposals}
use Rattle.candidates.specs.inner.Known.{as_proposal, as_proposals}
use Rattle.candidates.specs.Proposals.{Proposal, proposals}
use Rattle.candidates.proofs.FreshLaws.{known-fresh}
use Rattle.candidates.proofs.found.known_proposals.Goals as goal

pub returns : goal.returns
returns c =
    let cat = c.args.cat.now in
    let statements = c.args.statements.now in
    let base : List Proposal = as_proposals c.add_existing.new.known.keys in
    let known : List Proposal = as_proposals c.add_proposals.new.known.keys in
    let empty : as_proposals c.new-known.result.keys ≡ [] = ap as_proposals c.new-known.ensures.empty in
    let added : base ≡ fold (with_proposal []) (as_proposals c.new-known.result.keys) (existing_indexes cat) = cc (c.in_ok-add_existing.ensures) in
    let first : base ≡ fold (with_proposal []) [] (existing_indexes cat) = added ∙ ap (λ (k : List Proposal). fold (with_proposal []) k (existing_indexes cat)) empty in
    let next : known ≡ fold (with_proposal []) base (proposals cat statements) = cc (c.in_ok-add_proposals.ensures) in
    let all = known-fresh cat statements base known first next in
    let count : length base ≡ c.len-existing.result = length-map c.add_existing.new.known.keys as_proposal ∙ sym c.len-existing.ensures.len in
    let long : length known ≡ length base + length (fresh_proposals cat statements) = ap length all ∙ length-append base (fresh_proposals cat statements) in
    let same : length known ≡ length c.add_proposals.new.known.keys = length-map c.add_proposals.new.known.keys as_proposal in
    record {
      fresh = ap (drop c.len-existing.result) all ∙ drop_at base (fresh_proposals cat statements) c.len-existing.result count;
      within = omega (arith, count, long, same);
      existing = ap (take c.len-existing.result) all ∙ take_at base (fresh_proposals cat statements) c.len-existing.result count ∙ first;
    }
