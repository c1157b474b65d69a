use Rattle.std.proofs.Common.{ap, ◌∙◌, refl}
use Rattle.candidates.specs.Candidates.{is_same}
use Rattle.candidates.specs.inner.Known.{as_proposal, as_proposals}
use Rattle.candidates.proofs.KnownLemmas.{as_proposals-insert_key}
use Rattle.candidates.proofs.known.insert_proposal.Goals as goal

pub returns : goal.returns
returns c =
    let inserted = ap as_proposals c.in_ok-insert.ensures.keys in
    inserted ∙ as_proposals-insert_key (λ x y. is_same (as_proposal x) (as_proposal y)) (λ x y. refl) c.args.proposal c.args.known.now.keys c.requires.some c.requires.few
