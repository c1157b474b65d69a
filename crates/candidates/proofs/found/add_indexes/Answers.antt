use Rattle.std.proofs.Common.{◌≡◌, ◌+◌, [], List, map, drop, ap, sym, ◌∙◌, arith}
use Rattle.adv_base.specs.declared.catalogue.index.Index.{Index}
use Rattle.candidates.specs.Candidates.{with_proposal, plain_form}
use Rattle.candidates.specs.inner.Known.{as_proposals, with_all}
use Rattle.candidates.specs.Proposals.{Proposal}
use Rattle.candidates.proofs.KnownLemmas.{fold-map_here}
use Rattle.candidates.proofs.found.add_indexes.Goals as goal

pub indexes-preserved : goal.indexes-preserved
indexes-preserved c =
    let at = c.indexes.index-index in
    let indexes : List Index = c.args.indexes.now in
    let list : Index → Proposal = λ index. plain_form index.shape in
    let step = fold-map_here (with_proposal []) list (as_proposals c.indexes.known.keys) indexes at c.index-item.result (omega arith) c.index-item.is in
    let added : as_proposals c.add_index.new.known.keys ≡ with_proposal [] (as_proposals c.indexes.known.keys) (list c.index-item.result) = cc (c.in_ok-add_index.ensures) in
    ap (λ (known : List Proposal). with_all known (map list (drop (at + 1) indexes))) added ∙ sym step ∙ c.indexes.invariant
