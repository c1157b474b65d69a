use Rattle.std.proofs.Common.{◌≡◌, ◌+◌, [], List, drop, ap, sym, ◌∙◌, arith}
use Rattle.std.specs.List.{flat_map}
use Rattle.adv_base.specs.declared.workload.Statement.{Statement}
use Rattle.candidates.specs.Candidates.{with_proposal}
use Rattle.candidates.specs.inner.Known.{as_proposals, with_all}
use Rattle.candidates.specs.Proposals.{Proposal, work_proposals}
use Rattle.candidates.proofs.KnownLemmas.{fold-flat_map_here}
use Rattle.candidates.proofs.proposals.add_proposals.Goals as goal

pub statements-preserved : goal.statements-preserved
statements-preserved c =
    let at = c.statements.at in
    let statements : List Statement = c.args.statements.now in
    let proposals : Statement → List Proposal = λ statement. work_proposals c.args.cat.now statement.work in
    let step = fold-flat_map_here (with_proposal []) proposals (as_proposals c.statements.known.keys) statements at c.index-statements-at.result (omega arith) c.index-statements-at.is in
    let added : as_proposals c.add_work.new.known.keys ≡ with_all (as_proposals c.statements.known.keys) (proposals c.index-statements-at.result) = cc (c.in_ok-add_work.ensures) in
    ap (λ (known : List Proposal). with_all known (flat_map proposals (drop (at + 1) statements))) added ∙ sym step ∙ c.statements.invariant
