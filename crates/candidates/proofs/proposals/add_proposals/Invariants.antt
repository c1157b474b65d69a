use Rattle.std.proofs.Common.{◌≡◌, drop}
use Rattle.std.specs.List.{flat_map}
use Rattle.candidates.specs.inner.Known.{as_proposals, with_all}
use Rattle.candidates.specs.Proposals.{work_proposals}
use Rattle.candidates.proofs.proposals.add_proposals.Given as goal

abbrev pub invariant-statements : goal.invariant-statements
invariant-statements l =
    with_all (as_proposals l.known.keys) (flat_map (λ statement. work_proposals l.cat statement.work) (drop l.at l.statements))
    ≡ with_all (as_proposals l.initial.known.keys) (flat_map (λ statement. work_proposals l.cat statement.work) l.statements)
