use Rattle.std.proofs.Common.{◌≡◌, drop}
use Rattle.candidates.specs.inner.Known.{as_proposals, with_forms}
use Rattle.candidates.specs.Proposals.{lists_behind}
use Rattle.candidates.proofs.known.add_behind.Given as goal

abbrev pub invariant-columns : goal.invariant-columns
invariant-columns l =
    with_forms l.target.clusterable (as_proposals l.known.keys) (lists_behind l.target.table l.keys (drop l.column-index l.columns))
    ≡ with_forms l.target.clusterable (as_proposals l.initial.known.keys) (lists_behind l.target.table l.keys l.columns)
