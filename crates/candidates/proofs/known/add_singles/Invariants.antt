use Rattle.std.proofs.Common.{◌≡◌, drop}
use Rattle.candidates.specs.inner.Known.{as_proposals, with_forms}
use Rattle.candidates.specs.Proposals.{single_lists}
use Rattle.candidates.proofs.known.add_singles.Given as goal

abbrev pub invariant-columns : goal.invariant-columns
invariant-columns l =
    with_forms l.target.clusterable (as_proposals l.known.keys) (single_lists l.target.table (drop l.column-index l.columns))
    ≡ with_forms l.target.clusterable (as_proposals l.initial.known.keys) (single_lists l.target.table l.columns)
