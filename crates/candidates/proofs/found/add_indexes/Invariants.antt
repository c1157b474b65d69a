use Rattle.std.proofs.Common.{◌≡◌, drop, map}
use Rattle.candidates.specs.Candidates.{plain_form}
use Rattle.candidates.specs.inner.Known.{as_proposals, with_all}
use Rattle.candidates.proofs.found.add_indexes.Given as goal

abbrev pub invariant-indexes : goal.invariant-indexes
invariant-indexes l =
    with_all (as_proposals l.known.keys) (map (λ index. plain_form index.shape) (drop l.index-index l.indexes))
    ≡ with_all (as_proposals l.initial.known.keys) (map (λ index. plain_form index.shape) l.indexes)
