use Rattle.std.proofs.Common.{◌≡◌, drop, map}
use Rattle.std.specs.List.{flat_map}
use Rattle.candidates.specs.Candidates.{plain_form}
use Rattle.candidates.specs.inner.Known.{as_proposals, with_all}
use Rattle.candidates.proofs.found.add_tables.Given as goal

abbrev pub invariant-tables : goal.invariant-tables
invariant-tables l =
    with_all (as_proposals l.known.keys) (flat_map (λ table. map (λ index. plain_form index.shape) table.indexes) (drop l.table-index l.tables))
    ≡ with_all (as_proposals l.initial.known.keys) (flat_map (λ table. map (λ index. plain_form index.shape) table.indexes) l.tables)
