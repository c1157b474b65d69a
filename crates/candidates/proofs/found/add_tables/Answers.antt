use Rattle.std.proofs.Common.{◌≡◌, ◌+◌, [], List, map, drop, ap, sym, ◌∙◌, arith}
use Rattle.std.specs.List.{flat_map}
use Rattle.adv_base.specs.declared.catalogue.table.Table.{Table}
use Rattle.candidates.specs.Candidates.{with_proposal, plain_form}
use Rattle.candidates.specs.inner.Known.{as_proposals, with_all}
use Rattle.candidates.specs.Proposals.{Proposal}
use Rattle.candidates.proofs.KnownLemmas.{fold-flat_map_here}
use Rattle.candidates.proofs.found.add_tables.Goals as goal

pub tables-preserved : goal.tables-preserved
tables-preserved c =
    let at = c.tables.table-index in
    let tables : List Table = c.args.tables.now in
    let existing : Table → List Proposal = λ table. map (λ index. plain_form index.shape) table.indexes in
    let step = fold-flat_map_here (with_proposal []) existing (as_proposals c.tables.known.keys) tables at c.table-item.result (omega arith) c.table-item.is in
    let added : as_proposals c.add_indexes.new.known.keys ≡ with_all (as_proposals c.tables.known.keys) (existing c.table-item.result) = cc (c.in_ok-add_indexes.ensures, c.as_slice.ensures) in
    ap (λ (known : List Proposal). with_all known (flat_map existing (drop (at + 1) tables))) added ∙ sym step ∙ c.tables.invariant
