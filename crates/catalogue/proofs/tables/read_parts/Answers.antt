use Rattle.std.proofs.Common.{length}
use Rattle.catalogue.proofs.IndexLists.{length-column_names, known-same}
use Rattle.catalogue.proofs.tables.read_parts.Goals as goal

pub returns-clause-known : goal.returns-clause-known
returns-clause-known c =
    let columns = c.needed_columns.new.into in
    let names = c.in_ok-names.names in
    known-same (length names) (length columns) c.in_ok-indexes.indexes (length-column_names columns names c.in_ok-names.ensures.names) c.in_ok-indexes.ensures.known
