use Rattle.std.proofs.Common.{◌≡◌, map, take}
use Rattle.access_paths.proofs.block_labels.column_names.Given as goal

abbrev pub invariant-loop-column : goal.invariant-loop-column
invariant-loop-column l = l.items.items ≡ map (λ column. column.name) (take l.column-index l.table.columns)
