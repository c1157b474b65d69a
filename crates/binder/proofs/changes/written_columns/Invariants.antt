use Rattle.std.proofs.Common.{◌≡◌, drop}
use Rattle.adv_base.specs.Readings.{in_turn, put_behind}
use Rattle.binder.specs.Blocks.{written_column, written_columns}
use Rattle.binder.proofs.changes.written_columns.Given as goal

-- the columns so far, with those of the rest behind them, are all columns
abbrev pub invariant-loop-name : goal.invariant-loop-name
invariant-loop-name l = in_turn (put_behind (written_column l.directory.cat.now l.text l.table)) l.items.items (drop l.name-index l.names) ≡ written_columns l.directory.cat.now l.text l.table l.names
