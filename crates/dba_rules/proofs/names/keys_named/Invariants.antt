use Rattle.std.proofs.Common.{◌≡◌, drop}
use Rattle.adv_base.specs.Readings.{in_turn, put_behind}
use Rattle.dba_rules.specs.Names.{column_named, keys_named}
use Rattle.dba_rules.proofs.names.keys_named.Given as goal

-- the columns so far, with those of the rest behind them, are all columns
abbrev pub invariant-loop-name : goal.invariant-loop-name
invariant-loop-name l = in_turn (put_behind (column_named l.columns l.number)) l.items.items (drop l.name-index l.words) ≡ keys_named l.columns l.number l.words
