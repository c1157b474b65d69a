use Rattle.std.proofs.Common.{◌≡◌, ◌-◌}
use Rattle.dba_rules.specs.Lines.{columns_from}
use Rattle.dba_rules.proofs.line.read_columns.Given as goal

-- the columns of the rest behind those so far are all columns
abbrev pub invariant-columns : goal.invariant-columns
invariant-columns l = columns_from l.number (8 - l._count) l.columns l.rest ≡ columns_from l.number 8 l.fn.columns l.bytes
