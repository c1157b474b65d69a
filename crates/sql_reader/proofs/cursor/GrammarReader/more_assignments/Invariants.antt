use Rattle.std.proofs.Common.{◌≡◌, length}
use Rattle.sql_reader.specs.Exact.{reads}
use Rattle.sql_reader.specs.inner.Room.{Spends}
use Rattle.sql_reader.specs.Grammar as rule
use Rattle.sql_reader.specs.inner.Remaining.{remaining}
use Rattle.sql_reader.proofs.cursor.GrammarReader.more_assignments.Given as goal

-- what is left to read is what was to be read, and at most as many were counted as terminals were taken
abbrev pub invariant-turns : goal.invariant-turns
invariant-turns l =
    record {
      read : reads rule.grammar l.self.levels rule.more_assignments l.parts (remaining l.cursor) ≡ reads rule.grammar l.self.levels rule.more_assignments l.fn.parts (remaining l.fn.cursor);
      room : Spends l.fn.parts.found.stars l.fn.cursor l.parts.found.stars l.cursor;
    }

abbrev pub decreases-turns : goal.decreases-turns
decreases-turns l = length (remaining l.cursor)
