use Rattle.std.proofs.Common.{◌≡◌, length}
use Rattle.sql_reader.specs.Exact.{reads}
use Rattle.sql_reader.specs.Grammar as rule
use Rattle.sql_reader.specs.inner.Remaining.{remaining}
use Rattle.sql_reader.proofs.cursor.GrammarReader.more_names.Given as goal

-- what is left to read is what was to be read
abbrev pub invariant-turns : goal.invariant-turns
invariant-turns l =
    reads rule.grammar l.self.levels rule.more_names l.all (remaining l.cursor) ≡ reads rule.grammar l.self.levels rule.more_names l.fn.all (remaining l.fn.cursor)

abbrev pub decreases-turns : goal.decreases-turns
decreases-turns l = length (remaining l.cursor)
