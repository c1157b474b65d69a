-- Each call is at a lower rank, or one level deeper.
use Rattle.std.proofs.Common.{◌≡◌, ◌+◌, ◌*◌, length}
use Rattle.sql_reader.specs.Exact.{reads}
use Rattle.sql_reader.specs.Grammar as rule
use Rattle.sql_reader.specs.inner.Remaining.{remaining}
use Rattle.sql_reader.proofs.cursor.GrammarReader.+conditions.Given as goal

abbrev pub decreases-deeper_conditions : goal.decreases-deeper_conditions
decreases-deeper_conditions l = 10 * l.self.levels + 1

abbrev pub decreases-condition : goal.decreases-condition
decreases-condition l = 10 * l.self.levels + 2

abbrev pub decreases-and_condition : goal.decreases-and_condition
decreases-and_condition l = 10 * l.self.levels + 3

abbrev pub decreases-more_conditions : goal.decreases-more_conditions
decreases-more_conditions l = 10 * l.self.levels + 4

abbrev pub decreases-conditions : goal.decreases-conditions
decreases-conditions l = 10 * l.self.levels + 5

abbrev pub decreases-nested_conditions : goal.decreases-nested_conditions
decreases-nested_conditions l = 10 * l.self.levels + 6

-- what is left to read is what was to be read
abbrev pub invariant-more_conditions-turns : goal.invariant-more_conditions-turns
invariant-more_conditions-turns l =
    reads rule.grammar l.self.levels rule.more_conditions l.all (remaining l.cursor) ≡ reads rule.grammar l.self.levels rule.more_conditions l.fn.all (remaining l.fn.cursor)

abbrev pub decreases-more_conditions-turns : goal.decreases-more_conditions-turns
decreases-more_conditions-turns l = length (remaining l.cursor)
