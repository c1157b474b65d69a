-- Each call is at a lower rank, or one level deeper.
use Rattle.std.proofs.Common.{◌≡◌, ◌+◌, ◌*◌, length}
use Rattle.sql_reader.specs.Exact.{reads}
use Rattle.sql_reader.specs.inner.Room.{Spends}
use Rattle.sql_reader.specs.Grammar as rule
use Rattle.sql_reader.specs.inner.Remaining.{remaining}
use Rattle.sql_reader.proofs.cursor.GrammarReader.+expression.Given as goal

abbrev pub decreases-after_operand_date : goal.decreases-after_operand_date
decreases-after_operand_date l = 20 * l.self.levels + 4

abbrev pub decreases-after_operand_name : goal.decreases-after_operand_name
decreases-after_operand_name l = 20 * l.self.levels + 3

abbrev pub decreases-called_name : goal.decreases-called_name
decreases-called_name l = 20 * l.self.levels + 2

abbrev pub decreases-nested_call : goal.decreases-nested_call
decreases-nested_call l = 20 * l.self.levels + 1

abbrev pub decreases-nested_parenthesis : goal.decreases-nested_parenthesis
decreases-nested_parenthesis l = 20 * l.self.levels + 1

abbrev pub decreases-nested_signed : goal.decreases-nested_signed
decreases-nested_signed l = 20 * l.self.levels + 1

abbrev pub decreases-other_operand : goal.decreases-other_operand
decreases-other_operand l = 20 * l.self.levels + 5

abbrev pub decreases-operand : goal.decreases-operand
decreases-operand l = 20 * l.self.levels + 6

abbrev pub decreases-operation : goal.decreases-operation
decreases-operation l = 20 * l.self.levels + 7

abbrev pub decreases-operations : goal.decreases-operations
decreases-operations l = 20 * l.self.levels + 8

abbrev pub decreases-expression : goal.decreases-expression
decreases-expression l = 20 * l.self.levels + 9

abbrev pub decreases-another_expression : goal.decreases-another_expression
decreases-another_expression l = 20 * l.self.levels + 10

abbrev pub decreases-more_expressions : goal.decreases-more_expressions
decreases-more_expressions l = 20 * l.self.levels + 11

abbrev pub decreases-expressions : goal.decreases-expressions
decreases-expressions l = 20 * l.self.levels + 12

abbrev pub decreases-listed_arguments : goal.decreases-listed_arguments
decreases-listed_arguments l = 20 * l.self.levels + 13

abbrev pub decreases-arguments : goal.decreases-arguments
decreases-arguments l = 20 * l.self.levels + 14

abbrev pub decreases-call : goal.decreases-call
decreases-call l = 20 * l.self.levels + 15

abbrev pub decreases-parenthesis : goal.decreases-parenthesis
decreases-parenthesis l = 20 * l.self.levels + 10

abbrev pub decreases-signed_operand : goal.decreases-signed_operand
decreases-signed_operand l = 20 * l.self.levels + 7

-- what is left to read is what was to be read, and at most as many were counted as terminals were taken
abbrev pub invariant-operations-turns : goal.invariant-operations-turns
invariant-operations-turns l =
    record {
      read : reads rule.grammar l.self.levels rule.operations l.found (remaining l.cursor) ≡ reads rule.grammar l.self.levels rule.operations l.fn.found (remaining l.fn.cursor);
      room : Spends l.fn.found.stars l.fn.cursor l.found.stars l.cursor;
    }

abbrev pub decreases-operations-turns : goal.decreases-operations-turns
decreases-operations-turns l = length (remaining l.cursor)

-- what is left to read is what was to be read, and at most as many were counted as terminals were taken
abbrev pub invariant-more_expressions-turns : goal.invariant-more_expressions-turns
invariant-more_expressions-turns l =
    record {
      read : reads rule.grammar l.self.levels rule.more_expressions l.found (remaining l.cursor) ≡ reads rule.grammar l.self.levels rule.more_expressions l.fn.found (remaining l.fn.cursor);
      room : Spends l.fn.found.stars l.fn.cursor l.found.stars l.cursor;
    }

abbrev pub decreases-more_expressions-turns : goal.decreases-more_expressions-turns
decreases-more_expressions-turns l = length (remaining l.cursor)
