use Rattle.std.proofs.Common.{◌≡◌, ◌-◌, length}
use Rattle.sql_reader.specs.inner.Ahead.{terminals_behind}
use Rattle.sql_reader.proofs.scan.next_terminal.Given as goal

-- what is left is what there was
abbrev pub invariant-turns : goal.invariant-turns
invariant-turns l =
    record {
      text : l.tokens.text.now ≡ l.fn.tokens.text.now;
      same : terminals_behind l.fn.tokens.text.now l.tokens.at l.mark ≡ terminals_behind l.fn.tokens.text.now l.fn.tokens.at l.fn.mark;
    }

abbrev pub decreases-turns : goal.decreases-turns
decreases-turns l = length l.fn.tokens.text.now - l.tokens.at
