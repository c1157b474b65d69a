use Rattle.std.proofs.Common.{◌≡◌, ◌-◌, length}
use Rattle.sql_tokens.specs.Ahead.{ahead}
use Rattle.sql_tokens.proofs.Ahead.{IsReadTo}
use Rattle.sql_tokens.proofs.cut.tokens.Given as goal

-- the list and what is ahead of the reader are those of the text
abbrev pub invariant-turns : goal.invariant-turns
invariant-turns l =
    record {
      text : l.reader.text.now ≡ l.text;
      read : IsReadTo l.text l.list.items (ahead l.text l.reader.at);
    }

abbrev pub decreases-turns : goal.decreases-turns
decreases-turns l = length l.text - l.reader.at
