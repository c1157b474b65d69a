use Rattle.std.proofs.Common.{◌≡◌, ◌≤◌, ◌-◌, length}
use Rattle.sql_tokens.specs.Ahead.{ahead}
use Rattle.sql_tokens.proofs.token_reader.TokenReader.next_token.Given as goal

-- what was ahead is ahead
abbrev pub invariant-turns : goal.invariant-turns
invariant-turns l =
    record {
      text : l.self.text.now ≡ l.fn.self.text.now;
      same : ahead l.fn.self.text.now l.self.at ≡ ahead l.fn.self.text.now l.fn.self.at;
      on : l.fn.self.at ≤ l.self.at;
    }

abbrev pub decreases-turns : goal.decreases-turns
decreases-turns l = length l.fn.self.text.now - l.self.at
