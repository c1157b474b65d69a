use Rattle.std.proofs.Common.{◌≡◌, ◌-◌, length}
use Rattle.sql_tokens.specs.Ahead.{ahead}
use Rattle.sql_reader.proofs.Surveys.{IsSoFar}
use Rattle.sql_reader.proofs.survey.Survey.of.Given as goal

-- the survey and what is ahead are those of the text
abbrev pub invariant-turns : goal.invariant-turns
invariant-turns l =
    record {
      text : l.tokens.text.now ≡ l.text;
      seen : IsSoFar l.text l.survey (ahead l.text l.tokens.at);
    }

abbrev pub decreases-turns : goal.decreases-turns
decreases-turns l = length l.text - l.tokens.at
