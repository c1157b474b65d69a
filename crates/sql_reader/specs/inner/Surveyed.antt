-- What is known of a text before the grammar reads it.
use Rattle.std.specs.Prelude.{◌≡◌, ℕ, zero, suc, ◌+◌, ◌-◌, Bool, true, false, List, Option, Some, None, option_map, if◌then◌else◌}
use Rattle.sql_tokens.specs.Cut.{AreTokens}
use Rattle.sql_tokens.specs.declared.token.Token.{Token}
use Rattle.sql_reader.specs.declared.survey.Survey.{Survey}
use Rattle.sql_reader.specs.declared.parsed.SqlFault.{SqlFault}
use Rattle.sql_reader.specs.declared.parsed.SqlFault.TheVariants as faults
use Rattle.sql_reader.specs.Workload.{earlier}
use Rattle.sql_reader.specs.Grammar.{starts}
use Rattle.sql_reader.specs.Kinds.{has}
use Rattle.sql_reader.specs.Terminals.{bytes_of, kind_of, is_bad_weight, bad_weight, start_behind}
use Rattle.sql_reader.specs.inner.Ahead.{tokens_in, terminals_in}

-- nothing is looked at
abbrev pub unseen : Survey
unseen = record { bad_weight = None; start = None; left = 1000 }

abbrev pub or_first : Option ℕ → Option ℕ → Option ℕ
or_first None later = later
or_first (Some place) later = Some place

-- a weight comment without a weight, if the token is one
abbrev pub bad_weight_of : List ℕ → Token → Option ℕ
bad_weight_of text t = if is_bad_weight text t then Some (t.span.from + 1) else None

-- the start behind so many others, where a word with which a statement begins stands at a place
abbrev pub start_at : ℕ → Option ℕ → ℕ → Option ℕ
start_at zero start place = or_first start (Some place)
start_at (suc n) start place = start

abbrev pub with_start : Survey → ℕ → Survey
with_start s place = record { bad_weight = s.bad_weight; start = start_at s.left s.start place; left = s.left - 1 }

abbrev pub with_start_if : Bool → Survey → ℕ → Survey
with_start_if true s place = with_start s place
with_start_if false s place = s

-- one token more
abbrev pub after_token : List ℕ → Token → Survey → Survey
after_token text t s =
    with_start_if (has starts (kind_of t.kind (bytes_of text t)))
    (record { bad_weight = or_first s.bad_weight (bad_weight_of text t); start = s.start; left = s.left }) (t.span.from + 1)

-- the text has tokens, and the survey has the places of its first bad weight and of its 1001st start
pub record IsSurvey (text : List ℕ) (survey : Survey) : Type 0 where
  pub are_tokens : AreTokens text (tokens_in text)
  pub weight : survey.bad_weight ≡ bad_weight text (tokens_in text)
  pub start : survey.start ≡ start_behind 1000 (terminals_in text)

-- the first fault of a text with this survey, where the grammar has this one
abbrev pub surveyed_fault : Survey → Option SqlFault → Option SqlFault
surveyed_fault s fault = earlier fault (earlier (option_map faults.BadWeight s.bad_weight) (option_map faults.TooManyStatements s.start))
