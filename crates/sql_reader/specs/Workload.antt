-- What a text says as a workload, and which fault is the first.
use Rattle.std.specs.Prelude.{◌≡◌, ℕ, ◌+◌, nat_lt, List, [], ◌∷◌, ◌++◌, length, Option, Some, None, option_map, if◌then◌else◌}
use Rattle.sql_tokens.specs.declared.token.Token.{Token}
use Rattle.sql_tokens.specs.declared.token_list.TokenFault.TheVariants as tokens
use Rattle.sql_tokens.specs.Cut.{AreTokens, HasFault}
use Rattle.sql_reader.specs.declared.kind.TerminalKind.{TerminalKind}
use Rattle.sql_reader.specs.declared.kind.TerminalKind.TheVariants as kinds
use Rattle.sql_reader.specs.declared.terminal.Terminal.{Terminal}
use Rattle.sql_reader.specs.declared.parsed.ParsedStatement.{ParsedStatement}
use Rattle.sql_reader.specs.declared.parsed.SqlFault.{SqlFault}
use Rattle.sql_reader.specs.declared.parsed.SqlFault.TheVariants as faults
use Rattle.sql_reader.specs.declared.parts.Progress.{Progress}
use Rattle.sql_reader.specs.Kinds.{has}
use Rattle.sql_reader.specs.Rule.{Meaning}
use Rattle.sql_reader.specs.Exact.{IsRead, FailsAt}
use Rattle.sql_reader.specs.Grammar.{levels}
use Rattle.sql_reader.specs.Printed.{grammar, workload}
use Rattle.sql_reader.specs.Values.{place_of, no_statements}
use Rattle.sql_reader.specs.Terminals.{AreTerminals, no_mark, bad_weight, start_behind}

-- terminals, and the statements that they are by the grammar as it is printed
abbrev pub MeansStatements : Meaning Progress Progress
MeansStatements start terminals progress = IsRead grammar levels workload start terminals progress

-- the kinds of words at which the fault is Unsupported
abbrev pub left_out : List TerminalKind
left_out = kinds.LeftOut ∷ kinds.Not ∷ kinds.Select ∷ []

-- the fault where the grammar fails before these terminals, with the place of the end of the text
abbrev pub grammar_fault : ℕ → List Terminal → SqlFault
grammar_fault end [] = faults.Syntax end
grammar_fault end (p ∷ rest) = if has left_out p.kind then faults.Unsupported (place_of p) else faults.Syntax (place_of p)

-- the fault of terminals that are left behind a workload
abbrev pub fault_behind : ℕ → List Terminal → Option SqlFault
fault_behind end [] = None
fault_behind end (p ∷ rest) = Some (grammar_fault end (p ∷ rest))

-- what the grammar says of terminals: their statements and no fault, or the fault at the first terminal at which no
-- workload goes on
abbrev pub GrammarSays : ℕ → List Terminal → Progress → Option SqlFault → Type 0
GrammarSays end terminals progress None = MeansStatements no_statements terminals progress
GrammarSays end terminals progress (Some fault) =
    (rest : List Terminal) × FailsAt MeansStatements no_statements terminals rest × (fault ≡ grammar_fault end rest)

-- the place of a fault
abbrev pub place_of_fault : SqlFault → ℕ
place_of_fault faults.Memory = 0
place_of_fault (faults.BadByte place) = place
place_of_fault (faults.OpenText place) = place
place_of_fault (faults.Syntax place) = place
place_of_fault (faults.Unsupported place) = place
place_of_fault (faults.BadWeight place) = place
place_of_fault (faults.TooManyStatements place) = place

-- the first of two faults in the text; the first of the two where they stand at one place
abbrev pub earlier : Option SqlFault → Option SqlFault → Option SqlFault
earlier None other = other
earlier (Some fault) None = Some fault
earlier (Some fault) (Some other) = if nat_lt (place_of_fault other) (place_of_fault fault) then Some other else Some fault

-- the first fault of a text with these tokens and terminals, where the grammar has this one
abbrev pub first_fault : List ℕ → List Token → List Terminal → Option SqlFault → Option SqlFault
first_fault text list terminals fault =
    earlier fault (earlier (option_map faults.BadWeight (bad_weight text list)) (option_map faults.TooManyStatements (start_behind 1000 terminals)))

-- what a text with tokens says: its statements, or its first fault
pub record Says (text : List ℕ) (statements : List ParsedStatement) (fault : Option SqlFault) : Type 0 where
  pub list : List Token
  pub terminals : List Terminal
  pub progress : Progress
  pub of_grammar : Option SqlFault
  pub are_tokens : AreTokens text list
  pub are_terminals : AreTerminals text list no_mark terminals
  pub says : GrammarSays (length text + 1) terminals progress of_grammar
  pub first : fault ≡ first_fault text list terminals of_grammar
  pub same : statements ≡ progress.statements

-- the text is a workload of these statements
abbrev pub IsWorkload : List ℕ → List ParsedStatement → Type 0
IsWorkload text statements = Says text statements None

-- the fault is the first that is no fault of a token
abbrev pub IsFirstFault : List ℕ → SqlFault → Type 0
IsFirstFault text fault = (statements : List ParsedStatement) × Says text statements (Some fault)

-- the text has this fault: one of its tokens, or else the first in the text of the four others
abbrev pub HasSqlFault : List ℕ → SqlFault → Type 0
HasSqlFault text faults.Memory = ⊥
HasSqlFault text (faults.BadByte place) = HasFault text (tokens.BadByte place)
HasSqlFault text (faults.OpenText place) = HasFault text (tokens.OpenText place)
HasSqlFault text (faults.Syntax place) = IsFirstFault text (faults.Syntax place)
HasSqlFault text (faults.Unsupported place) = IsFirstFault text (faults.Unsupported place)
HasSqlFault text (faults.BadWeight place) = IsFirstFault text (faults.BadWeight place)
HasSqlFault text (faults.TooManyStatements place) = IsFirstFault text (faults.TooManyStatements place)

-- A workload goes on through this terminal of the text, and it begins the 1001st of its statements. The terminal stands
-- at this place.
pub record BeginsOneTooMany (text : List ℕ) (place : ℕ) : Type 0 where
  pub list : List Token
  pub front : List Terminal
  pub terminal : Terminal
  pub rest : List Terminal
  pub more : List Terminal
  pub progress : Progress
  pub before : List ParsedStatement
  pub statement : ParsedStatement
  pub after : List ParsedStatement
  pub are_tokens : AreTokens text list
  pub are_terminals : AreTerminals text list no_mark (front ++ terminal ∷ rest)
  pub at_place : place_of terminal ≡ place
  pub goes_on : MeansStatements no_statements (front ++ terminal ∷ more) progress
  pub parted : progress.statements ≡ before ++ statement ∷ after
  pub thousand : length before ≡ 1000
  pub begins : statement.place ≡ place
