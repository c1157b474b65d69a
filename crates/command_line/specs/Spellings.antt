-- The words of each command, by the table of commands. A number stands as its decimal digits.
use Rattle.std.specs.Prelude.{◌≡◌, ◌⊎◌, ℕ, ◌≤◌, Bool, true, List, [], ◌∷◌, ◌++◌, codes, decimal, is_some, option_to_list, Option, Some, IfSome}
use Rattle.command_line.specs.CommandLine.{PlainCommand, Advise, Ruled, Sweep, Retune, Bench, PlainOptions, WordKind, File, Number, Takes, Row, Plain, Search, last_budget, commands}

pub record IsWithin (least most n : ℕ) : Type 0 where
  pub low : least ≤ n
  pub high : n ≤ most

-- ## Plain words

-- what plain words of these kinds mean: names and numbers
abbrev pub Values : List WordKind → Type 0
Values [] = Unit {0}
Values (File ∷ kinds) = List ℕ × Values kinds
Values (Number least most ∷ kinds) = ℕ × Values kinds

-- the words
abbrev pub spelled : (kinds : List WordKind) → Values kinds → List (List ℕ)
spelled [] values = []
spelled (File ∷ kinds) values = values.0 ∷ spelled kinds values.1
spelled (Number least most ∷ kinds) values = decimal values.0 ∷ spelled kinds values.1

-- each number is in its range
abbrev pub AreWithin : (kinds : List WordKind) → Values kinds → Type 0
AreWithin [] values = Unit {0}
AreWithin (File ∷ kinds) values = AreWithin kinds values.1
AreWithin (Number least most ∷ kinds) values = IsWithin least most values.0 × AreWithin kinds values.1

-- what is asked for by them
abbrev pub of_values : {X : Type 0} (kinds : List WordKind) → Takes kinds X → Values kinds → X
of_values [] asked values = asked
of_values (File ∷ kinds) asked values = of_values kinds (asked values.0) values.1
of_values (Number least most ∷ kinds) asked values = of_values kinds (asked values.0) values.1

-- ## The options of a search

-- an option, with its value
pub data Choice : Type 0 where
  Nodes : ℕ → Choice
  Cert : List ℕ → Choice

-- the words of options
abbrev pub words_of : List Choice → List (List ℕ)
words_of [] = []
words_of (Nodes n ∷ choices) = codes "--nodes" ∷ decimal n ∷ words_of choices
words_of (Cert name ∷ choices) = codes "--cert" ∷ name ∷ words_of choices

-- the numbers of nodes that options give, and the files, in their order
abbrev pub nodes_in : List Choice → List ℕ
nodes_in [] = []
nodes_in (Nodes n ∷ choices) = n ∷ nodes_in choices
nodes_in (Cert name ∷ choices) = nodes_in choices

abbrev pub certs_in : List Choice → List (List ℕ)
certs_in [] = []
certs_in (Nodes n ∷ choices) = certs_in choices
certs_in (Cert name ∷ choices) = name ∷ certs_in choices

-- options in any order, each at most once
pub record Choose (choices : List Choice) (nodes : Option ℕ) (cert : Option (List ℕ)) : Type 0 where
  pub nodes_once : nodes_in choices ≡ option_to_list nodes
  pub cert_once : certs_in choices ≡ option_to_list cert
  pub range : IfSome nodes (IsWithin 1 1000000)

-- a certificate is given only where one may be
abbrev pub IsAllowed : Bool → Option (List ℕ) → Type 0
IsAllowed certifies cert = is_some cert ≡ true → certifies ≡ true

-- ## Command lines

-- a name and plain words, by which a command is asked for
pub record IsPlainLine (words : List (List ℕ)) (command : PlainCommand) (name : List ℕ) (kinds : List WordKind) (asked : Takes kinds PlainCommand) : Type 0 where
  pub values : Values kinds
  pub within : AreWithin kinds values
  pub words_are : words ≡ name ∷ spelled kinds values
  pub command_is : of_values kinds asked values ≡ command

-- a name, plain words that go together, and the options of a search
pub record IsSearchLine (words : List (List ℕ)) (command : PlainCommand) (name : List ℕ) (certifies : Bool) (kinds : List WordKind) (asked : Takes kinds (Option (PlainOptions → PlainCommand))) : Type 0 where
  pub values : Values kinds
  pub within : AreWithin kinds values
  pub asks : PlainOptions → PlainCommand
  pub go_together : of_values kinds asked values ≡ Some asks
  pub options : PlainOptions
  pub choices : List Choice
  pub chosen : Choose choices options.nodes options.cert
  pub allowed : IsAllowed certifies options.cert
  pub words_are : words ≡ name ∷ spelled kinds values ++ words_of choices
  pub command_is : asks options ≡ command

abbrev pub IsLineOf : List (List ℕ) → PlainCommand → Row → Type 0
IsLineOf words command (Plain name kinds asked) = IsPlainLine words command name kinds asked
IsLineOf words command (Search name certifies kinds asked) = IsSearchLine words command name certifies kinds asked

-- some row of a table has P
abbrev pub SomeRow : (Row → Type 0) → List Row → Type 0
SomeRow P [] = ⊥
SomeRow P (row ∷ rows) = P row ⊎ SomeRow P rows

-- the words are this command
abbrev pub IsCommandLine : List (List ℕ) → PlainCommand → Type 0
IsCommandLine words command = SomeRow (IsLineOf words command) commands

-- ## Numbers in their ranges

-- the budgets of a search are
pub record AreBudgets (budget nodes : ℕ) : Type 0 where
  pub budget_most : budget ≤ 1000000000000
  pub some_node : 1 ≤ nodes
  pub nodes_most : nodes ≤ 1000000

-- the budgets of a sweep: the first, the step from one to the next, and how many there are; the last is a budget, too
pub record AreSweepBudgets (first step count : ℕ) : Type 0 where
  pub first_is : IsWithin 0 1000000000000 first
  pub step_is : IsWithin 1 1000000000000 step
  pub count_is : IsWithin 1 16 count
  pub last_is : IsWithin 0 1000000000000 (last_budget first step count)

-- so are these, with its nodes
pub record AreSweepNumbers (first step count nodes : ℕ) : Type 0 where
  pub steps : AreSweepBudgets first step count
  pub some_node : 1 ≤ nodes
  pub nodes_most : nodes ≤ 1000000

-- the numbers by which a workload is made, and the budget for it, are in their ranges
pub record AreSizes (seed tables statements budget : ℕ) : Type 0 where
  pub seed_most : seed ≤ 18446744073709551615
  pub tables_some : 2 ≤ tables
  pub tables_few : tables ≤ 20
  pub statements_some : 1 ≤ statements
  pub statements_few : statements ≤ 500
  pub budget_most : budget ≤ 1000000000000

-- so it is with those of a command that searches
abbrev pub IsInRange : PlainCommand → Type 0
IsInRange (Advise cat load budget nodes cert) = AreBudgets budget nodes
IsInRange (Ruled cat load budget rules nodes cert) = AreBudgets budget nodes
IsInRange (Sweep cat load first step count nodes cert) = AreSweepNumbers first step count nodes
IsInRange (Retune cat load edits budget nodes) = AreBudgets budget nodes
IsInRange (Bench seed tables statements budget) = AreSizes seed tables statements budget
IsInRange command = Unit {0}
