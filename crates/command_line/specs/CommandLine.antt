-- The command that the words of a command line are, read from left to right by the table of commands, or the first fault.
use Rattle.std.specs.Prelude.{◌≡◌, ℕ, zero, suc, ◌+◌, ◌-◌, nat_eq, nat_lt, nat_le, ◌*◌, if◌then◌else◌, Bool, true, false, ◌&&◌, List, [], ◌∷◌, length, map, codes, bytes_eq, is_some, slice_get, unwrap_or, Option, Some, None, option_map, Result, Ok, Err, String, string_bytes}
use Rattle.std.specs.List.{starts_with}
use Rattle.std.specs.declared.alloc.Global.{Global}
use Rattle.adv_base.specs.Readings.{◌>>=◌, or_fault}
use Rattle.command_line.specs.declared.fault.WordFault.{WordFault}
use Rattle.command_line.specs.declared.fault.WordFault.TheVariants.{NoCommand, UnknownCommand, Missing, Extra, UnknownOption, Twice, BadNumber}
use Rattle.command_line.specs.declared.commands.Command.{Command}
use Rattle.command_line.specs.declared.commands.Command.TheVariants as code
use Rattle.command_line.specs.declared.options.Options.{Options}
use Rattle.command_line.specs.Numbers.{number_within}

-- a command with its words as bytes
pub data PlainCommand : Type 0 where
  Cost : (cat load : List ℕ) → PlainCommand
  WhatIf : (cat load conf : List ℕ) → PlainCommand
  Explain : (cat load conf : List ℕ) → (number : ℕ) → PlainCommand
  Candidates : (cat load : List ℕ) → PlainCommand
  Advise : (cat load : List ℕ) → (budget nodes : ℕ) → (cert : Option (List ℕ)) → PlainCommand
  Ruled : (cat load : List ℕ) → (budget : ℕ) → (rules : List ℕ) → (nodes : ℕ) → (cert : Option (List ℕ)) → PlainCommand
  Sweep : (cat load : List ℕ) → (first step count nodes : ℕ) → (cert : Option (List ℕ)) → PlainCommand
  Retune : (cat load edits : List ℕ) → (budget nodes : ℕ) → PlainCommand
  Check : (cat load cert : List ℕ) → PlainCommand
  CheckRuled : (cat load rules cert : List ℕ) → PlainCommand
  Fold : (cat load out : List ℕ) → PlainCommand
  Bench : (seed tables statements budget : ℕ) → PlainCommand

abbrev pub plain_command : Command → PlainCommand
plain_command (code.Cost cat load) = Cost cat.now load.now
plain_command (code.WhatIf cat load conf) = WhatIf cat.now load.now conf.now
plain_command (code.Explain cat load conf number) = Explain cat.now load.now conf.now number
plain_command (code.Candidates cat load) = Candidates cat.now load.now
plain_command (code.Advise cat load budget nodes cert) = Advise cat.now load.now budget nodes (option_map (λ name. name.now) cert)
plain_command (code.Ruled cat load budget rules nodes cert) = Ruled cat.now load.now budget rules.now nodes (option_map (λ name. name.now) cert)
plain_command (code.Sweep cat load first step count nodes cert) = Sweep cat.now load.now first step count nodes (option_map (λ name. name.now) cert)
plain_command (code.Retune cat load edits budget nodes) = Retune cat.now load.now edits.now budget nodes
plain_command (code.Check cat load cert) = Check cat.now load.now cert.now
plain_command (code.CheckRuled cat load rules cert) = CheckRuled cat.now load.now rules.now cert.now
plain_command (code.Fold cat load out) = Fold cat.now load.now out.now
plain_command (code.Bench seed tables statements budget) = Bench seed tables statements budget

-- the words as bytes
abbrev pub texts : List (String Global) → List (List ℕ)
texts words = map string_bytes words

-- what a function returned, seen by view, is what reading gives
abbrev pub GivesBy : {X Y : Type 0} → (X → Y) → Result X WordFault → Result Y WordFault → Type 0
GivesBy view (Ok x) read = read ≡ Ok (view x)
GivesBy view (Err e) read = read ≡ Err e

-- the word of a number, from 1
unfoldable pub word_at : List (List ℕ) → ℕ → Result (List ℕ) WordFault
word_at words number = or_fault (Missing number) (slice_get words (number - 1))

-- the number that a word is, in a range
unfoldable pub number_at : List (List ℕ) → ℕ → ℕ → ℕ → Result ℕ WordFault
number_at words number least most = word_at words number >>= λ word. or_fault (BadNumber number) (number_within least most word)

-- no word stands behind the one of a number
unfoldable pub end_at : List (List ℕ) → ℕ → Result (Unit {0}) WordFault
end_at words number = if nat_lt number (length words) then Err (Extra (number + 1)) else Ok tt

-- the options of a search
pub record PlainOptions : Type 0 where
  pub nodes : Option ℕ
  pub cert : Option (List ℕ)

abbrev pub plain_options : Options → PlainOptions
plain_options options = record { nodes = options.nodes; cert = option_map (λ name. name.now) options.cert }

abbrev pub no_options : PlainOptions
no_options = record { nodes = None; cert = None }

abbrev pub nodes_option : List (List ℕ) → ℕ → PlainOptions → Result PlainOptions WordFault
nodes_option words number given =
    if is_some given.nodes then Err (Twice number)
    else (number_at words (number + 1) 1 1000000 >>= λ n. Ok (record { nodes = Some n; cert = given.cert }))

abbrev pub cert_option : List (List ℕ) → ℕ → PlainOptions → Result PlainOptions WordFault
cert_option words number given =
    if is_some given.cert then Err (Twice number)
    else (word_at words (number + 1) >>= λ name. Ok (record { nodes = given.nodes; cert = Some name }))

-- a word where an option may stand; `--cert` is one where the search may give a certificate
abbrev pub option_of : Bool → List (List ℕ) → ℕ → PlainOptions → List ℕ → Result PlainOptions WordFault
option_of certifies words number given word =
    if bytes_eq word (codes "--nodes") then nodes_option words number given
    else (if certifies && bytes_eq word (codes "--cert") then cert_option words number given
    else (if starts_with nat_eq word (codes "--") then Err (UnknownOption number) else Err (Extra number)))

-- the option at the word of a number, and its value at the next
unfoldable pub option_at : Bool → List (List ℕ) → ℕ → PlainOptions → Result PlainOptions WordFault
option_at certifies words number given = word_at words number >>= option_of certifies words number given

-- the options from the word of a number on; there are at most two, so that none is left at the third
unfoldable pub options_from : Bool → List (List ℕ) → ℕ → ℕ → PlainOptions → Result PlainOptions WordFault
options_from certifies words zero number given = Err (Extra number)
options_from certifies words (suc turns) number given =
    if nat_lt (length words) number then Ok given
    else (option_at certifies words number given >>= options_from certifies words turns (number + 2))

-- ## The table of commands

-- what a word has to be: the name of a file, or the decimal digits of a number in a range
pub data WordKind : Type 0 where
  File : WordKind
  Number : (least most : ℕ) → WordKind

-- what takes words of these kinds and gives an X
abbrev pub Takes : List WordKind → Type 0 → Type 0
Takes [] X = X
Takes (File ∷ kinds) X = List ℕ → Takes kinds X
Takes (Number least most ∷ kinds) X = ℕ → Takes kinds X

-- a command: its name, the kinds of the plain words behind it, and what is asked for by these; or also by the options of a
-- search, which may or may not give a certificate, unless the plain words don't go together
pub data Row : Type 0 where
  Plain : (name : List ℕ) (kinds : List WordKind) → Takes kinds PlainCommand → Row
  Search : (name : List ℕ) (certifies : Bool) (kinds : List WordKind) → Takes kinds (Option (PlainOptions → PlainCommand)) → Row

-- a number of a statement, and a space budget in pages
abbrev pub statement : WordKind
statement = Number 1 1000

abbrev pub pages : WordKind
pages = Number 0 1000000000000

abbrev pub cost_row : Row
cost_row = Plain (codes "cost") (File ∷ File ∷ []) Cost

abbrev pub what_if_row : Row
what_if_row = Plain (codes "whatif") (File ∷ File ∷ File ∷ []) WhatIf

abbrev pub explain_row : Row
explain_row = Plain (codes "explain") (File ∷ File ∷ File ∷ statement ∷ []) Explain

abbrev pub candidates_row : Row
candidates_row = Plain (codes "candidates") (File ∷ File ∷ []) Candidates

-- how many nodes a search may have
abbrev pub nodes_of : PlainOptions → ℕ
nodes_of options = unwrap_or options.nodes 20000

abbrev pub advise_row : Row
advise_row = Search (codes "advise") true (File ∷ File ∷ pages ∷ []) (λ cat load budget. Some (λ options. Advise cat load budget (nodes_of options) options.cert))

abbrev pub ruled_row : Row
ruled_row = Search (codes "ruled") true (File ∷ File ∷ pages ∷ File ∷ []) (λ cat load budget rules. Some (λ options. Ruled cat load budget rules (nodes_of options) options.cert))

-- the last of so many budgets, from the first one in steps
abbrev pub last_budget : ℕ → ℕ → ℕ → ℕ
last_budget first step count = first + step * (count - 1)

-- the budgets of a sweep go together where the last is one
abbrev pub asked_sweep : List ℕ → List ℕ → ℕ → ℕ → ℕ → Option (PlainOptions → PlainCommand)
asked_sweep cat load first step count =
    if nat_le (last_budget first step count) 1000000000000 then Some (λ options. Sweep cat load first step count (nodes_of options) options.cert) else None

abbrev pub sweep_row : Row
sweep_row = Search (codes "sweep") true (File ∷ File ∷ pages ∷ Number 1 1000000000000 ∷ Number 1 16 ∷ []) asked_sweep

abbrev pub retune_row : Row
retune_row = Search (codes "retune") false (File ∷ File ∷ File ∷ pages ∷ []) (λ cat load edits budget. Some (λ options. Retune cat load edits budget (nodes_of options)))

abbrev pub check_row : Row
check_row = Plain (codes "check") (File ∷ File ∷ File ∷ []) Check

abbrev pub check_ruled_row : Row
check_ruled_row = Plain (codes "check-ruled") (File ∷ File ∷ File ∷ File ∷ []) CheckRuled

abbrev pub fold_row : Row
fold_row = Plain (codes "fold") (File ∷ File ∷ File ∷ []) Fold

abbrev pub bench_row : Row
bench_row = Plain (codes "bench") (Number 0 18446744073709551615 ∷ Number 2 20 ∷ Number 1 500 ∷ pages ∷ []) Bench

abbrev pub commands : List Row
commands = cost_row ∷ what_if_row ∷ explain_row ∷ candidates_row ∷ advise_row ∷ ruled_row ∷ sweep_row ∷ retune_row ∷ check_row ∷ check_ruled_row ∷ fold_row ∷ bench_row ∷ []

-- ## Reading by the table

-- the plain words from that number on, and what goes on with what is asked for
abbrev pub read_plain : {X Y : Type 0} → List (List ℕ) → ℕ → (kinds : List WordKind) → Takes kinds X → (X → Result Y WordFault) → Result Y WordFault
read_plain words number [] asked go = go asked
read_plain words number (File ∷ kinds) asked go = word_at words number >>= λ name. read_plain words (suc number) kinds (asked name) go
read_plain words number (Number least most ∷ kinds) asked go = number_at words number least most >>= λ n. read_plain words (suc number) kinds (asked n) go

-- the words behind the name of a row: nothing stands behind the last plain word, which is at fault where they don't go
-- together, or options do
abbrev pub read_row : List (List ℕ) → Row → Result PlainCommand WordFault
read_row words (Plain name kinds asked) =
    read_plain words 2 kinds asked (λ command. end_at words (length kinds + 1) >>= λ _. Ok command)
read_row words (Search name certifies kinds asked) =
    read_plain words 2 kinds asked (λ waiting. or_fault (BadNumber (length kinds + 1)) waiting >>= λ command.
    options_from certifies words 3 (length kinds + 2) no_options >>= λ options. Ok (command options))

abbrev pub name_of : Row → List ℕ
name_of (Plain name kinds asked) = name
name_of (Search name certifies kinds asked) = name

-- the first row of that name
abbrev pub read_named : List ℕ → List (List ℕ) → List Row → Result PlainCommand WordFault
read_named name words [] = Err (UnknownCommand 1)
read_named name words (row ∷ rows) = if bytes_eq name (name_of row) then read_row words row else read_named name words rows

-- the rest of the words, by the name of the command
unfoldable pub named_command : List ℕ → List (List ℕ) → Result PlainCommand WordFault
named_command name words = read_named name words commands

abbrev pub command_named : List (List ℕ) → Option (List ℕ) → Result PlainCommand WordFault
command_named words None = Err NoCommand
command_named words (Some name) = named_command name words

-- the command that words are
unfoldable pub command_of : List (List ℕ) → Result PlainCommand WordFault
command_of words = command_named words (slice_get words 0)
