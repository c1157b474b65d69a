-- What is read as a command is in the grammar as that command, and the other way round.
use Rattle.std.proofs.Common.{◌≡◌, ◌∙◌, inl, inr, ℕ, suc, ◌+◌, ◌<◌, ◌^◌, Bool, true, false, cond, List, [], ◌∷◌, ◌++◌, length, Option, Some, None, Result, Ok, Err, refl, sym, ap, subst, arith}
use Rattle.std.specs.Prelude.{decimal, if◌then◌else◌}
use Rattle.std.specs.Str.{bytes_eq}
use Rattle.std.proofs.lemmas.Bool.Decides.{nat_tests}
use Rattle.std.proofs.lemmas.List.{length-append}
use Rattle.std.proofs.lemmas.Slice.Eq.{bytes_eq-Decides}
use Rattle.adv_base.specs.Readings.{◌>>=◌, or_fault}
use Rattle.command_line.specs.declared.fault.WordFault.{WordFault}
use Rattle.command_line.specs.declared.fault.WordFault.TheVariants.{BadNumber, Extra, Missing, NoCommand, UnknownCommand}
use Rattle.command_line.specs.Numbers.{number_within}
use Rattle.command_line.specs.CommandLine.{PlainCommand, PlainOptions, no_options, WordKind, File, Number, Takes, Row, Plain, Search, end_at, options_from, commands, name_of, read_plain, read_row, read_named, named_command, command_of}
use Rattle.command_line.specs.Spellings.{Values, spelled, AreWithin, of_values, Choice, words_of, Choose, IsAllowed, IsPlainLine, IsSearchLine, IsLineOf, SomeRow, IsCommandLine, IsInRange}
use Rattle.command_line.proofs.Choices.{chosen_reads, chosen_back}
use Rattle.command_line.proofs.Ranges.{AreSmall, IsSmall, IsFit, fit_too, all_fit}
use Rattle.command_line.proofs.Results.{pick, not_ok, bind_ok}
use Rattle.command_line.proofs.WordLaws.{one_longer, moved, word_is, no_word, number_of_word, no_number, number_here, within}

-- ## Plain words

spelled_length : (kinds : List WordKind) (values : Values kinds) → length (spelled kinds values) ≡ length kinds
spelled_length [] values = refl
spelled_length (File ∷ kinds) values = ap suc (spelled_length kinds values.1)
spelled_length (Number least most ∷ kinds) values = ap suc (spelled_length kinds values.1)

plain_reads : {X Y : Type 0} (front : List (List ℕ)) (kinds : List WordKind) (asked : Takes kinds X) (go : X → Result Y WordFault) (values : Values kinds) (back : List (List ℕ)) →
    AreSmall kinds → AreWithin kinds values →
    read_plain (front ++ (spelled kinds values ++ back)) (suc (length front)) kinds asked go ≡ go (of_values kinds asked values)
plain_reads front [] asked go values back small are = refl
plain_reads front (File ∷ kinds) asked go values back small are =
    let more = spelled kinds values.1 ++ back in
    let rest = rw (moved front values.0 more, one_longer front values.0) at (plain_reads (front ++ values.0 ∷ []) kinds (asked values.0) go values.1 back small are) in
    rw (word_is front values.0 more) rest
plain_reads front (Number least most ∷ kinds) asked go values back small are =
    let more = spelled kinds values.1 ++ back in
    let rest = rw (moved front (decimal values.0) more, one_longer front (decimal values.0)) at (plain_reads (front ++ decimal values.0 ∷ []) kinds (asked values.0) go values.1 back small.1 are.1) in
    rw (number_here front values.0 more least most small.0 are.0) rest

-- the plain words that were read, and the words behind them
record PlainRead {X Y : Type 0} (words : List (List ℕ)) (kinds : List WordKind) (asked : Takes kinds X) (go : X → Result Y WordFault) (c : Y) : Type 0 where
  values : Values kinds
  back : List (List ℕ)
  words_are : words ≡ spelled kinds values ++ back
  are : AreWithin kinds values
  goes_on : go (of_values kinds asked values) ≡ Ok c

plain_back : {X Y : Type 0} (front words : List (List ℕ)) (kinds : List WordKind) (asked : Takes kinds X) (go : X → Result Y WordFault) (c : Y) →
    read_plain (front ++ words) (suc (length front)) kinds asked go ≡ Ok c → PlainRead words kinds asked go c
plain_back front words [] asked go c e = record { values = tt; back = words; words_are = refl; are = tt; goes_on = e }
plain_back front [] (File ∷ kinds) asked go c e = absurd (not_ok (Missing (suc (length front))) c (rw (no_word front) at e))
plain_back front (w ∷ words) (File ∷ kinds) asked go c e =
    let here : read_plain (front ++ w ∷ words) (suc (suc (length front))) kinds (asked w) go ≡ Ok c = rw (word_is front w words) at e in
    let next : read_plain ((front ++ w ∷ []) ++ words) (suc (length (front ++ w ∷ []))) kinds (asked w) go ≡ Ok c = rw (moved front w words, one_longer front w) here in
    let r = plain_back (front ++ w ∷ []) words kinds (asked w) go c next in
    record { values = (w, r.values); back = r.back; words_are = ap (λ (xs : List (List ℕ)). w ∷ xs) r.words_are; are = r.are; goes_on = r.goes_on }
plain_back front [] (Number least most ∷ kinds) asked go c e = absurd (not_ok (Missing (suc (length front))) c (rw (no_number front least most) at e))
plain_back front (w ∷ words) (Number least most ∷ kinds) asked go c e =
    let here = bind_ok (or_fault (BadNumber (suc (length front))) (number_within least most w)) (λ n. read_plain (front ++ w ∷ words) (suc (suc (length front))) kinds (asked n) go) c (rw (number_of_word front w words least most) at e) in
    let is = within (suc (length front)) least most w here.0 here.1.0 in
    let next : read_plain ((front ++ w ∷ []) ++ words) (suc (length (front ++ w ∷ []))) kinds (asked here.0) go ≡ Ok c = rw (moved front w words, one_longer front w) here.1.1 in
    let r = plain_back (front ++ w ∷ []) words kinds (asked here.0) go c next in
    let line : w ∷ words ≡ decimal here.0 ∷ (spelled kinds r.values ++ r.back) = cc (is.0, r.words_are) in
    record { values = (here.0, r.values); back = r.back; words_are = line; are = (is.1, r.are); goes_on = r.goes_on }

-- ## Rows

end_here : (words : List (List ℕ)) (k : ℕ) → length words ≡ k → end_at words k ≡ Ok tt
unfolding end_at
end_here words k e = grind (arith, nat_tests)

end_beyond : (words : List (List ℕ)) (k : ℕ) → k < length words → end_at words k ≡ Err (Extra (k + 1))
unfolding end_at
end_beyond words k h = grind (arith, nat_tests)

row_reads : (name : List ℕ) (kinds : List WordKind) (asked : Takes kinds PlainCommand) (values : Values kinds) → AreSmall kinds → AreWithin kinds values →
    read_row (name ∷ spelled kinds values) (Plain name kinds asked) ≡ Ok (of_values kinds asked values)
row_reads name kinds asked values small are =
    let words = name ∷ (spelled kinds values ++ []) in
    let go = λ (command : PlainCommand). end_at words (length kinds + 1) >>= λ _. Ok command in
    let read = plain_reads (name ∷ []) kinds asked go values [] small are in
    let all : spelled kinds values ++ [] ≡ spelled kinds values = no_more (spelled kinds values) in
    let size = spelled_length kinds values in
    let here = end_here (name ∷ spelled kinds values) (length kinds + 1) (omega (arith, size)) in
    rw all at read ∙ ap (λ (r : Result (Unit {0}) WordFault). r >>= λ _. Ok (of_values kinds asked values)) here
  where
    no_more : (xs : List (List ℕ)) → xs ++ [] ≡ xs
    no_more [] = refl
    no_more (x ∷ xs) = ap (λ (ys : List (List ℕ)). x ∷ ys) (no_more xs)

search_reads : (certifies : Bool) (name : List ℕ) (kinds : List WordKind) (asked : Takes kinds (Option (PlainOptions → PlainCommand))) (values : Values kinds) (command : PlainOptions → PlainCommand)
    (choices : List Choice) (given : Option ℕ) (cert : Option (List ℕ)) → AreSmall kinds → AreWithin kinds values → of_values kinds asked values ≡ Some command → IsAllowed certifies cert → Choose choices given cert →
    read_row (name ∷ (spelled kinds values ++ words_of choices)) (Search name certifies kinds asked) ≡ Ok (command (record { nodes = given; cert = cert }))
search_reads certifies name kinds asked values command choices given cert small are told may chosen =
    let words = name ∷ (spelled kinds values ++ words_of choices) in
    let go = λ (o : Option (PlainOptions → PlainCommand)). or_fault (BadNumber (length kinds + 1)) o >>= λ asks. options_from certifies words 3 (length kinds + 2) no_options >>= λ options. Ok (asks options) in
    let read = plain_reads (name ∷ []) kinds asked go values (words_of choices) small are in
    let size = spelled_length kinds values in
    let place : suc (length (name ∷ spelled kinds values)) ≡ length kinds + 2 = omega (arith, size) in
    let options = rw place at (chosen_reads certifies (name ∷ spelled kinds values) choices given cert may chosen) in
    read
    ∙ (ap go told ∙ ap (λ (r : Result PlainOptions WordFault). r >>= λ said. Ok (command said)) options)

row_back : (name : List ℕ) (words : List (List ℕ)) (kinds : List WordKind) (asked : Takes kinds PlainCommand) (c : PlainCommand) →
    read_row (name ∷ words) (Plain name kinds asked) ≡ Ok c → IsPlainLine (name ∷ words) c name kinds asked
row_back name words kinds asked c e =
    let r = plain_back (name ∷ []) words kinds asked (λ command. end_at (name ∷ words) (length kinds + 1) >>= λ _. Ok command) c e in
    ended r.values r.back r.words_are r.are r.goes_on
  where
    no_more : (xs : List (List ℕ)) → xs ++ [] ≡ xs
    no_more [] = refl
    no_more (x ∷ xs) = ap (λ (ys : List (List ℕ)). x ∷ ys) (no_more xs)

    ended : (values : Values kinds) (back : List (List ℕ)) → words ≡ spelled kinds values ++ back → AreWithin kinds values →
        (end_at (name ∷ words) (length kinds + 1) >>= λ _. Ok (of_values kinds asked values)) ≡ Ok c → IsPlainLine (name ∷ words) c name kinds asked
    ended values [] line are goes =
        let all : words ≡ spelled kinds values = line ∙ no_more (spelled kinds values) in
        let size : length words ≡ length kinds = ap length all ∙ spelled_length kinds values in
        let here = end_here (name ∷ words) (length kinds + 1) (omega (arith, size)) in
        let is : Ok (of_values kinds asked values) ≡ Ok c = rw here at goes in
        record { values = values; within = are; words_are = ap (λ (xs : List (List ℕ)). name ∷ xs) all; command_is = cc }
    ended values (b ∷ back) line are goes =
        let size : length words ≡ length (spelled kinds values) + suc (length back) = ap length line ∙ length-append (spelled kinds values) (b ∷ back) in
        let plain = spelled_length kinds values in
        let beyond = end_beyond (name ∷ words) (length kinds + 1) (omega (arith, size, plain)) in
        absurd (not_ok (Extra (length kinds + 1 + 1)) c (rw beyond at goes))

known : {A : Type 0} (fault : WordFault) (o : Option A) (x : A) → or_fault fault o ≡ Ok x → o ≡ Some x
known fault None x e = absurd (not_ok fault x e)
known fault (Some y) x e = let same : y ≡ x = cc in ap Some same

search_back : (certifies : Bool) (name : List ℕ) (words : List (List ℕ)) (kinds : List WordKind) (asked : Takes kinds (Option (PlainOptions → PlainCommand))) (c : PlainCommand) →
    read_row (name ∷ words) (Search name certifies kinds asked) ≡ Ok c → IsSearchLine (name ∷ words) c name certifies kinds asked
search_back certifies name words kinds asked c e =
    let r = plain_back (name ∷ []) words kinds asked (λ o. or_fault (BadNumber (length kinds + 1)) o >>= λ asks. options_from certifies (name ∷ words) 3 (length kinds + 2) no_options >>= λ options. Ok (asks options)) c e in
    let told = bind_ok (or_fault (BadNumber (length kinds + 1)) (of_values kinds asked r.values)) _ c r.goes_on in
    let read = bind_ok (options_from certifies (name ∷ words) 3 (length kinds + 2) no_options) _ c told.1.1 in
    let size = spelled_length kinds r.values in
    let place : length kinds + 2 ≡ suc (length (name ∷ spelled kinds r.values)) = omega (arith, size) in
    let behind : options_from certifies ((name ∷ spelled kinds r.values) ++ r.back) 3 (suc (length (name ∷ spelled kinds r.values))) no_options ≡ Ok read.0 =
    subst (λ (k : ℕ). options_from certifies ((name ∷ spelled kinds r.values) ++ r.back) 3 k no_options ≡ Ok read.0) place
    (ap (λ (xs : List (List ℕ)). options_from certifies (name ∷ xs) 3 (length kinds + 2) no_options) (sym r.words_are) ∙ read.1.0) in
    let chosen = chosen_back certifies (name ∷ spelled kinds r.values) r.back read.0 behind in
    let is : Ok (told.0 read.0) ≡ Ok c = read.1.1 in
    record {
      values = r.values;
      within = r.are;
      asks = told.0;
      go_together = known (BadNumber (length kinds + 1)) (of_values kinds asked r.values) told.0 told.1.0;
      options = read.0;
      choices = chosen.0;
      chosen = chosen.1.1.0;
      allowed = chosen.1.1.1;
      words_are = ap (λ (xs : List (List ℕ)). name ∷ xs) (r.words_are ∙ ap (λ (xs : List (List ℕ)). spelled kinds r.values ++ xs) chosen.1.0);
      command_is = cc;
    }

-- ## The table

-- what some row has
some_row : {P : Row → Type 0} {X : Type 0} (rows : List Row) → ((row : Row) → P row → X) → SomeRow P rows → X
some_row [] is h = absurd h
some_row (row ∷ rows) is (inl h) = is row h
some_row (row ∷ rows) is (inr h) = some_row rows is h

map_row : {P Q : Row → Type 0} (rows : List Row) → ((row : Row) → P row → Q row) → SomeRow P rows → SomeRow Q rows
map_row [] is h = h
map_row (row ∷ rows) is (inl h) = inl (is row h)
map_row (row ∷ rows) is (inr h) = inr (map_row rows is h)

-- a row's name is a word, and the words give the command by the row
abbrev Reads : List ℕ → List (List ℕ) → PlainCommand → Row → Type 0
Reads name words c row = (name ≡ name_of row) × (read_row words row ≡ Ok c)

-- no row of a table has that name, and each has a name of its own
abbrev no_name : List ℕ → List Row → Bool
no_name name [] = true
no_name name (row ∷ rows) = if bytes_eq (name_of row) name then false else no_name name rows

abbrev apart : List Row → Bool
apart [] = true
apart (row ∷ rows) = if no_name (name_of row) rows then apart rows else false

not_there : (b x : Bool) → cond b false x ≡ true → (b ≡ false) × (x ≡ true)
not_there true x e = absurd cc
not_there false x e = (refl, e)

there : (b x : Bool) → cond b x false ≡ true → (b ≡ true) × (x ≡ true)
there true x e = (refl, e)
there false x e = absurd cc

later_name : (name first : List ℕ) (words : List (List ℕ)) (rows : List Row) (c : PlainCommand) → no_name first rows ≡ true → SomeRow (Reads name words c) rows → bytes_eq name first ≡ false
later_name name first words [] c e h = absurd h
later_name name first words (row ∷ rows) c e (inl h) = rw h.0 (not_there (bytes_eq (name_of row) first) (no_name first rows) e).0
later_name name first words (row ∷ rows) c e (inr h) = later_name name first words rows c (not_there (bytes_eq (name_of row) first) (no_name first rows) e).1 h

-- by names of their own, some row that gives a command is the first of its name
first_named : (name : List ℕ) (words : List (List ℕ)) (rows : List Row) (c : PlainCommand) → apart rows ≡ true → SomeRow (Reads name words c) rows → read_named name words rows ≡ Ok c
first_named name words [] c e h = absurd h
first_named name words (row ∷ rows) c e (inl h) =
    let is : bytes_eq name (name_of row) ≡ true = (bytes_eq-Decides name (name_of row)).1 h.0 in
    rw is h.1
first_named name words (row ∷ rows) c e (inr h) =
    let tests = there (no_name (name_of row) rows) (apart rows) e in
    let other = later_name name (name_of row) words rows c tests.0 h in
    rw other (first_named name words rows c tests.1 h)

named_back : (name : List ℕ) (words : List (List ℕ)) (rows : List Row) (c : PlainCommand) → read_named name words rows ≡ Ok c → SomeRow (Reads name words c) rows
named_back name words [] c e = not_ok (UnknownCommand 1) c e
named_back name words (row ∷ rows) c e =
    elim (pick (bytes_eq name (name_of row)) (read_row words row) (read_named name words rows) c e) [
      | inl h ↦ inl ((bytes_eq-Decides name (name_of row)).0 h.0, h.1)
      | inr more ↦ inr (named_back name words rows c more)
    ]

-- ## Lines

line_reads : (w : List ℕ) (words : List (List ℕ)) (c : PlainCommand) (row : Row) → IsSmall row → IsLineOf (w ∷ words) c row → Reads w (w ∷ words) c row
line_reads w words c (Plain name kinds asked) small h =
    let line = h.words_are in
    let named : w ≡ name = cc in
    (named, rw line (row_reads name kinds asked h.values small h.within ∙ ap Ok h.command_is))
line_reads w words c (Search name certifies kinds asked) small h =
    let line = h.words_are in
    let named : w ≡ name = cc in
    (named, rw line (search_reads certifies name kinds asked h.values h.asks h.choices h.options.nodes h.options.cert small h.within h.go_together h.allowed h.chosen ∙ ap Ok h.command_is))

line_back : (w : List ℕ) (words : List (List ℕ)) (c : PlainCommand) (row : Row) → Reads w (w ∷ words) c row → IsLineOf (w ∷ words) c row
line_back w words c (Plain name kinds asked) h =
    rw h.0 (row_back name words kinds asked c (rw h.0 at h.1))
line_back w words c (Search name certifies kinds asked) h =
    rw h.0 (search_back certifies name words kinds asked c (rw h.0 at h.1))

-- a line has a word
some_word : (c : PlainCommand) (row : Row) → IsLineOf [] c row → ⊥
some_word c (Plain name kinds asked) h = let line = h.words_are in cc
some_word c (Search name certifies kinds asked) h = let line = h.words_are in cc

-- what is in the grammar is read
pub reads : (words : List (List ℕ)) (command : PlainCommand) → IsCommandLine words command → command_of words ≡ Ok command
unfolding command_of named_command
reads [] command h = absurd (some_row commands (some_word command) h)
reads (w ∷ words) command h = first_named w (w ∷ words) commands command refl (map_row commands (λ row (line : IsFit row × IsLineOf (w ∷ words) command row). line_reads w words command row line.0.0 line.1) (fit_too (IsLineOf (w ∷ words) command) commands all_fit h))

-- what is read is in the grammar
pub in_grammar : (words : List (List ℕ)) (command : PlainCommand) → command_of words ≡ Ok command → IsCommandLine words command
unfolding command_of named_command
in_grammar [] c e = absurd (not_ok NoCommand c e)
in_grammar (w ∷ words) c e = map_row commands (line_back w words c) (named_back w (w ∷ words) commands c e)

-- a command that was read is in range
pub in_range : (words : List (List ℕ)) (command : PlainCommand) → command_of words ≡ Ok command → IsInRange command
in_range words command is = some_row commands (λ row (line : IsFit row × IsLineOf words command row). line.0.1 words command line.1) (fit_too (IsLineOf words command) commands all_fit (in_grammar words command is))
