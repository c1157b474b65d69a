-- What is answered over a command's files is an answer to the command.
use Rattle.std.proofs.Common.{◌≡◌, ℕ, ◌≤◌, Bool, true, false, List, [], ◌∷◌, length, map, drop, Option, Some, None, refl, ap, ◌∙◌, arith}
use Rattle.std.specs.Prelude.{MatchBool}
use Rattle.adv_base.specs.declared.limits.TheConstants.{MOST_FILE_BYTES}
use Rattle.adv_shelf.specs.Shelf.{Files}
use Rattle.adv_base.specs.Settings.{TheSetting}
use Rattle.report.specs.Advices.{needs_setting}
use Rattle.report.proofs.ToldAlone.{told_alone}
use Rattle.report.specs.Texts.{done_text}
use Rattle.report.specs.declared.done.Done.{Done}
use Rattle.report.specs.declared.done.Done.TheVariants as answers
use Rattle.report.specs.declared.done.Refusal.{Refusal}
use Rattle.workload_gen.proofs.Lengths.{workload_short}
use Rattle.report.specs.declared.done.Refusal.TheVariants.{TooLong, Cat, Sql, Bind}
use Rattle.cophy_core.specs.declared.stop.Stop.{Stop}
use Rattle.cophy_core.specs.declared.stop.Stop.TheVariants.{Memory, Failed, Refused}
use Rattle.cophy_core.specs.Answers.{OfSetting, Answers}
use Rattle.cophy_core.specs.commands.{RefusesOver, GivesOver, files_put, PutsOver, files_of}
use Rattle.command_line.specs.CommandLine.{PlainCommand, Advise, Ruled, Sweep, CheckRuled, Fold, Bench}
use Rattle.command_line.specs.Spellings.{IsInRange}
use Rattle.cophy_core.specs.Files.{InputFile, AreInputs, input, ReadCounts}
use Rattle.cophy_core.specs.Inputs.{HasInputs}
use Rattle.cophy_core.specs.Reading.{StopsReading, StopsAtFiles}
use Rattle.cophy_core.specs.Settings.{IsSetting, IsSettingRefusal}
use Rattle.cophy_core.specs.Endings.{Put}
use Rattle.cophy_core.specs.Replies.{ArePuts, IsTextOf}
use Rattle.cophy_core.specs.Stops.{StopsAt}
use Rattle.cophy_core.specs.commands.Sweep.{names_from}
use Rattle.cophy_core.proofs.Sweeping.{names_are}

-- a refusal that is neither of the files nor of the setting
abbrev IsOwn : Refusal → Type 0
IsOwn (TooLong role) = ⊥
IsOwn (Cat fault) = ⊥
IsOwn (Sql fault) = ⊥
IsOwn (Bind fault) = ⊥
IsOwn why = Unit {0}

-- an answer that a command gives: that of no fault and of no refusal
abbrev pub IsCommandsOwn : Done → Type 0
IsCommandsOwn (answers.Usage fault) = ⊥
IsCommandsOwn (answers.ReadFault role) = ⊥
IsCommandsOwn answers.WriteFault = ⊥
IsCommandsOwn (answers.Refused why) = ⊥
IsCommandsOwn answers.Memory = ⊥
IsCommandsOwn done = Unit {0}

-- the second of some files is within its limit
second_file : (files : Option Files) (first second : InputFile) (more : List InputFile) (inputs : List (List ℕ)) → AreInputs files (first ∷ second ∷ more) inputs → length (input inputs 1) ≤ second.most
second_file files first second more [] are = absurd are
second_file files first second more (a ∷ []) are = absurd are.1
second_file files first second more (a ∷ b ∷ inputs) are = are.1.0.short

-- the workload from which a command answers is within that limit
pub second_short : (command : PlainCommand) (files : Option Files) (inputs : List (List ℕ)) → IsInRange command → HasInputs files command inputs → length (input inputs 1) ≤ MOST_FILE_BYTES
second_short (Bench seed tables statements budget) files inputs range are =
    rw are (omega (arith, workload_short seed tables statements (omega (arith, range.tables_some)) range.tables_few range.statements_few))
second_short command files inputs range are = second_file files _ _ (drop 2 (files_of command)) inputs are

-- the files of a command could not be read
pub reading_stops : (command : PlainCommand) (files : Option Files) (before after : ReadCounts) (stop : Stop) → StopsReading files (files_of command) before after stop → StopsAtFiles command files before after stop
reading_stops command files before after Memory h = tt
reading_stops command files before after (Failed role) h = h
reading_stops command files before after (Refused (TooLong role)) h = h
reading_stops command files before after (Refused why) h = absurd h

-- the setting was refused
pub setting_stops : (command : PlainCommand) (files : Option Files) (before after : ReadCounts) (inputs : List (List ℕ)) (stop : Stop) → HasInputs files command inputs → StopsAt (IsSettingRefusal (input inputs 0) (input inputs 1)) stop → StopsAtFiles command files before after stop
setting_stops command files before after inputs Memory are h = tt
setting_stops command files before after inputs (Failed role) are h = absurd h
setting_stops command files before after inputs (Refused (Cat fault)) are h =
    record { inputs = inputs; inputs_are = are; holds = h }
setting_stops command files before after inputs (Refused (Sql fault)) are h =
    record { inputs = inputs; inputs_are = are; holds = h }
setting_stops command files before after inputs (Refused (Bind fault)) are h =
    record { inputs = inputs; inputs_are = are; holds = h }
setting_stops command files before after inputs (Refused why) are h = absurd h

-- what a command refuses by itself is no refusal of the files or of the setting
own : (command : PlainCommand) (inputs : List (List ℕ)) (setting : TheSetting) (why : Refusal) → RefusesOver command inputs setting why → IsOwn why
own (Bench seed tables statements budget) inputs setting (TooLong role) h = h
own command inputs setting (TooLong role) h = h
own command inputs setting (Cat fault) h = h
own command inputs setting (Sql fault) h = h
own command inputs setting (Bind fault) h = h
own command inputs setting why h = tt

-- such a refusal is the first of the files
refused_over : (command : PlainCommand) (files : Option Files) (why : Refusal) → IsOwn why → OfSetting files command (λ inputs setting. RefusesOver command inputs setting why) → Answers command files (answers.Refused why)
refused_over command files (TooLong role) is_own h = absurd is_own
refused_over command files (Cat fault) is_own h = absurd is_own
refused_over command files (Sql fault) is_own h = absurd is_own
refused_over command files (Bind fault) is_own h = absurd is_own
refused_over command files why is_own h = h

-- a command stopped over its setting
pub work_stops : (command : PlainCommand) (files : Option Files) (before after : ReadCounts) (inputs : List (List ℕ)) (setting : TheSetting) (left_over : ℕ) (stop : Stop) → HasInputs files command inputs → IsSetting (input inputs 0) (input inputs 1) setting left_over → StopsAt (RefusesOver command inputs setting) stop → StopsAtFiles command files before after stop
work_stops command files before after inputs setting left_over Memory are is h = tt
work_stops command files before after inputs setting left_over (Failed role) are is h = absurd h
work_stops command files before after inputs setting left_over (Refused why) are is h =
    refused_over command files why (own command inputs setting why h)
    (record { inputs = inputs; setting = setting; left_over = left_over; inputs_are = are; setting_is = is; holds = h })

-- what a command gives is an answer of its own
pub given : (command : PlainCommand) (inputs : List (List ℕ)) (setting : TheSetting) (done : Done) → GivesOver command inputs setting done → IsCommandsOwn done
given (CheckRuled cat load rules cert) inputs setting (answers.Usage fault) h = h.gives
given (CheckRuled cat load rules cert) inputs setting (answers.ReadFault role) h = h.gives
given (CheckRuled cat load rules cert) inputs setting answers.WriteFault h = h.gives
given (CheckRuled cat load rules cert) inputs setting (answers.Refused why) h = h.gives
given (CheckRuled cat load rules cert) inputs setting answers.Memory h = h.gives
given command inputs setting (answers.Usage fault) h = h
given command inputs setting (answers.ReadFault role) h = h
given command inputs setting answers.WriteFault h = h
given command inputs setting (answers.Refused why) h = h
given command inputs setting answers.Memory h = h
given command inputs setting done h = tt

given_over : (command : PlainCommand) (files : Option Files) (done : Done) → IsCommandsOwn done → OfSetting files command (λ inputs setting. GivesOver command inputs setting done) → Answers command files done
given_over command files (answers.Refused why) is_given h = absurd is_given
given_over command files done is_given h = h

-- a command gave its answer over its setting
pub work_gives : (command : PlainCommand) (files : Option Files) (inputs : List (List ℕ)) (setting : TheSetting) (left_over : ℕ) (done : Done) → HasInputs files command inputs → IsSetting (input inputs 0) (input inputs 1) setting left_over → GivesOver command inputs setting done → Answers command files done
work_gives command files inputs setting left_over done are is h =
    given_over command files done (given command inputs setting done h)
    (record { inputs = inputs; setting = setting; left_over = left_over; inputs_are = are; setting_is = is; holds = h })

-- ## What is put and told

-- a fact by a test of which only one half is needed
by_test : (test : Bool) (P Q : Type 0) → (test ≡ true → P) → (test ≡ false → Q) → MatchBool test P Q
by_test true P Q whenever otherwise = whenever refl
by_test false P Q whenever otherwise = otherwise refl

-- nothing is put for an answer that needs no setting
none_put : (command : PlainCommand) (inputs : List (List ℕ)) (setting : TheSetting) (done : Done) (puts : List Put) → needs_setting done ≡ false → PutsOver command inputs setting done puts → puts ≡ []
none_put (Advise cat load budget nodes cert) inputs setting (answers.Advised advice) puts other h = absurd cc
none_put (Ruled cat load budget rules nodes cert) inputs setting (answers.Ruled ruled) puts other h = absurd cc
none_put (Sweep cat load first step count nodes cert) inputs setting (answers.Swept points) puts other h = absurd cc
none_put (Fold cat load out) inputs setting (answers.Folded folded) puts other h = absurd cc
none_put command inputs setting done puts other h = h

-- what is put are the files of the command, in turn
names_put : (command : PlainCommand) (inputs : List (List ℕ)) (setting : TheSetting) (done : Done) (puts : List Put) → GivesOver command inputs setting done → PutsOver command inputs setting done puts → map (λ put. put.name) puts ≡ files_put command
names_put (Advise cat load budget nodes (Some file)) inputs setting (answers.Advised advice) puts gives h = ap (map (λ (put : Put). put.name)) h.puts_are
names_put (Advise cat load budget nodes None) inputs setting (answers.Advised advice) puts gives h = ap (map (λ (put : Put). put.name)) h
names_put (Advise cat load budget nodes cert) inputs setting done puts gives h = absurd gives
names_put (Ruled cat load budget rules nodes (Some file)) inputs setting (answers.Ruled ruled) puts gives h = ap (map (λ (put : Put). put.name)) h.puts_are
names_put (Ruled cat load budget rules nodes None) inputs setting (answers.Ruled ruled) puts gives h = ap (map (λ (put : Put). put.name)) h
names_put (Ruled cat load budget rules nodes cert) inputs setting done puts gives h = absurd gives
names_put (Sweep cat load first step count nodes (Some prefix)) inputs setting (answers.Swept points) puts gives h =
    names_are setting prefix 1 points puts h ∙ ap (names_from prefix 1) gives.curve_is.counted
names_put (Sweep cat load first step count nodes None) inputs setting (answers.Swept points) puts gives h = ap (map (λ (put : Put). put.name)) h
names_put (Sweep cat load first step count nodes cert) inputs setting done puts gives h = absurd gives
names_put (Fold cat load out) inputs setting (answers.Folded folded) puts gives h = ap (map (λ (put : Put). put.name)) h.puts_are
names_put (Fold cat load out) inputs setting done puts gives h = absurd gives
names_put command inputs setting done puts gives h = ap (map (λ (put : Put). put.name)) h

-- what is put for an answer is put over its setting
pub work_puts : (command : PlainCommand) (files : Option Files) (words : List (List ℕ)) (inputs : List (List ℕ)) (setting : TheSetting) (left_over : ℕ) (done : Done) (puts : List Put) (text : List ℕ) → HasInputs files command inputs → IsSetting (input inputs 0) (input inputs 1) setting left_over → GivesOver command inputs setting done → PutsOver command inputs setting done puts → text ≡ done_text words (Some setting) done → ArePuts command files words done puts text
work_puts command files words inputs setting left_over done puts text are is gives put e =
    by_test (needs_setting done) _ _
    (λ needed. record {
      inputs = inputs;
      setting = setting;
      left_over = left_over;
      inputs_are = are;
      setting_is = is;
      holds = record { gives = gives; puts_are = put; names_are = names_put command inputs setting done puts gives put; text_is = e };
    })
    (λ other. none_put command inputs setting done puts other put)

-- its text is told over that setting
pub work_told : (command : PlainCommand) (files : Option Files) (words : List (List ℕ)) (inputs : List (List ℕ)) (setting : TheSetting) (left_over : ℕ) (done : Done) (text : List ℕ) → HasInputs files command inputs → IsSetting (input inputs 0) (input inputs 1) setting left_over → text ≡ done_text words (Some setting) done → IsTextOf command files words done text
work_told command files words inputs setting left_over done text are is e =
    by_test (needs_setting done) _ _
    (λ needed. record { inputs = inputs; setting = setting; left_over = left_over; inputs_are = are; setting_is = is; holds = e })
    (λ other. e ∙ told_alone words setting done other)
