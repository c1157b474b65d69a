-- An answer that may be given to words, and its text.
use Rattle.std.specs.Prelude.{◌≡◌, ℕ, List, [], map, MatchBool, Option, Some, None, Result, Ok, Err}
use Rattle.adv_base.specs.Settings.{TheSetting}
use Rattle.adv_shelf.specs.Shelf.{Files}
use Rattle.report.specs.Advices.{needs_setting}
use Rattle.report.specs.Texts.{done_text}
use Rattle.report.specs.declared.done.Done.{Done}
use Rattle.report.specs.declared.done.Done.TheVariants.{Usage, ReadFault, Memory}
use Rattle.command_line.specs.declared.fault.WordFault.{WordFault}
use Rattle.cophy_core.specs.Answers.{OfSetting, Answers}
use Rattle.cophy_core.specs.commands.{GivesOver, files_put, PutsOver, files_of}
use Rattle.command_line.specs.CommandLine.{PlainCommand, command_of}
use Rattle.cophy_core.specs.Endings.{Put, Outside, Ends}
use Rattle.cophy_core.specs.Files.{ReadCounts, IsReadFault}

-- What may be answered to a command between these counts of faults: a read fault, want of memory, or what the files
-- answer.
abbrev pub MayAnswer : PlainCommand → Option Files → ReadCounts → ReadCounts → Done → Type 0
MayAnswer command files before after (ReadFault role) = IsReadFault files (files_of command) before after role
MayAnswer command files before after Memory = Unit {0}
MayAnswer command files before after done = Answers command files done

-- The same to words: to those that are no command, their first fault.
abbrev pub MayAnswerWords : Result PlainCommand WordFault → Option Files → ReadCounts → ReadCounts → Done → Type 0
MayAnswerWords (Ok command) files before after done = MayAnswer command files before after done
MayAnswerWords (Err fault) files before after (Usage told) = told ≡ fault
MayAnswerWords (Err fault) files before after Memory = Unit {0}
MayAnswerWords (Err fault) files before after done = ⊥

-- the text of an answer to a command, told over its setting where it needs one
abbrev pub IsTextOf : PlainCommand → Option Files → List (List ℕ) → Done → List ℕ → Type 0
IsTextOf command files words done text =
    MatchBool (needs_setting done) (OfSetting files command (λ inputs setting. text ≡ done_text words (Some setting) done))
    (text ≡ done_text words None done)

-- the same to words
abbrev pub IsTextTo : Result PlainCommand WordFault → Option Files → List (List ℕ) → Done → List ℕ → Type 0
IsTextTo (Ok command) files words done text = IsTextOf command files words done text
IsTextTo (Err fault) files words done text = text ≡ done_text words None done

-- what a command gives over a setting, what it puts for that, which are its files in turn, and the text
pub record IsGiven (command : PlainCommand) (words : List (List ℕ)) (inputs : List (List ℕ)) (setting : TheSetting) (done : Done) (puts : List Put) (text : List ℕ) : Type 0 where
  pub gives : GivesOver command inputs setting done
  pub puts_are : PutsOver command inputs setting done puts
  pub names_are : map (λ put. put.name) puts ≡ files_put command
  pub text_is : text ≡ done_text words (Some setting) done

-- what is put for an answer to a command: where its text needs a setting, what the command puts, over one setting with the
-- answer and that text; nothing for all other answers
abbrev pub ArePuts : PlainCommand → Option Files → List (List ℕ) → Done → List Put → List ℕ → Type 0
ArePuts command files words done puts text =
    MatchBool (needs_setting done) (OfSetting files command (λ inputs setting. IsGiven command words inputs setting done puts text))
    (puts ≡ [])

-- the same to words
abbrev pub ArePutsTo : Result PlainCommand WordFault → Option Files → List (List ℕ) → Done → List Put → List ℕ → Type 0
ArePutsTo (Ok command) files words done puts text = ArePuts command files words done puts text
ArePutsTo (Err fault) files words done puts text = puts ≡ []

-- what a command replies over the files, with what is put and the text
pub record Replies (command : PlainCommand) (files : Option Files) (words : List (List ℕ)) (done : Done) (puts : List Put) (text : List ℕ) : Type 0 where
  pub answers : Answers command files done
  pub puts_are : ArePuts command files words done puts text
  pub text_is : IsTextOf command files words done text

-- an answer to the words, what is put for it, and its text
pub record IsReply (words : List (List ℕ)) (files : Option Files) (before after : ReadCounts) (done : Done) (puts : List Put) (text : List ℕ) : Type 0 where
  pub answers : MayAnswerWords (command_of words) files before after done
  pub puts_are : ArePutsTo (command_of words) files words done puts text
  pub text_is : IsTextTo (command_of words) files words done text

-- a run: a reply to the words, and how it ended
pub record IsRun (words : List (List ℕ)) (before after : Outside) (done : Done) : Type 0 where
  pub told : Done
  pub puts : List Put
  pub text : List ℕ
  pub reply_is : IsReply words before.files before.reads after.reads told puts text
  pub ends : Ends before after told puts text done
