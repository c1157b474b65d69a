-- What a run leaves of the files, and of the text where it was cut short.
use Rattle.std.specs.Prelude.{◌≡◌, ◌≢◌, ◌⊎◌, ℕ, List, [], ◌∷◌, MatchBool, Option, Result, Ok, Err}
use Rattle.adv_shelf.specs.Shelf.{Files}
use Rattle.report.specs.Advices.{needs_setting}
use Rattle.report.specs.declared.done.Done.{Done}
use Rattle.report.specs.declared.done.Done.TheVariants.{WriteFault, Memory}
use Rattle.command_line.specs.declared.fault.WordFault.{WordFault}
use Rattle.cophy_core.specs.commands.{files_put}
use Rattle.command_line.specs.CommandLine.{PlainCommand, command_of}
use Rattle.cophy_core.specs.Endings.{Put, Outside, put_all, EndsUnwritten, EndsUnput}
use Rattle.cophy_core.specs.Replies.{ArePuts, IsReply}

-- a command that puts a file
abbrev pub PutsFile : PlainCommand → Type 0
PutsFile command = files_put command ≢ []

-- words that are such a command
abbrev pub PutsFileTo : Result PlainCommand WordFault → Type 0
PutsFileTo (Ok command) = PutsFile command
PutsFileTo (Err fault) = ⊥

-- A reply to the words was cut short: its files were put, and a write of its text failed behind a prefix; or one of the puts
-- didn't go through, those before it did, and nothing was written.
pub record IsCutShort (words : List (List ℕ)) (before after : Outside) (done : Done) : Type 0 where
  pub told : Done
  pub puts : List Put
  pub text : List ℕ
  pub reply_is : IsReply words before.files before.reads after.reads told puts text
  pub ends : EndsUnwritten before after puts text done ⊎ EndsUnput before after puts done

-- an answer, and what was put for it
pub record IsPut (command : PlainCommand) (words : List (List ℕ)) (before after : Option Files) (done : Done) : Type 0 where
  pub puts : List Put
  pub text : List ℕ
  pub puts_are : ArePuts command before words done puts text
  pub files_are : after ≡ put_all before puts

-- what a command puts was put for an answer over a setting; for every other each file is as it was
abbrev pub IsPutFor : PlainCommand → List (List ℕ) → Option Files → Option Files → Done → Type 0
IsPutFor command words before after done =
    MatchBool (needs_setting done) (IsPut command words before after done) (after ≡ before)

-- Want of memory leaves each file as it was; but where a command puts several, some may have been put before it.
abbrev pub LeavesFront : List (List ℕ) → List (List ℕ) → Outside → Outside → Type 0
LeavesFront (first ∷ second ∷ names) words before after = (after.files ≡ before.files) ⊎ IsCutShort words before after Memory
LeavesFront names words before after = after.files ≡ before.files

-- no file changes but those of these names, which a command puts
abbrev pub Leaves : List (List ℕ) → PlainCommand → List (List ℕ) → Outside → Outside → Done → Type 0
Leaves [] command words before after done = after.files ≡ before.files
Leaves names command words before after WriteFault = IsCutShort words before after WriteFault
Leaves names command words before after Memory = LeavesFront names words before after
Leaves names command words before after done = IsPutFor command words before.files after.files done

-- the same of words
abbrev pub LeavesFilesTo : Result PlainCommand WordFault → List (List ℕ) → Outside → Outside → Done → Type 0
LeavesFilesTo (Ok command) words before after done = Leaves (files_put command) command words before after done
LeavesFilesTo (Err fault) words before after done = after.files ≡ before.files

abbrev pub LeavesFiles : List (List ℕ) → Outside → Outside → Done → Type 0
LeavesFiles words before after done = LeavesFilesTo (command_of words) words before after done
