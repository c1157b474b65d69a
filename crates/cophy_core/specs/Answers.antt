-- What each command answers over the files.
use Rattle.std.specs.Prelude.{ℕ, List, Option}
use Rattle.adv_shelf.specs.Shelf.{Files}
use Rattle.adv_base.specs.Settings.{TheSetting}
use Rattle.report.specs.declared.done.Done.{Done}
use Rattle.report.specs.declared.done.Done.TheVariants.{Refused}
use Rattle.report.specs.declared.done.Refusal.TheVariants.{TooLong, Cat, Sql, Bind}
use Rattle.command_line.specs.CommandLine.{PlainCommand}
use Rattle.cophy_core.specs.Files.{input, IsTooLong}
use Rattle.cophy_core.specs.commands.{files_of, RefusesOver, GivesOver}
use Rattle.cophy_core.specs.Inputs.{HasInputs}
use Rattle.cophy_core.specs.Settings.{IsSetting, HasCatFault, IsSqlRefusal, IsBindRefusal}

-- a command answers from these bytes, which have P
pub record OfFiles (files : Option Files) (command : PlainCommand) (P : List (List ℕ) → Type 0) : Type 0 where
  pub inputs : List (List ℕ)
  pub inputs_are : HasInputs files command inputs
  pub holds : P inputs

-- the first two of them are a setting, which has P
pub record OfSetting (files : Option Files) (command : PlainCommand) (P : List (List ℕ) → TheSetting → Type 0) : Type 0 where
  pub inputs : List (List ℕ)
  pub setting : TheSetting
  pub left_over : ℕ
  pub inputs_are : HasInputs files command inputs
  pub setting_is : IsSetting (input inputs 0) (input inputs 1) setting left_over
  pub holds : P inputs setting

-- the first refusal in the order of work: a file that is too long, a fault of the catalogue, of the workload's text, of
-- its names, what the command alone refuses; else what the command gives
abbrev pub Answers : PlainCommand → Option Files → Done → Type 0
Answers command files (Refused (TooLong role)) = IsTooLong files (files_of command) role
Answers command files (Refused (Cat fault)) = OfFiles files command (λ inputs. HasCatFault (input inputs 0) fault)
Answers command files (Refused (Sql fault)) = OfFiles files command (λ inputs. IsSqlRefusal (input inputs 0) (input inputs 1) fault)
Answers command files (Refused (Bind fault)) = OfFiles files command (λ inputs. IsBindRefusal (input inputs 0) (input inputs 1) fault)
Answers command files (Refused why) = OfSetting files command (λ inputs setting. RefusesOver command inputs setting why)
Answers command files done = OfSetting files command (λ inputs setting. GivesOver command inputs setting done)
