-- Why the files of a command could not be read.
use Rattle.std.specs.Prelude.{List, Option}
use Rattle.adv_shelf.specs.Shelf.{Files}
use Rattle.report.specs.declared.done.Refusal.TheVariants.{TooLong}
use Rattle.cophy_core.specs.declared.stop.Stop.{Stop}
use Rattle.cophy_core.specs.declared.stop.Stop.TheVariants.{Memory, Failed, Refused}
use Rattle.cophy_core.specs.Answers.{Answers}
use Rattle.command_line.specs.CommandLine.{PlainCommand}
use Rattle.cophy_core.specs.Files.{InputFile, ReadCounts, IsUnread, IsLong, IsReadFault, IsTooLong}
use Rattle.cophy_core.specs.commands.{files_of}
use Rattle.report.specs.declared.done.Done.TheVariants as answers

-- of one file
abbrev pub IsUnreadFile : Option Files → ReadCounts → ReadCounts → InputFile → Stop → Type 0
IsUnreadFile files before after file Memory = Unit {0}
IsUnreadFile files before after file (Failed role) = IsUnread before after role file
IsUnreadFile files before after file (Refused (TooLong role)) = IsLong files role file
IsUnreadFile files before after file (Refused why) = ⊥

-- of files in a row
abbrev pub StopsReading : Option Files → List InputFile → ReadCounts → ReadCounts → Stop → Type 0
StopsReading files uses before after Memory = Unit {0}
StopsReading files uses before after (Failed role) = IsReadFault files uses before after role
StopsReading files uses before after (Refused (TooLong role)) = IsTooLong files uses role
StopsReading files uses before after (Refused why) = ⊥

-- before the answer to a command was worked out
abbrev pub StopsAtFiles : PlainCommand → Option Files → ReadCounts → ReadCounts → Stop → Type 0
StopsAtFiles command files before after Memory = Unit {0}
StopsAtFiles command files before after (Failed role) = IsReadFault files (files_of command) before after role
StopsAtFiles command files before after (Refused why) = Answers command files (answers.Refused why)
