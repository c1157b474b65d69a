-- What a command gives over what was read for it, or why its work stops.
use Rattle.std.specs.Prelude.{◌⊎◌, List, ℕ, Option}
use Rattle.adv_base.specs.declared.limits.TheConstants.{MOST_CERTIFICATE_BYTES}
use Rattle.adv_base.specs.Settings.{TheSetting}
use Rattle.adv_shelf.specs.Shelf.{Files}
use Rattle.report.specs.declared.done.Done.{Done}
use Rattle.report.specs.declared.done.Role.TheVariants.{Third, Fourth}
use Rattle.cophy_core.specs.declared.stop.Stop.{Stop}
use Rattle.cophy_core.specs.commands.Check as check
use Rattle.cophy_core.specs.commands.CheckRuled as check_ruled
use Rattle.cophy_core.specs.commands.{GivesOver, RefusesOver}
use Rattle.command_line.specs.CommandLine.{PlainCommand, Check, CheckRuled}
use Rattle.cophy_core.specs.Files.{InputFile, input, input_file, SomeInput, ReadCounts}
use Rattle.cophy_core.specs.Reading.{IsUnreadFile}
use Rattle.cophy_core.specs.Stops.{StopsAt}

-- A certificate is read once more. Where the shelf tells its files that finds the same bytes; else what is given is so
-- of some bytes that the file may have held.
abbrev pub GivesRead : Option Files → PlainCommand → List (List ℕ) → TheSetting → Done → Type 0
GivesRead files (Check cat load cert) whole setting done =
    SomeInput files (input_file Third cert MOST_CERTIFICATE_BYTES) (λ bytes. check.Gives bytes setting done)
GivesRead files (CheckRuled cat load rules cert) whole setting done =
    SomeInput files (input_file Fourth cert MOST_CERTIFICATE_BYTES) (λ bytes. check_ruled.Gives (input whole 2) bytes setting done)
GivesRead files command whole setting done = GivesOver command whole setting done

-- rules are refused, or a read of the certificate failed
abbrev pub StopsUnderRules : Option Files → InputFile → ReadCounts → ReadCounts → List ℕ → TheSetting → Stop → Type 0
StopsUnderRules files file before after rules setting stop =
    StopsAt (check_ruled.Refuses rules setting) stop ⊎ IsUnreadFile files before after file stop

-- a read of the certificate failed, or the command refuses something
abbrev pub StopsWork : Option Files → PlainCommand → ReadCounts → ReadCounts → List (List ℕ) → TheSetting → Stop → Type 0
StopsWork files (Check cat load cert) before after whole setting stop =
    IsUnreadFile files before after (input_file Third cert MOST_CERTIFICATE_BYTES) stop
StopsWork files (CheckRuled cat load rules cert) before after whole setting stop =
    StopsUnderRules files (input_file Fourth cert MOST_CERTIFICATE_BYTES) before after (input whole 2) setting stop
StopsWork files command before after whole setting stop = StopsAt (RefusesOver command whole setting) stop
