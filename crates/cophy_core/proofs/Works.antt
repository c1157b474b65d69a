-- What a command gives over what was read for it is given over its files.
use Rattle.std.proofs.Common.{◌≡◌, inl, inr, ℕ, ◌≤◌, List, [], ◌∷◌, ◌++◌, length, Option, None, Some, refl, ap, ◌∙◌, append_assoc, sym, subst, arith}
use Rattle.std.specs.Prelude.{IsSomeAnd, option_to_list}
use Rattle.adv_base.specs.Settings.{TheSetting}
use Rattle.adv_base.specs.declared.limits.TheConstants.{MOST_CERTIFICATE_BYTES, MOST_FILE_BYTES}
use Rattle.adv_shelf.specs.Shelf.{Files}
use Rattle.certificate.specs.Scanners.{StandsFor}
use Rattle.certificate.specs.declared.scanner.Scanner.{Scanner}
use Rattle.report.specs.declared.done.Done.{Done}
use Rattle.report.specs.declared.done.Refusal.TheVariants.{TooLong}
use Rattle.report.specs.declared.done.Role.{Role}
use Rattle.report.specs.declared.done.Role.TheVariants.{Third, Fourth}
use Rattle.cophy_core.specs.commands.{whole_files, certificate_of, files_of, GivesOver, PutsOver}
use Rattle.cophy_core.specs.Endings.{Put}
use Rattle.command_line.specs.CommandLine.{PlainCommand, Candidates, Cost, WhatIf, Explain, Advise, Ruled, Sweep, Retune, Check, CheckRuled, Fold, Bench}
use Rattle.cophy_core.specs.Files.{InputFile, IsInput, SomeInput, AreInputs, ReadCounts, input, input_file, setting_files, three_files}
use Rattle.cophy_core.specs.Inputs.{HasInputs, HasWhole, HasScanned, HasRead}
use Rattle.cophy_core.specs.Reading.{IsUnreadFile, StopsReading, StopsAtFiles}
use Rattle.cophy_core.specs.Settings.{IsSetting, IsSettingRefusal}
use Rattle.command_line.specs.Spellings.{IsInRange}
use Rattle.cophy_core.specs.Stops.{StopsAt}
use Rattle.cophy_core.specs.declared.files.Inputs.{Inputs}
use Rattle.cophy_core.specs.commands.CheckRuled as check_ruled
use Rattle.cophy_core.specs.declared.stop.Stop.{Stop}
use Rattle.cophy_core.specs.declared.stop.Stop.TheVariants.{Memory, Failed, Refused}
use Rattle.cophy_core.specs.inner.Work.{GivesRead, StopsWork}
use Rattle.cophy_core.proofs.Answered.{second_short, reading_stops, setting_stops, work_stops}
use Rattle.cophy_core.proofs.FilesRead.{first_stops}

-- ## Texts that were read

abbrev certificate_file : Role → List ℕ → InputFile
certificate_file role name = input_file role name MOST_CERTIFICATE_BYTES

-- the texts that a command answers from, of which those that are held whole are the first
pub record Texts (files : Option Files) (command : PlainCommand) (whole : List (List ℕ)) : Type 0 where
  pub texts : List (List ℕ)
  pub texts_are : HasInputs files command texts
  pub first : input texts 0 ≡ input whole 0
  pub second : input texts 1 ≡ input whole 1

-- and behind them these bytes of a certificate
pub record AllTexts (files : Option Files) (cat load cert : List ℕ) (whole : List (List ℕ)) (bytes : List ℕ) : Type 0 where
  pub texts : Texts files (Check cat load cert) whole
  pub third : input texts.texts 2 ≡ bytes

pub with_third : (files : Option Files) (cat load cert : List ℕ) (whole : List (List ℕ)) (bytes : List ℕ) → AreInputs files (setting_files cat load) whole → IsInput files (certificate_file Third cert) bytes → AllTexts files cat load cert whole bytes
with_third files cat load cert [] bytes are is = absurd are
with_third files cat load cert (a ∷ []) bytes are is = absurd are.1
with_third files cat load cert (a ∷ b ∷ []) bytes are is =
    record { texts = record { texts = a ∷ b ∷ bytes ∷ []; texts_are = (are.0, (are.1.0, (is, tt))); first = refl; second = refl }; third = refl }
with_third files cat load cert (a ∷ b ∷ c ∷ more) bytes are is = absurd are.1.1

-- so it is behind rules
pub record RuledTexts (files : Option Files) (cat load rules cert : List ℕ) (whole : List (List ℕ)) (bytes : List ℕ) : Type 0 where
  pub texts : Texts files (CheckRuled cat load rules cert) whole
  pub third : input texts.texts 2 ≡ input whole 2
  pub fourth : input texts.texts 3 ≡ bytes

pub with_fourth : (files : Option Files) (cat load rules cert : List ℕ) (whole : List (List ℕ)) (bytes : List ℕ) → AreInputs files (three_files cat load rules) whole → IsInput files (certificate_file Fourth cert) bytes →
    RuledTexts files cat load rules cert whole bytes
with_fourth files cat load rules cert [] bytes are is = absurd are
with_fourth files cat load rules cert (a ∷ []) bytes are is = absurd are.1
with_fourth files cat load rules cert (a ∷ b ∷ []) bytes are is = absurd are.1.1
with_fourth files cat load rules cert (a ∷ b ∷ c ∷ []) bytes are is = record {
  texts = record { texts = a ∷ b ∷ c ∷ bytes ∷ []; texts_are = (are.0, (are.1.0, (are.1.1.0, (is, tt)))); first = refl; second = refl };
  third = refl;
  fourth = refl;
}
with_fourth files cat load rules cert (a ∷ b ∷ c ∷ d ∷ more) bytes are is = absurd are.1.1.1

-- a scanner stands for some of them
pub scanned : (files : Option Files) (file : InputFile) (scanner : Option Scanner) → IsSomeAnd scanner (λ s. SomeInput files file (StandsFor s)) → (bytes : List ℕ) × IsInput files file bytes
scanned files file None h = absurd h
scanned files file (Some s) h = (h.0, h.1)

pub texts_read : (command : PlainCommand) (files : Option Files) (read : Inputs) → HasRead files command read → Texts files command read.whole
texts_read (Check cat load cert) files read h =
    let bytes = scanned files (certificate_file Third cert) read.scanner h.1 in
    (with_third files cat load cert read.whole bytes.0 h.0 bytes.1).texts
texts_read (CheckRuled cat load rules cert) files read h =
    let bytes = scanned files (certificate_file Fourth cert) read.scanner h.1 in
    (with_fourth files cat load rules cert read.whole bytes.0 h.0 bytes.1).texts
texts_read command files read h = record { texts = read.whole; texts_are = h.0; first = refl; second = refl }

pub workload_short : (command : PlainCommand) (files : Option Files) (read : Inputs) → IsInRange command → HasRead files command read → length (input read.whole 1) ≤ MOST_FILE_BYTES
workload_short command files read range h =
    let t = texts_read command files read h in
    subst (λ (bytes : List ℕ). length bytes ≤ MOST_FILE_BYTES) t.second (second_short command files t.texts range t.texts_are)

-- the third of the files that are held whole is within its limit, where there is one
two_files : (files : Option Files) (cat load : List ℕ) (inputs : List (List ℕ)) → AreInputs files (setting_files cat load) inputs → length (input inputs 2) ≤ MOST_FILE_BYTES
two_files files cat load [] are = absurd are
two_files files cat load (a ∷ []) are = absurd are.1
two_files files cat load (a ∷ b ∷ []) are = omega arith
two_files files cat load (a ∷ b ∷ c ∷ inputs) are = absurd are.1.1

third_file : (files : Option Files) (cat load third : List ℕ) (inputs : List (List ℕ)) → AreInputs files (three_files cat load third) inputs → length (input inputs 2) ≤ MOST_FILE_BYTES
third_file files cat load third [] are = absurd are
third_file files cat load third (a ∷ []) are = absurd are.1
third_file files cat load third (a ∷ b ∷ []) are = absurd are.1.1
third_file files cat load third (a ∷ b ∷ c ∷ inputs) are = are.1.1.0.short

pub third_short : (command : PlainCommand) (files : Option Files) (whole : List (List ℕ)) → HasWhole files command whole → length (input whole 2) ≤ MOST_FILE_BYTES
third_short (Candidates cat load) files whole are = two_files files cat load whole are
third_short (Cost cat load) files whole are = two_files files cat load whole are
third_short (WhatIf cat load conf) files whole are = third_file files cat load conf whole are
third_short (Explain cat load conf number) files whole are = third_file files cat load conf whole are
third_short (Advise cat load budget nodes cert) files whole are = two_files files cat load whole are
third_short (Ruled cat load budget rules nodes cert) files whole are = third_file files cat load rules whole are
third_short (Sweep cat load first step count nodes cert) files whole are = two_files files cat load whole are
third_short (Retune cat load edits budget nodes) files whole are = third_file files cat load edits whole are
third_short (Check cat load cert) files whole are = two_files files cat load whole are
third_short (CheckRuled cat load rules cert) files whole are = third_file files cat load rules whole are
third_short (Fold cat load out) files whole are = two_files files cat load whole are
third_short (Bench seed tables statements budget) files whole are = rw are (omega arith)

-- where nothing was scanned, there is no certificate
pub no_certificate : (command : PlainCommand) (files : Option Files) (scanner : Option Scanner) → HasScanned files (certificate_of command) scanner → scanner ≡ None → None ≡ certificate_of command
no_certificate (Check cat load cert) files None h e = absurd h
no_certificate (CheckRuled cat load rules cert) files None h e = absurd h
no_certificate (Check cat load cert) files (Some scanner) h e = absurd cc
no_certificate (CheckRuled cat load rules cert) files (Some scanner) h e = absurd cc
no_certificate command files scanner h e = refl

-- ## Reading that stops

-- at one of the first files
pub front_stops : (files : Option Files) (uses more : List InputFile) (before after : ReadCounts) (stop : Stop) → StopsReading files uses before after stop → StopsReading files (uses ++ more) before after stop
front_stops files uses more before after Memory h = tt
front_stops files uses more before after (Failed role) h =
    record { front = h.front; file = h.file; rest = h.rest ++ more; inputs = h.inputs; uses_are = ap (λ (us : List InputFile). us ++ more) h.uses_are ∙ append_assoc h.front (h.file ∷ h.rest) more; earlier = h.earlier; bad = h.bad }
front_stops files uses more before after (Refused (TooLong role)) h =
    record { front = h.front; file = h.file; rest = h.rest ++ more; inputs = h.inputs; uses_are = ap (λ (us : List InputFile). us ++ more) h.uses_are ∙ append_assoc h.front (h.file ∷ h.rest) more; earlier = h.earlier; bad = h.bad }
front_stops files uses more before after (Refused why) h = absurd h

-- at one of those that a command reads whole
pub whole_stops : (command : PlainCommand) (files : Option Files) (before after : ReadCounts) (stop : Stop) → StopsReading files (whole_files command) before after stop → StopsAtFiles command files before after stop
whole_stops command files before after stop h =
    reading_stops command files before after stop (front_stops files (whole_files command) (option_to_list (certificate_of command)) before after stop h)

-- at the certificate, be it at the first reading of it or at the second
pub certificate_stops : (files : Option Files) (command : PlainCommand) (front : List InputFile) (last : InputFile) (whole : List (List ℕ)) (start before after : ReadCounts) (stop : Stop) → files_of command ≡ front ++ last ∷ [] →
    AreInputs files front whole → start.all ≤ before.all → ((n : List ℕ) → start.at n ≤ before.at n) → IsUnreadFile files before after last stop → StopsAtFiles command files start after stop
certificate_stops files command front last whole start before after stop uses are all at why =
    reading_stops command files start after stop (first_stops files (files_of command) front [] last whole start before after stop uses are all at why)

-- at the first
pub scanning_stops : (files : Option Files) (command : PlainCommand) (last : InputFile) (whole : List (List ℕ)) (start before after : ReadCounts) (stop : Stop) → Some last ≡ certificate_of command →
    HasWhole files command whole → start.all ≤ before.all → ((n : List ℕ) → start.at n ≤ before.at n) → IsUnreadFile files before after last stop → StopsAtFiles command files start after stop
scanning_stops files (Bench seed tables statements budget) last whole start before after stop e are all at why = absurd cc
scanning_stops files command last whole start before after stop e are all at why =
    certificate_stops files command (whole_files command) last whole start before after stop
    (ap (λ (file : Option InputFile). whole_files command ++ option_to_list file) (sym e)) are all at why

-- ## Over a setting

-- it is refused
pub setting_refused : (command : PlainCommand) (files : Option Files) (before after : ReadCounts) (read : Inputs) (stop : Stop) → HasRead files command read → StopsAt (IsSettingRefusal (input read.whole 0) (input read.whole 1)) stop → StopsAtFiles command files before after stop
setting_refused command files before after read stop h why =
    let t = texts_read command files read h in
    setting_stops command files before after t.texts stop t.texts_are (rw (t.first, t.second) why)

-- the work stops
pub work_stopped : (command : PlainCommand) (files : Option Files) (start before after : ReadCounts) (read : Inputs) (setting : TheSetting) (left_over : ℕ) (stop : Stop) → HasRead files command read →
    IsSetting (input read.whole 0) (input read.whole 1) setting left_over → start.all ≤ before.all → ((n : List ℕ) → start.at n ≤ before.at n) → StopsWork files command before after read.whole setting stop → StopsAtFiles command files start after stop
work_stopped (Check cat load cert) files start before after read setting left_over stop h is all at why =
    certificate_stops files (Check cat load cert) (setting_files cat load) (certificate_file Third cert) read.whole start before after stop refl h.0 all at why
work_stopped (CheckRuled cat load rules cert) files start before after read setting left_over stop h is all at (inl refused) =
    let bytes = scanned files (certificate_file Fourth cert) read.scanner h.1 in
    let all_texts = with_fourth files cat load rules cert read.whole bytes.0 h.0 bytes.1 in
    let texts = all_texts.texts in
    let own : StopsAt (check_ruled.Refuses (input texts.texts 2) setting) stop = rw all_texts.third refused in
    work_stops (CheckRuled cat load rules cert) files start after texts.texts setting left_over stop texts.texts_are (rw (texts.first, texts.second) is) own
work_stopped (CheckRuled cat load rules cert) files start before after read setting left_over stop h is all at (inr unread) =
    certificate_stops files (CheckRuled cat load rules cert) (three_files cat load rules) (certificate_file Fourth cert) read.whole start before after stop refl h.0 all at unread
work_stopped command files start before after read setting left_over stop h is all at why =
    work_stops command files start after read.whole setting left_over stop h.0 is why

-- what a command gives over its setting, and the texts of that
pub record Given (files : Option Files) (command : PlainCommand) (whole : List (List ℕ)) (setting : TheSetting) (left_over : ℕ) (done : Done) : Type 0 where
  pub texts : List (List ℕ)
  pub texts_are : HasInputs files command texts
  pub setting_is : IsSetting (input texts 0) (input texts 1) setting left_over
  pub gives : GivesOver command texts setting done
  pub puts_are : (puts : List Put) → PutsOver command whole setting done puts → PutsOver command texts setting done puts

pub work_given : (command : PlainCommand) (files : Option Files) (read : Inputs) (setting : TheSetting) (left_over : ℕ) (done : Done) → HasRead files command read → IsSetting (input read.whole 0) (input read.whole 1) setting left_over →
    GivesRead files command read.whole setting done → Given files command read.whole setting left_over done
work_given (Check cat load cert) files read setting left_over done h is gives =
    let all = with_third files cat load cert read.whole gives.0 h.0 gives.1 in
    record { texts = all.texts.texts; texts_are = all.texts.texts_are; setting_is = rw (all.texts.first, all.texts.second) is; gives = rw all.third gives.2; puts_are = λ puts h. h }
work_given (CheckRuled cat load rules cert) files read setting left_over done h is gives =
    let all = with_fourth files cat load rules cert read.whole gives.0 h.0 gives.1 in
    record { texts = all.texts.texts; texts_are = all.texts.texts_are; setting_is = rw (all.texts.first, all.texts.second) is; gives = rw (all.third, all.fourth) gives.2; puts_are = λ puts h. h }
work_given command files read setting left_over done h is gives =
    record { texts = read.whole; texts_are = h.0; setting_is = is; gives = gives; puts_are = λ puts h. h }
