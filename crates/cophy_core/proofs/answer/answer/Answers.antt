use Rattle.std.proofs.Common.{sym, subst, rules}
use Rattle.adv_base.specs.Settings.{TheSetting}
use Rattle.adv_base.specs.Settings.{the_setting}
use Rattle.candidates.specs.Candidates.{AreCandidates}
use Rattle.candidates.specs.Growing.{IsProposed}
use Rattle.command_line.specs.CommandLine.{plain_command, texts}
use Rattle.cophy_core.specs.Files.{input, counts}
use Rattle.cophy_core.specs.Endings.{plain_puts}
use Rattle.cophy_core.specs.Opened.{setting_in}
use Rattle.cophy_core.specs.Reading.{StopsAtFiles}
use Rattle.cophy_core.specs.Settings.{IsSetting, IsSettingRefusal}
use Rattle.cophy_core.specs.Stops.{StopsAt}
use Rattle.cophy_core.specs.inner.Work.{GivesRead, StopsWork}
use Rattle.cophy_core.proofs.Answered.{work_gives, work_puts, work_told}
use Rattle.cophy_core.proofs.Works.{workload_short, setting_refused, work_stopped, work_given}
use Rattle.cophy_core.proofs.answer.answer.Goals as goal

pub open-requires : goal.open-requires
open-requires g c =
    rw c.bytes_at-2.ensures (workload_short (plain_command c.args.command.now) _ c.in_ok-inputs.inputs c.requires c.in_ok-inputs.ensures.inputs)

pub work-requires-clause-read : goal.work-requires-clause-read
work-requires-clause-read g c = rw c.in_ok-inputs.ensures.files c.in_ok-inputs.ensures.inputs

pub work-requires-clause-found : goal.work-requires-clause-found
work-requires-clause-found g c =
    subst (λ (s : TheSetting). AreCandidates s.cat s.statements s.shapes c.in_ok-opened.opened.left_over) (sym c.setting-setting.ensures) c.in_ok-opened.ensures.setting.candidates_are

pub work-requires-clause-proposed : goal.work-requires-clause-proposed
work-requires-clause-proposed g c =
    subst (λ (s : TheSetting). IsProposed s.cat s.statements c.in_ok-opened.proposed) (sym c.setting-setting.ensures) c.in_ok-opened.ensures.proposed

pub work-requires-clause-opened : goal.work-requires-clause-opened
work-requires-clause-opened g c =
    let read = c.in_ok-inputs.inputs in
    let left_over = c.in_ok-opened.opened.left_over in
    let opened : IsSetting (input read.whole 0) (input read.whole 1) (setting_in c.in_ok-opened.opened) left_over = rw (c.bytes_at.ensures, c.bytes_at-2.ensures) at c.in_ok-opened.ensures.setting in
    subst (λ (s : TheSetting). IsSetting (input read.whole 0) (input read.whole 1) s left_over) (sym c.setting-setting.ensures) opened

pub returns-in_err-opened-clause-stop : goal.returns-in_err-opened-clause-stop
returns-in_err-opened-clause-stop g c =
    let command = plain_command c.args.command.now in
    let read = c.in_ok-inputs.inputs in
    let stop = c.in_err-opened.field-0.0 in
    let before = counts (g.S.Shelf.read_faults c.args.shelf.now) (g.S.Shelf.read_faults_at c.args.shelf.now) in
    let after = counts (g.S.Shelf.read_faults c.inputs_of.new.shelf) (g.S.Shelf.read_faults_at c.inputs_of.new.shelf) in
    let why : StopsAt (IsSettingRefusal (input read.whole 0) (input read.whole 1)) stop = rw (c.bytes_at.ensures, c.bytes_at-2.ensures) at c.in_err-opened.ensures.stop in
    let h : StopsAtFiles command (g.S.Shelf.files c.args.shelf.now) before after stop =
    setting_refused command (g.S.Shelf.files c.args.shelf.now) before after read stop c.in_ok-inputs.ensures.inputs why in
    search (rules, h)

pub returns-in_err-worked-clause-stop : goal.returns-in_err-worked-clause-stop
returns-in_err-worked-clause-stop g c =
    let command = plain_command c.args.command.now in
    let files = g.S.Shelf.files c.args.shelf.now in
    let read = c.in_ok-inputs.inputs in
    let stop = c.in_err-worked.field-0.0 in
    let setting = the_setting c.setting-setting.result in
    let left_over = c.in_ok-opened.opened.left_over in
    let start = counts (g.S.Shelf.read_faults c.args.shelf.now) (g.S.Shelf.read_faults_at c.args.shelf.now) in
    let before = counts (g.S.Shelf.read_faults c.inputs_of.new.shelf) (g.S.Shelf.read_faults_at c.inputs_of.new.shelf) in
    let after = counts (g.S.Shelf.read_faults c.work.new.shelf) (g.S.Shelf.read_faults_at c.work.new.shelf) in
    let opened : IsSetting (input read.whole 0) (input read.whole 1) (setting_in c.in_ok-opened.opened) left_over = rw (c.bytes_at.ensures, c.bytes_at-2.ensures) at c.in_ok-opened.ensures.setting in
    let is : IsSetting (input read.whole 0) (input read.whole 1) setting left_over = subst (λ (s : TheSetting). IsSetting (input read.whole 0) (input read.whole 1) s left_over) (sym c.setting-setting.ensures) opened in
    let why : StopsWork files command before after read.whole setting stop = rw c.in_ok-inputs.ensures.files at c.in_err-worked.ensures.stop in
    let h : StopsAtFiles command files start after stop =
    work_stopped command files start before after read setting left_over stop c.in_ok-inputs.ensures.inputs is c.in_ok-inputs.ensures.counts c.in_ok-inputs.ensures.counts_at why in
    search (rules, h)

pub returns-clause-reply : goal.returns-clause-reply
returns-clause-reply g c =
    let command = plain_command c.args.command.now in
    let files = g.S.Shelf.files c.args.shelf.now in
    let words = texts c.args.words.now in
    let read = c.in_ok-inputs.inputs in
    let setting = the_setting c.setting-setting.result in
    let left_over = c.in_ok-opened.opened.left_over in
    let done = c.in_ok-worked.worked.done in
    let puts = plain_puts c.in_ok-worked.worked.puts in
    let text = c.in_ok-text.text in
    let opened : IsSetting (input read.whole 0) (input read.whole 1) (setting_in c.in_ok-opened.opened) left_over = rw (c.bytes_at.ensures, c.bytes_at-2.ensures) at c.in_ok-opened.ensures.setting in
    let is : IsSetting (input read.whole 0) (input read.whole 1) setting left_over = subst (λ (s : TheSetting). IsSetting (input read.whole 0) (input read.whole 1) s left_over) (sym c.setting-setting.ensures) opened in
    let gives : GivesRead files command read.whole setting done = rw c.in_ok-inputs.ensures.files at c.in_ok-worked.ensures.gives in
    let given = work_given command files read setting left_over done c.in_ok-inputs.ensures.inputs is gives in
    record {
      answers = work_gives command files given.texts setting left_over done given.texts_are given.setting_is given.gives;
      puts_are = work_puts command files words given.texts setting left_over done puts text given.texts_are given.setting_is given.gives (given.puts_are puts c.in_ok-worked.ensures.puts) c.in_ok-text.ensures;
      text_is = work_told command files words given.texts setting left_over done text given.texts_are given.setting_is c.in_ok-text.ensures;
    }
