use Rattle.std.proofs.Common.{inl}
use Rattle.std.proofs.lemmas.Result.{err_from_is_err_and}
use Rattle.adv_base.specs.Settings.{the_setting}
use Rattle.dba_rules.specs.declared.fault.RuleFault.TheVariants as rules
use Rattle.report.specs.declared.done.Refusal.TheVariants.{Rules}
use Rattle.cophy_core.specs.Files.{input_file}
use Rattle.cophy_core.specs.commands.CheckRuled.{Refuses}
use Rattle.cophy_core.proofs.Checking.{given_under_rules, stops_under_rules}
use Rattle.cophy_core.proofs.Stopped.{stops_at}
use Rattle.cophy_core.proofs.commands.check_ruled.check_ruled.Goals as goal

pub returns-in_err-root-clause-stop : goal.returns-in_err-root-clause-stop
returns-in_err-root-clause-stop g c =
    let p = err_from_is_err_and c.from_residual.result c.from_residual.ensures.1 in
    let setting = the_setting c.args.setting.now in
    rw p.1 (inl (stops_at (Refuses c.args.rules.now setting) rules.Memory Rules c.in_err-root.field-0.0 p.0 p.2 (λ apart. record { no_memory = apart; first = c.in_err-root.ensures.exact apart })))

pub returns-clause-gives : goal.returns-clause-gives
returns-clause-gives g c =
    let file = c.args.file.now in
    given_under_rules c.check_below.result (g.S.Shelf.files c.args.shelf.now) (input_file file.role file.name.now file.most) (the_setting c.args.setting.now) c.args.rules.now c.in_ok-root.root c.in_ok-root.ensures.exact c.check_below.ensures.gives

pub returns-clause-stop : goal.returns-clause-stop
returns-clause-stop g c = stops_under_rules c.check_below.result _ _ _ _ _ _ c.check_below.ensures.stop
