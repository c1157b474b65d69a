use Rattle.std.proofs.Common.{◌+◌, List, sym, subst}
use Rattle.std.specs.Prelude.{Option}
use Rattle.adv_base.specs.Settings.{the_setting}
use Rattle.bip_model.specs.declared.part.Part.{Part}
use Rattle.retune.specs.inner.Renewing.{AreRenewed}
use Rattle.retune.proofs.Renewed.{renewed-more, renewed-same}
use Rattle.retune.proofs.renewing.push_renewed.Goals as goal

pub returns-in-None : goal.returns-in-None
returns-in-None c =
    renewed-same (the_setting c.args.setting.now) c.args.changed.now c.args.at c.args.statement.now c.args.renewed.now.items c.requires.found (sym c.in-None.ensures) c.requires.before

pub returns-in_ok-push-in-Some : goal.returns-in_ok-push-in-Some
returns-in_ok-push-in-Some c =
    let setting = the_setting c.args.setting.now in
    subst (λ (list : List (Option Part)). AreRenewed setting c.args.changed.now (c.args.at + 1) list) (sym c.in_ok-push-in-Some.ensures.items)
    (renewed-more setting c.args.changed.now c.args.at c.args.statement.now c.in-Some.block.now c.args.renewed.now.items c.in_ok-own-in-Some.own c.requires.found (sym c.in-Some.ensures)
    (c.in_ok-own-in-Some.ensures c.args.statement.now c.requires.found) c.requires.before)
