use Rattle.std.proofs.Common.{◌≡◌, ℕ, ◌<◌, sym, subst}
use Rattle.adv_base.specs.declared.setting.Config.{Config}
use Rattle.adv_base.specs.Nodes as nodes
use Rattle.adv_base.specs.Settings.{the_setting}
use Rattle.bip_model.specs.Views.{node_of}
use Rattle.dba_rules.specs.Settled.{IsFirstBroken}
use Rattle.gap_checker.specs.Views.{config_with}
use Rattle.plan_model.specs.declared.plan.TheConstants.{MOST_TOTAL}
use Rattle.cophy_core.specs.Files.{input_file}
use Rattle.cophy_core.proofs.Advising.{total_small}
use Rattle.cophy_core.proofs.Again.{Laws, disobeying, proved_again, faulty_again, broken_again}
use Rattle.cophy_core.proofs.commands.check.judged.Goals as goal

pub config_with-config-requires : goal.config_with-config-requires
config_with-config-requires g c =
    let read = c.requires.read in rw c.as_slice.ensures (c.heads_keep_limits.ensures read.0 c.args.head.now read.2).config

pub returns-in-Some-clause-gives : goal.returns-in-Some-clause-gives
returns-in-Some-clause-gives g c =
    let root = node_of c.args.root.now in
    let file = c.args.file.now in
    let number = c.in-Some.number in
    let own : c.config_with-config.result ≡ config_with c.args.head.now.config = rw c.as_slice.ensures at c.config_with-config.ensures in
    disobeying (g.S.Shelf.files c.args.shelf.now) (input_file file.role file.name.now file.most) root c.args.head.now number c.requires.read
    (subst (λ (config : Config). IsFirstBroken root config number) own c.in-Some.ensures)

pub returns-in-Ok-clause-gives : goal.returns-in-Ok-clause-gives
returns-in-Ok-clause-gives g c =
    let laws : Laws = record { fit = c.written_certificates_fit.ensures; keep = c.heads_keep_limits.ensures; told = c.answers_are_alike.ensures.told; bound = c.shown_bounds.ensures.proof } in
    let setting = the_setting c.args.setting.now in
    let root = node_of c.args.root.now in
    let head = c.args.head.now in
    let file = c.args.file.now in
    let told = c.in-Ok.ensures.checked in
    let own : c.config_with-config.result ≡ config_with head.config = rw c.as_slice.ensures at c.config_with-config.ensures in
    let obeys : nodes.IsBelow root (config_with head.config) = subst (nodes.IsBelow root) own (rw c.in_default.is at c.broken.ensures) in
    proved_again laws (g.S.Shelf.files c.args.shelf.now) (input_file file.role file.name.now file.most) setting root head told.0 c.in-Ok.checked c.args.setting.now.limits c.requires.most c.requires.read obeys told.1 told.2

pub returns-in-Ok-clause-bound : goal.returns-in-Ok-clause-bound
returns-in-Ok-clause-bound g c =
    let is = c.in-Ok.ensures.checked.2.checked_is in
    subst (λ (cost : ℕ). cost < MOST_TOTAL) (sym is.cost_is) (total_small (the_setting c.args.setting.now) _ c.args.head.now.cost c.args.setting.now.limits is.proof.cost_is)

pub returns-in-Err-Malformed-clause-gives : goal.returns-in-Err-Malformed-clause-gives
returns-in-Err-Malformed-clause-gives g c =
    let laws : Laws = record { fit = c.written_certificates_fit.ensures; keep = c.heads_keep_limits.ensures; told = c.answers_are_alike.ensures.told; bound = c.shown_bounds.ensures.proof } in
    let setting = the_setting c.args.setting.now in
    let file = c.args.file.now in
    let line = c.in-Err-Malformed.line in
    let told = rw c.in-Err-Malformed.field-0-is at c.in-Err-Malformed.ensures.fault in
    broken_again laws (g.S.Shelf.files c.args.shelf.now) (input_file file.role file.name.now file.most) setting (node_of c.args.root.now) c.args.head.now told.0 line c.requires.most c.requires.read told.1 told.2

pub returns-in-Err-Fault-clause-gives : goal.returns-in-Err-Fault-clause-gives
returns-in-Err-Fault-clause-gives g c =
    let laws : Laws = record { fit = c.written_certificates_fit.ensures; keep = c.heads_keep_limits.ensures; told = c.answers_are_alike.ensures.told; bound = c.shown_bounds.ensures.proof } in
    let setting = the_setting c.args.setting.now in
    let root = node_of c.args.root.now in
    let head = c.args.head.now in
    let file = c.args.file.now in
    let fault = c.in-Err-Fault.fault in
    let told = rw c.in-Err-Fault.field-0-is at c.in-Err-Fault.ensures.fault in
    let own : c.config_with-config.result ≡ config_with head.config = rw c.as_slice.ensures at c.config_with-config.ensures in
    let obeys : nodes.IsBelow root (config_with head.config) = subst (nodes.IsBelow root) own (rw c.in_default.is at c.broken.ensures) in
    faulty_again laws (g.S.Shelf.files c.args.shelf.now) (input_file file.role file.name.now file.most) setting root head told.0 fault c.requires.most c.requires.read obeys told.1 told.2.0 told.2.1
