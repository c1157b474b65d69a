use Rattle.std.proofs.Common.{◌≡◌, ◌<◌, length, refl, arith}
use Rattle.std.proofs.lemmas.Bool.Decides.{nat_tests}
use Rattle.std.proofs.lemmas.Result.{err_from_is_err_and}
use Rattle.adv_base.specs.Settings.{the_setting}
use Rattle.dba_rules.specs.Rules.{root_of}
use Rattle.dba_rules.proofs.Past.{root_past}
use Rattle.dba_rules.proofs.Texts.{text_goes, text_fails, text_breaks, text_ends, shorter}
use Rattle.dba_rules.proofs.rules.read_rules.Goals as goal

pub lines-init : goal.lines-init
unfolding root_of
lines-init c = record { text = refl; count = omega arith }

pub lines-preserved : goal.lines-preserved
lines-preserved c =
    let setting = the_setting c.args.setting.now in
    let rest = c.lines.rest.now in
    let begins = c.in-Some.ensures in
    let less = shorter rest c.in-Some.read.0.now c.in-Some.read.1.now begins in
    record {
      text = text_goes setting c.lines.number c.lines.root c.in_ok-next.next rest c.in-Some.read.0.now c.in-Some.read.1.now (root_of setting c.args.bytes.now) begins c.in_ok-next.ensures c.lines.invariant.text;
      count = omega (arith, less, c.lines.invariant.count);
    }

pub returns-in-None-clause-exact : goal.returns-in-None-clause-exact
returns-in-None-clause-exact c =
    let setting = the_setting c.args.setting.now in
    let some : 0 < length c.lines.rest.now = grind (arith, nat_tests) in
    λ real. text_breaks setting c.lines.number c.lines.root c.lines.rest.now (root_of setting c.args.bytes.now) some c.in-None.ensures c.lines.invariant.text

pub returns-in_err-next-clause-exact : goal.returns-in_err-next-clause-exact
returns-in_err-next-clause-exact c =
    let setting = the_setting c.args.setting.now in
    let p = err_from_is_err_and c.from_residual.result c.from_residual.ensures.1 in
    rw (p.1, p.2)
    (text_fails setting c.lines.number c.lines.root c.lines.rest.now c.in-Some.read.0.now c.in-Some.read.1.now (root_of setting c.args.bytes.now) c.in_err-next.field-0.0 c.in-Some.ensures
    c.in_err-next.ensures c.lines.invariant.text)

pub returns-clause-past : goal.returns-clause-past
returns-clause-past c =
    let setting = the_setting c.args.setting.now in
    let none : length c.lines.rest.now ≡ 0 = grind (arith, nat_tests) in
    root_past setting c.args.bytes.now c.lines.root (text_ends setting c.lines.number c.lines.root c.lines.rest.now (root_of setting c.args.bytes.now) none c.lines.invariant.text)
