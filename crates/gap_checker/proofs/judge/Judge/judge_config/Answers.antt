use Rattle.std.proofs.Common.{◌∙◌, refl, ap, subst, arith}
use Rattle.adv_base.specs.declared.setting.Config.{Config}
use Rattle.adv_base.specs.Configs.{config_pages, IsApart, IsFirstClash}
use Rattle.gap_checker.specs.inner.Judges.{setting_of, cert_of}
use Rattle.gap_checker.proofs.Numbers.{config-members, past-bad}
use Rattle.gap_checker.proofs.Valuing.{pages-here}
use Rattle.gap_checker.proofs.judge.Judge.judge_config.Goals as goal

pub returns-in-Some-clause-fault : goal.returns-in-Some-clause-fault
returns-in-Some-clause-fault c = λ tree.
    let judge = c.args.self.now in
    past-bad (setting_of judge) (cert_of judge tree) judge.claims.config.now c.in-Some.number refl (c.in-Some.ensures.found c.in-Some.number refl)

pub returns-then-size-self-clause-fault : goal.returns-then-size-self-clause-fault
returns-then-size-self-clause-fault c = λ tree.
    let judge = c.args.self.now in
    let setting = judge.setting.now in
    record {
      members = config-members setting.shapes.now judge.claims.config.now c.requires.limits.config_rises (c.first_past.ensures.none c.in_default.is);
      size_is = pages-here judge c.config_with-config.result c.pages-size.result c.pages-size.ensures.exact ∙ ap (config_pages setting.cat.now setting.shapes.now) c.config_with-config.ensures;
      budget_is = refl;
      over = c.if-size-self.true;
    }

pub returns-clause-members : goal.returns-clause-members
returns-clause-members c =
    let judge = c.args.self.now in
    config-members judge.setting.now.shapes.now judge.claims.config.now c.requires.limits.config_rises (c.first_past.ensures.none c.in_default.is)

pub returns-in-Some-first_clash-clause-fault : goal.returns-in-Some-first_clash-clause-fault
returns-in-Some-first_clash-clause-fault c = λ tree.
    let judge = c.args.self.now in
    let setting = judge.setting.now in
    let size = pages-here judge c.config_with-config.result c.pages-size.result c.pages-size.ensures.exact ∙ ap (config_pages setting.cat.now setting.shapes.now) c.config_with-config.ensures in
    record {
      members = config-members setting.shapes.now judge.claims.config.now c.requires.limits.config_rises (c.first_past.ensures.none c.in_default.is);
      pages = omega (arith, size, c.if-size-self.false);
      clash = subst (λ (config : Config). IsFirstClash setting.shapes.now config c.in-Some-first_clash.first c.in-Some-first_clash.second) c.config_with-config.ensures c.in-Some-first_clash.ensures;
    }

pub returns-clause-fits : goal.returns-clause-fits
returns-clause-fits c =
    let judge = c.args.self.now in
    let setting = judge.setting.now in
    let size = pages-here judge c.config_with-config.result c.pages-size.result c.pages-size.ensures.exact ∙ ap (config_pages setting.cat.now setting.shapes.now) c.config_with-config.ensures in
    record {
      pages = omega (arith, size, c.if-size-self.false);
      apart = subst (λ (config : Config). IsApart setting.shapes.now config) c.config_with-config.ensures c.in_default-first_clash.ensures;
    }
