use Rattle.std.proofs.Common.{ℕ, subst}
use Rattle.adv_base.specs.declared.setting.Config.{Config}
use Rattle.plan_model.specs.Totals as totals
use Rattle.gap_checker.specs.Views as views
use Rattle.gap_checker.specs.inner.Judges.{setting_of, cert_of}
use Rattle.gap_checker.proofs.Excluding.{sets-rise}
use Rattle.gap_checker.proofs.Naming.{all-named}
use Rattle.gap_checker.proofs.judge.Judge.judge_claims.Goals as goal

pub returns-clause-sound : goal.returns-clause-sound
returns-clause-sound c = λ tree.
    let judge = c.args.self.now in
    let setting = judge.setting.now in
    record {
      members = c.in_ok-config.ensures.members;
      fits = c.in_ok-config.ensures.fits;
      cost_is =
          subst (λ (n : ℕ). totals.IsTotal setting.cat.now setting.shapes.now (views.config_with judge.claims.config.now) setting.statements.now n) c.if-total-self.false
          (subst (λ (x : Config). totals.IsTotal setting.cat.now setting.shapes.now x setting.statements.now c.in_ok-total.total) c.in_ok-config.ensures.config c.in_ok-total.ensures.total);
      rents = all-named (setting_of judge) (cert_of judge tree) (sets-rise judge.claims.sets.now c.requires.judge.limits.each) c.in_ok-judge_pairs.ensures.right;
    }
