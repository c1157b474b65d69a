use Rattle.std.proofs.Common.{◌≡◌, ◌∙◌, ℕ, ◌+◌, ◌-◌, ◌*◌, length, get_or, ap, arith}
use Rattle.adv_base.specs.declared.limits.TheConstants.{MOST_INDEXES, MOST_UPKEEP}
use Rattle.adv_base.specs.declared.workload.Work.{Work}
use Rattle.adv_base.specs.Settings.{TheSetting, the_setting}
use Rattle.adv_base.specs.Upkeep.{kept_upkeep}
use Rattle.adv_base.proofs.UpkeepBounds.{kept_upkeep-most}
use Rattle.bip_model.specs.StandsFor.{IsPart}
use Rattle.bip_model.proofs.Lists.{each-length}
use Rattle.programme_parts.specs.Kept.{HasKept}
use Rattle.retune.specs.inner.Weights.{IsPartBy, with_statements}
use Rattle.retune.proofs.PartWeights.{each-by, kept-by, part-by, parts-rise, within-by}
use Rattle.retune.proofs.Reweighed.{by-weight}
use Rattle.retune.proofs.UpkeepWeights.{moved, moved-is, moved-most, weighted}
use Rattle.retune.proofs.weights.reweigh_programme.Goals as goal

pub reweigh_part-requires-clause-rise : goal.reweigh_part-requires-clause-rise
reweigh_part-requires-clause-rise c = parts-rise (the_setting c.args.setting.now) 1 c.args.setting.now.statements.now c.args.programme.now.parts c.requires.stands.parts_are

pub invariant_of-programme : goal.invariant_of-programme
invariant_of-programme c =
    let setting = c.args.setting.now in
    let xs = setting.statements.now in
    let d = c.index-setting-at.result in
    let old = get_or xs c.args.at d in
    let each : Work → ℕ = kept_upkeep setting.cat.now in
    let value : c.with_weight-programme.result ≡ moved each xs old c.args.weight =
    c.with_weight-programme.ensures ∙ ap (λ (n : ℕ). n - old.weight * c.kept_upkeep-each.result + c.args.weight * c.kept_upkeep-each.result) c.requires.stands.kept_is
    ∙ ap (λ (n : ℕ). weighted each xs - old.weight * n + c.args.weight * n) c.kept_upkeep-each.ensures.exact in
    let limits = c.args.programme.now.limits in
    let number : ℕ = c.args.at + 1 in
    let parts = c.args.programme.now.parts in
    let news = c.reweigh_part.new.parts in
    let most = moved-most each (MOST_INDEXES * MOST_UPKEEP) xs c.args.at c.args.weight d (λ s. kept_upkeep-most setting.cat.now s.weight s.work s.limits) c.requires.within setting.limits.statements_most c.requires.most in
    record {
      limits =
          record {
            sizes_most = limits.sizes_most;
            pages_most = limits.pages_most;
            upkeep_each = c.reweigh_upkeep.ensures.count ∙ limits.upkeep_each;
            upkeep_most = c.reweigh_upkeep.ensures.most;
            kept_most = omega (arith, value, most);
            parts_most = omega (arith, limits.parts_most, each-length (IsPartBy number c.args.weight) parts news c.reweigh_part.ensures);
            candidates = within-by number c.args.weight (length c.args.programme.now.sizes) parts news c.reweigh_part.ensures limits.candidates;
          };
    }

pub returns-clause-stands : goal.returns-clause-stands
returns-clause-stands c = λ after h.
    let setting = c.args.setting.now in
    let xs = setting.statements.now in
    let d = c.index-setting-at.result in
    let old = get_or xs c.args.at d in
    let each : Work → ℕ = kept_upkeep setting.cat.now in
    let value : c.with_weight-programme.result ≡ moved each xs old c.args.weight =
    c.with_weight-programme.ensures ∙ ap (λ (n : ℕ). n - old.weight * c.kept_upkeep-each.result + c.args.weight * c.kept_upkeep-each.result) c.requires.stands.kept_is
    ∙ ap (λ (n : ℕ). weighted each xs - old.weight * n + c.args.weight * n) c.kept_upkeep-each.ensures.exact in
    let s : TheSetting = the_setting setting in
    let number : ℕ = c.args.at + 1 in
    record {
      sizes_are = c.requires.stands.sizes_are;
      upkeep_is = c.reweigh_upkeep.ensures.after after h;
      kept_is = value ∙ moved-is each xs after c.args.at c.args.weight d h;
      parts_are =
          each-by (IsPart s) (IsPart (with_statements s after)) number c.args.weight (λ b w old new is by heavy. part-by s after number c.args.weight b w old new is by heavy) 1
          xs after c.args.programme.now.parts c.reweigh_part.new.parts (by-weight xs after number c.args.weight (omega arith) h) c.requires.stands.parts_are c.reweigh_part.ensures;
    }

pub returns-clause-kept : goal.returns-clause-kept
returns-clause-kept c = λ after h.
    let setting = c.args.setting.now in
    let number : ℕ = c.args.at + 1 in
    each-by (HasKept setting.cat.now) (HasKept setting.cat.now) number c.args.weight (λ b w old new has by heavy. kept-by setting.cat.now number c.args.weight b w old new has by) 1
    setting.statements.now after c.args.programme.now.parts c.reweigh_part.new.parts (by-weight setting.statements.now after number c.args.weight (omega arith) h) c.requires.kept c.reweigh_part.ensures
