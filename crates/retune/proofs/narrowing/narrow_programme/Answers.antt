use Rattle.std.proofs.Common.{ℕ, refl}
use Rattle.std.specs.Prelude.{slice_index_or}
use Rattle.adv_base.specs.Settings.{TheSetting, the_setting}
use Rattle.retune.specs.inner.Renewing.{setting_with, with_one}
use Rattle.retune.proofs.Narrowed.{new-parts, renewed-each, whole-limits, whole-programme}
use Rattle.retune.proofs.PartWeights.{parts-rise}
use Rattle.retune.proofs.narrowing.narrow_programme.Goals as goal

pub replace_parts-requires-clause-rise : goal.replace_parts-requires-clause-rise
replace_parts-requires-clause-rise c =
    let s : TheSetting = the_setting c.args.setting.now in
    let removed = c.args.removed in
    parts-rise (setting_with s removed.at removed.statement.now c.args.old.now) 1 (with_one s.statements removed.at removed.statement.now) c.args.programme.now.parts c.requires.before.stands.parts_are

pub replace_parts-requires-clause-few : goal.replace_parts-requires-clause-few
replace_parts-requires-clause-few c =
    let removed = c.args.removed in
    renewed-each (the_setting c.args.setting.now) removed.at removed.statement.now c.args.old.now c.args.programme.now c.new-numbers.result.changed c.in_ok-renewed.renewed.items c.requires.within
    c.requires.before c.in_ok-renewed.ensures

pub invariant_of-programme : goal.invariant_of-programme
invariant_of-programme c =
    let s : TheSetting = the_setting c.args.setting.now in
    let removed = c.args.removed in
    let numbers = c.new-numbers.result in
    record {
      limits =
          whole-limits s c.in_ok-figures.figures c.replace_parts.new.parts c.args.setting.now.limits c.in_ok-figures.ensures
          (new-parts s removed.at removed.statement.now c.args.old.now c.args.programme.now numbers.changed (λ (n : ℕ). slice_index_or numbers.of n 0) c.in_ok-renewed.renewed.items c.replace_parts.new.parts
          c.requires.within c.requires.before c.new-numbers.ensures c.in_ok-renewed.ensures c.replace_parts.ensures);
    }

pub returns-clause-after : goal.returns-clause-after
returns-clause-after c =
    let s : TheSetting = the_setting c.args.setting.now in
    let removed = c.args.removed in
    let numbers = c.new-numbers.result in
    whole-programme s c.in_ok-figures.figures _ c.in_ok-figures.ensures
    (new-parts s removed.at removed.statement.now c.args.old.now c.args.programme.now numbers.changed (λ (n : ℕ). slice_index_or numbers.of n 0) c.in_ok-renewed.renewed.items c.replace_parts.new.parts
    c.requires.within c.requires.before c.new-numbers.ensures c.in_ok-renewed.ensures c.replace_parts.ensures)
    refl refl refl
