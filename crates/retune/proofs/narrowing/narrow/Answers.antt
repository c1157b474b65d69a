use Rattle.std.proofs.Common.{List, sym, subst}
use Rattle.adv_base.specs.declared.catalogue.index.IndexShape.{IndexShape}
use Rattle.adv_base.specs.Limits.Settings.{SettingLimits}
use Rattle.retune.proofs.Found.{found-limits, proposed-keys}
use Rattle.retune.proofs.narrowing.narrow.Goals as goal

pub candidates-requires : goal.candidates-requires
candidates-requires c = record { limits = proposed-keys c.args.cat.now c.args.statements.now c.in_ok-proposed.proposed c.requires.limits c.in_ok-proposed.ensures }

pub invariant_of-setting : goal.invariant_of-setting
invariant_of-setting c =
    let cat = c.args.cat.now in
    let statements = c.args.statements.now in
    record {
      limits =
          subst (λ (shapes : List IndexShape). SettingLimits cat statements shapes) (sym c.as_slice.ensures)
          (found-limits cat statements c.in_ok-proposed.proposed c.in_ok-found.found.list c.requires.limits c.in_ok-proposed.ensures c.in_ok-found.ensures.list);
    }
