use Rattle.std.proofs.Common.{List, sym, subst}
use Rattle.adv_base.specs.declared.catalogue.index.IndexShape.{IndexShape}
use Rattle.adv_base.specs.Limits.Settings.{SettingLimits}
use Rattle.bip_model.specs.StandsFor.{StandsFor}
use Rattle.retune.proofs.Found.{found-candidates, found-limits, proposed-keys}
use Rattle.retune.proofs.programme.made.Goals as goal

pub candidates-requires : goal.candidates-requires
candidates-requires c = record { limits = proposed-keys c.args.cat.now c.args.statements.now c.args.proposed.now c.requires.limits c.requires.proposed }

pub programme_of-requires-clause-limits : goal.programme_of-requires-clause-limits
programme_of-requires-clause-limits c =
    let cat = c.args.cat.now in
    let statements = c.args.statements.now in
    let found = c.in_ok-found.found in
    subst (λ (shapes : List IndexShape). SettingLimits cat statements shapes) (sym c.as_slice.ensures)
    (found-limits cat statements c.args.proposed.now found.list c.requires.limits c.requires.proposed c.in_ok-found.ensures.list)

pub returns : goal.returns
returns c =
    let cat = c.args.cat.now in
    let statements = c.args.statements.now in
    let proposed = c.args.proposed.now in
    let found = c.in_ok-found.found in
    let own = c.in_ok-found.ensures in
    record {
      limits = found-limits cat statements proposed found.list c.requires.limits c.requires.proposed own.list;
      candidates = found-candidates cat statements proposed found.list found.left_over c.requires.proposed own.list own.left_over own.not_unique;
      stands =
          subst (λ (shapes : List IndexShape). StandsFor (record { cat = cat; statements = statements; shapes = shapes }) c.in_ok-programme.programme) c.as_slice.ensures
          c.in_ok-programme.ensures.stands;
      kept = c.in_ok-programme.ensures.kept;
    }
