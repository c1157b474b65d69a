use Rattle.std.proofs.Common.{◌+◌, List, subst}
use Rattle.adv_base.specs.declared.catalogue.index.IndexShape.{IndexShape}
use Rattle.bip_model.specs.StandsFor.{StandsFor}
use Rattle.retune.proofs.Reweighed.{alike, alike-candidates, alike-limits}
use Rattle.retune.proofs.weights.reweigh.Goals as goal

pub returns : goal.returns
returns c = λ after h.
    let cat = c.args.cat.now in
    let xs = c.args.statements.now in
    let found = c.args.candidates.now in
    let tuned = c.requires.tuned in
    let same = alike xs after (c.args.at + 1) c.args.weight h in
    record {
      limits = alike-limits cat xs after found.list same tuned.limits;
      candidates = alike-candidates cat xs after found.list found.left_over same tuned.candidates;
      stands =
          subst (λ (shapes : List IndexShape). StandsFor (record { cat = cat; statements = after; shapes = shapes }) c.reweigh_programme.new.programme) c.as_slice.ensures
          (c.reweigh_programme.ensures.stands after h);
      kept = c.reweigh_programme.ensures.kept after h;
    }
