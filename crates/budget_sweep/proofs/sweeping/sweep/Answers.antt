use Rattle.std.proofs.Common.{◌≡◌, ◌∙◌, length, map, drop, sym, ap, subst}
use Rattle.std.proofs.lemmas.List.{length-map, take_at}
use Rattle.budget_sweep.specs.Curves.{IsCurveForEach}
use Rattle.budget_sweep.specs.inner.Passes.{bare}
use Rattle.budget_sweep.proofs.Passing.{points-curve}
use Rattle.budget_sweep.proofs.sweeping.sweep.Goals as goal

pub returns : goal.returns
returns c =
    let points = c.in_ok-points.points in
    let before = c.as_mut_slice.result.now in
    let after = c.put_lows.new.points in
    let long : length after ≡ points.len = sym (length-map after bare) ∙ ap length c.put_lows.ensures.bare ∙ length-map before bare ∙ c.as_mut_slice.ensures.len in
    let same : map bare after ≡ map bare points.items = c.put_lows.ensures.bare ∙ ap (map bare) c.as_mut_slice.ensures.value in
    subst (IsCurveForEach c.args.programme.now c.args.shapes.now c.args.first c.args.step c.args.count c.args.nodes) (sym (take_at after (drop (length after) points.items) points.len long))
    (points-curve c.args.programme.now c.args.shapes.now c.args.first c.args.step c.args.count c.args.nodes points.items after c.in_ok-points.ensures.count c.in_ok-points.ensures.answered
    c.in_ok-points.ensures.least same c.put_lows.ensures.greatest)
