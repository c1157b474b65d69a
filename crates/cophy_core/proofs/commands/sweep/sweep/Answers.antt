use Rattle.std.proofs.Common.{◌≡◌, ◌-◌, ◌≤◌, refl, arith}
use Rattle.std.specs.Prelude.{Some, slice_get}
use Rattle.std.proofs.Math.Nat.{mul-le-mul_left}
use Rattle.std.proofs.lemmas.Option.{slice_get_within}
use Rattle.adv_base.specs.Settings.{the_setting}
use Rattle.adv_base.specs.declared.limits.TheConstants.{MOST_PAGES}
use Rattle.bip_model.specs.Best.{sets_in}
use Rattle.bip_model.specs.Proves.{free_node}
use Rattle.bip_model.specs.Trees.{ByFit}
use Rattle.cophy_core.proofs.Advising.{total_small}
use Rattle.cophy_core.proofs.commands.sweep.sweep.Goals as goal

pub certified-requires-clause-few : goal.certified-requires-clause-few
certified-requires-clause-few c =
    let curve = c.in_ok-points.ensures (the_setting c.args.setting.now) c.args.setting.now.limits c.in_ok-programme.ensures.stands refl in
    rw c.as_slice-curve.ensures (omega (arith, curve.counted, c.requires.most))

pub certified-requires-clause-limits : goal.certified-requires-clause-limits
certified-requires-clause-limits c = λ i point found.
    let setting = the_setting c.args.setting.now in
    let points = c.in_ok-points.points in
    let limits = c.args.setting.now.limits in
    let stands = c.in_ok-programme.ensures.stands in
    let curve = c.in_ok-points.ensures setting limits stands refl in
    let here : slice_get points i ≡ Some point = rw c.as_slice-curve.ensures at found in
    let own = curve.each i point here in
    let within = slice_get_within points i point here in
    let few : i ≤ c.args.count - 1 = omega (arith, within, curve.counted) in
    let steps = mul-le-mul_left c.args.step few in
    let most : point.budget ≤ MOST_PAGES = omega (arith, own.budget_is, steps, c.requires.last) in
    c.best_answers_keep_limits.ensures setting c.in_ok-programme.programme point.budget c.args.nodes free_node point.answer limits stands most c.requires.nodes own.answer_is

pub certified-requires-clause-order : goal.certified-requires-clause-order
certified-requires-clause-order c =
    c.standing_programmes_are_in_order.ensures (the_setting c.args.setting.now) c.in_ok-programme.programme c.in_ok-programme.ensures.stands

pub returns-clause-gives : goal.returns-clause-gives
returns-clause-gives c =
    let setting = the_setting c.args.setting.now in
    let limits = c.args.setting.now.limits in
    let curve = c.in_ok-points.ensures setting limits c.in_ok-programme.ensures.stands refl in
    let points = c.in_ok-points.points in
    record {
      few = c.in_ok-programme.ensures.few;
      curve_is = curve;
      each = λ i point found.
          let answer = point.answer in
          let best = (curve.each i point found).answer_is in
          record {
            flags = c.have_all_flags.ensures i point (rw c.as_slice-curve.ensures found);
            bounds = c.shown_bounds.ensures.free ByFit setting point.budget answer.config answer.cost answer.bound (sets_in setting answer) answer.tree limits best.proves;
            bounded = c.curves_bound.ensures.bound setting c.args.first c.args.step c.args.count c.args.nodes points i point limits curve found;
            gap_own = c.curves_bound.ensures.gap setting c.args.first c.args.step c.args.count c.args.nodes points i point curve found;
          };
    }

pub returns-clause-puts : goal.returns-clause-puts
returns-clause-puts c = rw c.as_slice-curve.ensures at c.in_ok-puts.ensures

pub returns-clause-bound : goal.returns-clause-bound
returns-clause-bound c = λ i point found.
    let setting = the_setting c.args.setting.now in
    let limits = c.args.setting.now.limits in
    let best = ((c.in_ok-points.ensures setting limits c.in_ok-programme.ensures.stands refl).each i point found).answer_is in
    total_small setting point.answer.config point.answer.cost limits best.proves.cost_is
