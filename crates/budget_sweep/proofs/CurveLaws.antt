-- What curves tell.
use Rattle.std.proofs.Common.{◌≡◌, ◌∙◌, ℕ, ◌+◌, ◌*◌, ◌≤◌, List, ap, subst, arith}
use Rattle.std.specs.Prelude.{Some, slice_get, ◌≤ℤ◌}
use Rattle.std.proofs.lemmas.Int.{ints}
use Rattle.std.proofs.lemmas.Nat.{mul-le}
use Rattle.adv_base.specs.declared.setting.Config.{Config}
use Rattle.adv_base.specs.Configs.{IsConfigOf, Fits}
use Rattle.adv_base.specs.Settings.{TheSetting, KeepsLimits}
use Rattle.plan_model.specs.Lagrangian.{IsAtMost}
use Rattle.plan_model.specs.Totals.{IsTotal}
use Rattle.bip_model.specs.declared.answer.Answer.{Answer}
use Rattle.bip_model.specs.declared.point.Point.{Point}
use Rattle.bip_model.specs.Best.{sets_in}
use Rattle.bip_model.specs.Proves.{free_node}
use Rattle.bip_model.specs.Trees.{ByFit}
use Rattle.bip_model.proofs.Showing.{proved-bound, below-free}
use Rattle.budget_sweep.specs.Curves.{IsCurve}
use Rattle.budget_sweep.specs.Laws.{FitsLarger, IsReached, PointsBound, CurvesFall, GapsAreOwn}
use Rattle.budget_sweep.proofs.Points.{answer-of, point-of}

pub fits-larger : FitsLarger
fits-larger cat shapes config smaller larger more fits = record { pages = omega (arith, more, fits.pages); apart = fits.apart }

-- budgets rise
rising : (first step i k : ℕ) → i ≤ k → first + step * i ≤ first + step * k
rising first step i k before = let more = mul-le step i step k (omega arith) before in omega (arith, more)

rising-points : (setting : TheSetting) (first step count nodes : ℕ) (points : List Point) (i k : ℕ) (smaller larger : Point) →
    IsCurve setting first step count nodes points → i ≤ k → slice_get points i ≡ Some smaller → slice_get points k ≡ Some larger →
    smaller.budget ≤ larger.budget
rising-points setting first step count nodes points i k smaller larger curve before found there =
    let more = rising first step i k before in
    let one = (curve.each i smaller found).budget_is in
    let other = (curve.each k larger there).budget_is in
    omega (arith, more, one, other)

pub point-reached : (setting : TheSetting) (first step count nodes : ℕ) (points : List Point) (i : ℕ) (point : Point) →
    IsCurve setting first step count nodes points → slice_get points i ≡ Some point → IsReached setting point.budget point.best
point-reached setting first step count nodes points i point curve found =
    let least = (curve.each i point found).best_is in
    let early = point-of points least.number least.answer least.found in
    let proves = (curve.each least.number early.point early.found).answer_is.proves in
    let more = rising-points setting first step count nodes points least.number i early.point point curve least.early early.found found in
    record {
      config = early.point.answer.config;
      members = proves.members;
      fits = fits-larger setting.cat setting.shapes early.point.answer.config early.point.budget point.budget more proves.fits;
      cost_is =
          subst (IsTotal setting.cat setting.shapes early.point.answer.config setting.statements)
          (ap (λ (answer : Answer). answer.cost) early.answer_is ∙ least.cost_is) proves.cost_is;
    }

pub point-low : (setting : TheSetting) (first step count nodes : ℕ) (points : List Point) (i : ℕ) (point : Point) → KeepsLimits setting →
    IsCurve setting first step count nodes points → slice_get points i ≡ Some point →
    (other : Config) (total : ℕ) → IsConfigOf setting.shapes other → Fits setting.cat setting.shapes other point.budget →
    IsTotal setting.cat setting.shapes other setting.statements total → IsAtMost point.low total
point-low setting first step count nodes points i point limits curve found other total is fits total_is =
    let greatest = (curve.each i point found).low_is in
    let late = point-of points greatest.number greatest.answer greatest.found in
    let answer = late.point.answer in
    let proves = (curve.each greatest.number late.point late.found).answer_is.proves in
    let more = rising-points setting first step count nodes points i greatest.number point late.point curve greatest.late found late.found in
    let within = fits-larger setting.cat setting.shapes other point.budget late.point.budget more fits in
    subst (λ bound. IsAtMost bound total) (ap (λ (a : Answer). a.bound) late.answer_is ∙ greatest.bound_is)
    (proved-bound ByFit setting late.point.budget free_node answer.config answer.cost answer.bound (sets_in setting answer) answer.tree other total limits proves is within (below-free other) total_is)

pub points-bound : PointsBound
points-bound setting first step count nodes points i point limits curve found =
    let reached = point-reached setting first step count nodes points i point curve found in
    record {
      reached = reached;
      bounded =
          record {
            all = point-low setting first step count nodes points i point limits curve found;
            own = point-low setting first step count nodes points i point limits curve found reached.config point.best reached.members reached.fits reached.cost_is;
          };
    }

pub curves-fall : CurvesFall
curves-fall setting first step count nodes points i k smaller larger curve before found there =
    let one = curve.each i smaller found in
    let other = curve.each k larger there in
    let early : one.best_is.number ≤ k = omega (arith, one.best_is.early, before) in
    let late : i ≤ other.low_is.number = omega (arith, other.low_is.late, before) in
    record {
      budget = rising-points setting first step count nodes points i k smaller larger curve before found there;
      best =
          let least = other.best_is.least one.best_is.number one.best_is.answer early one.best_is.found in
          omega (arith, least, one.best_is.cost_is);
      low =
          let greatest = one.low_is.greatest other.low_is.number other.low_is.answer late other.low_is.found in
          subst (λ bound. bound ≤ℤ smaller.low) other.low_is.bound_is greatest;
    }

pub gaps-own : GapsAreOwn
gaps-own setting first step count nodes points i point curve found gap =
    let own = curve.each i point found in
    let there = answer-of points i point found in
    let cost : point.best ≤ point.answer.cost = own.best_is.least i point.answer (omega arith) there in
    let bound : point.answer.bound ≤ℤ point.low = own.low_is.greatest i point.answer (omega arith) there in
    omega (arith, ints, gap, cost, bound)
