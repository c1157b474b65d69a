-- Sums and values, as the checker works them out.
use Rattle.std.proofs.Common.{◌≡◌, ◌∙◌, ℕ, ◌+◌, ◌-◌, ◌*◌, ◌<◌, ◌≤◌, ℤ, Bool, true, false, List, length, get_or, take, refl, ap, subst, arith}
use Rattle.std.specs.Prelude.{if◌then◌else◌, ◌||◌, Some, slice_get}
use Rattle.std.proofs.lemmas.Option.{get_or_from_slice_get}
use Rattle.adv_base.specs.declared.catalogue.index.IndexShape.{IndexShape}
use Rattle.adv_base.specs.declared.limits.TheConstants.{MOST_CANDIDATES}
use Rattle.adv_base.specs.declared.setting.Config.{Config}
use Rattle.adv_base.specs.Configs.{has_candidate, Space, pages_in, config_pages}
use Rattle.adv_base.specs.Nodes.{Node, is_open, is_available, available, available_in}
use Rattle.adv_base.specs.Settings.{TheSetting}
use Rattle.adv_base.specs.Sizes.{shape_pages}
use Rattle.adv_base.specs.Upkeep.{weighted_upkeep, weighted_kept}
use Rattle.adv_base.proofs.ConfigLaws.{config_of-has}
use Rattle.bip_model.specs.declared.fix.Fix.{Fix}
use Rattle.bip_model.specs.Views.{node_of, the_space}
use Rattle.plan_model.specs.Lagrangian.{TheMultipliers, AreRentedPlans, weighted_rents, candidate_cost, candidate_rents, costs_inside, earnings, IsRoundedUp, IsLagrangian}
use Rattle.plan_model.specs.Totals.{weighted_sum}
use Rattle.gap_checker.specs.declared.judge.Judge.{Judge}
use Rattle.gap_checker.specs.declared.multipliers.Multipliers.{Multipliers}
use Rattle.gap_checker.specs.inner.Earnings.{AreEarned, rent_of}
use Rattle.gap_checker.specs.inner.Judges.{setting_of}
use Rattle.gap_checker.specs.inner.Sums.{the_multipliers, IsRentedSum, cost_at, rents_at}
use Rattle.gap_checker.proofs.Adding.{cost_of, earning_of, costs_inside-more, earnings-more, earned-at}
use Rattle.gap_checker.proofs.Lists.{some-at, take-at, length-front, map-at}

-- ## The space

-- what a space tells is what the catalogue tells
pub pages-here : (judge : Judge) (config : Config) (pages : ℕ) → pages ≡ pages_in judge.space.sizes.now config → pages ≡ config_pages judge.setting.now.cat.now judge.setting.now.shapes.now config
pages-here judge config pages is = is ∙ ap (λ (space : Space). pages_in space.sizes config) judge.space_is

pub available-here : (judge : Judge) (at : Fix) (config : Config) → config ≡ available_in (the_space judge.space) (node_of at) →
    config ≡ available judge.setting.now.cat.now judge.setting.now.shapes.now judge.claims.budget (node_of at)
available-here judge at config is = is ∙ ap (λ (space : Space). available_in space (node_of at)) judge.space_is

-- ## Candidates

pub cost-at : (judge : Judge) (multipliers : TheMultipliers) (a : ℕ) (shape : IndexShape) → slice_get judge.setting.now.shapes.now a ≡ Some shape →
    cost_at judge.figures.now multipliers.page a ≡ candidate_cost (setting_of judge) multipliers shape
cost-at judge multipliers a shape there =
    let shapes = judge.setting.now.shapes.now in
    let upkeep : get_or judge.figures.now.upkeep a 0 ≡ weighted_upkeep (setting_of judge) shape =
    ap (λ (list : List ℕ). get_or list a 0) judge.figures_are.upkeep_is ∙ map-at (weighted_upkeep (setting_of judge)) shapes a shape there in
    let size : get_or judge.figures.now.sizes a 0 ≡ shape_pages judge.setting.now.cat.now shape =
    ap (λ (list : List ℕ). get_or list a 0) judge.figures_are.sizes_are ∙ map-at (shape_pages judge.setting.now.cat.now) shapes a shape there in
    ap (λ (n : ℕ). 65536 * n + multipliers.page * get_or judge.figures.now.sizes a 0) upkeep ∙ ap (λ (n : ℕ). 65536 * weighted_upkeep (setting_of judge) shape + multipliers.page * n) size

pub rents-at : (setting : TheSetting) (set : Multipliers) (a : ℕ) (shape : IndexShape) → AreEarned setting set → slice_get setting.shapes a ≡ Some shape → a < length setting.shapes → get_or setting.shapes a shape ≡ shape →
    rents_at set a ≡ candidate_rents setting (the_multipliers set.rents) (a + 1) shape
rents-at setting set a shape are there within is =
    let next : 1 + a ≡ a + 1 = omega arith in
    let earned : get_or set.earned.items a 0 ≡ weighted_rents (λ q s. rent_of set.rents q s (a + 1)) shape.table 1 setting.statements =
    ap (λ (list : List ℕ). get_or list a 0) are.earned_are ∙ earned-at (rent_of set.rents) setting.statements 1 setting.shapes a shape within
    ∙ ap (λ (x : IndexShape). weighted_rents (λ q s. rent_of set.rents q s (1 + a)) x.table 1 setting.statements) is
    ∙ ap (λ (n : ℕ). weighted_rents (λ q s. rent_of set.rents q s n) shape.table 1 setting.statements) next in
    ap (λ (n : ℕ). 65536 * n) earned

if-same : (b : Bool) (x y : ℕ) → x ≡ y → (if b then x else 0) ≡ (if b then y else 0)
if-same b x y same = ap (λ (n : ℕ). if b then n else 0) same

pub inside-step : (judge : Judge) (multipliers : TheMultipliers) (node : Node) (a total own : ℕ) → a < length judge.setting.now.shapes.now →
    total ≡ costs_inside (setting_of judge) multipliers node 1 (take a judge.setting.now.shapes.now) →
    own ≡ (if has_candidate node.inside (a + 1) then cost_at judge.figures.now multipliers.page a else 0) →
    total + own ≡ costs_inside (setting_of judge) multipliers node 1 (take (a + 1) judge.setting.now.shapes.now)
inside-step judge multipliers node a total own within before is =
    let shapes = judge.setting.now.shapes.now in
    let item = some-at shapes a within in
    let place : 1 + length (take a shapes) ≡ a + 1 = omega (arith, length-front shapes a (omega (arith, within))) in
    let cost = if-same (has_candidate node.inside (a + 1)) (cost_at judge.figures.now multipliers.page a) (candidate_cost (setting_of judge) multipliers item.item) (cost-at judge multipliers a item.item item.found) in
    let moved : cost_of (setting_of judge) multipliers node (1 + length (take a shapes)) item.item ≡ cost_of (setting_of judge) multipliers node (a + 1) item.item = ap (λ (n : ℕ). cost_of (setting_of judge) multipliers node n item.item) place in
    let more = costs_inside-more (setting_of judge) multipliers node 1 (take a shapes) item.item in
    let front = ap (costs_inside (setting_of judge) multipliers node 1) (take-at shapes a item.item item.found) in
    omega (arith, before, is, cost, moved, more, front)

pick-same : (b o v : Bool) (r c : ℕ) → v ≡ (b || o) → (if b then r else (if v then r - c else 0)) ≡ (if b then r else (if o then r - c else 0))
pick-same true o v r c same = refl
pick-same false o v r c same = ap (λ (w : Bool). if w then r - c else 0) same

pub earning-step : (judge : Judge) (set : Multipliers) (budget : ℕ) (node : Node) (config : Config) (a total own : ℕ) → AreEarned (setting_of judge) set → a < length judge.setting.now.shapes.now →
    config ≡ available judge.setting.now.cat.now judge.setting.now.shapes.now budget node →
    total ≡ earnings (setting_of judge) (the_multipliers set.rents) budget node 1 (take a judge.setting.now.shapes.now) →
    own ≡ (if has_candidate node.inside (a + 1) then rents_at set a else (if has_candidate config (a + 1) then rents_at set a - cost_at judge.figures.now set.rents.mu a else 0)) →
    total + own ≡ earnings (setting_of judge) (the_multipliers set.rents) budget node 1 (take (a + 1) judge.setting.now.shapes.now)
earning-step judge set budget node config a total own earned within there before is =
    let setting = setting_of judge in
    let multipliers = the_multipliers set.rents in
    let shapes = judge.setting.now.shapes.now in
    let item = some-at shapes a within in
    let place : 1 + length (take a shapes) ≡ a + 1 = omega (arith, length-front shapes a (omega (arith, within))) in
    let few : a + 1 ≤ MOST_CANDIDATES = omega (arith, within, judge.setting.now.limits.shapes_most) in
    let has : has_candidate config (a + 1) ≡ is_available setting.cat setting.shapes budget node (a + 1) =
    ap (λ (c : Config). has_candidate c (a + 1)) there ∙ config_of-has (is_available setting.cat setting.shapes budget node) (a + 1) (omega arith) few in
    let rents = rents-at setting set a item.item earned item.found within (get_or_from_slice_get shapes a item.item item.item item.found) in
    let cost = cost-at judge multipliers a item.item item.found in
    let first = pick-same (has_candidate node.inside (a + 1)) (is_open setting.cat setting.shapes budget node (a + 1)) (has_candidate config (a + 1)) (rents_at set a) (cost_at judge.figures.now set.rents.mu a) has in
    let second : (if has_candidate node.inside (a + 1) then rents_at set a else (if is_open setting.cat setting.shapes budget node (a + 1) then rents_at set a - cost_at judge.figures.now set.rents.mu a else 0))
    ≡ earning_of setting multipliers budget node (a + 1) item.item =
    ap (λ (r : ℕ). if has_candidate node.inside (a + 1) then r else (if is_open setting.cat setting.shapes budget node (a + 1) then r - cost_at judge.figures.now set.rents.mu a else 0)) rents
    ∙ ap (λ (k : ℕ). if has_candidate node.inside (a + 1) then candidate_rents setting multipliers (a + 1) item.item else (if is_open setting.cat setting.shapes budget node (a + 1) then candidate_rents setting multipliers (a + 1) item.item - k else 0)) cost in
    let moved : earning_of setting multipliers budget node (1 + length (take a shapes)) item.item ≡ earning_of setting multipliers budget node (a + 1) item.item = ap (λ (n : ℕ). earning_of setting multipliers budget node n item.item) place in
    let more = earnings-more setting multipliers budget node 1 (take a shapes) item.item in
    let front = ap (earnings setting multipliers budget node 1) (take-at shapes a item.item item.found) in
    let mine : own ≡ earning_of setting multipliers budget node (a + 1) item.item = is ∙ first ∙ second in
    omega (arith, before, mine, moved, more, front)

-- ## The value

pub value-made : (setting : TheSetting) (budget : ℕ) (node : Node) (multipliers : TheMultipliers) (config : Config) (plans kept inside earned : ℕ) (value : ℤ) →
    config ≡ available setting.cat setting.shapes budget node → IsRentedSum setting config multipliers.rent plans → kept ≡ weighted_kept setting →
    inside ≡ costs_inside setting multipliers node 1 setting.shapes → earned ≡ earnings setting multipliers budget node 1 setting.shapes →
    IsRoundedUp (65536 * (plans + kept) + inside) (earned + multipliers.page * budget) value → IsLagrangian setting budget node multipliers value
value-made setting budget node multipliers config plans kept inside earned value there sum kept_is inside_is earned_is rounded =
    let more : 65536 * (plans + kept) + inside ≡ 65536 * (weighted_sum setting.statements sum.costs + weighted_kept setting) + costs_inside setting multipliers node 1 setting.shapes = omega (arith, sum.sum_is, kept_is, inside_is) in
    let less : earned + multipliers.page * budget ≡ earnings setting multipliers budget node 1 setting.shapes + multipliers.page * budget = ap (λ (n : ℕ). n + multipliers.page * budget) earned_is in
    record {
      costs = sum.costs;
      costs_are = subst (λ (c : Config). AreRentedPlans setting c multipliers.rent 1 setting.statements sum.costs) there sum.costs_are;
      value_is =
          subst (λ (l : ℕ). IsRoundedUp (65536 * (weighted_sum setting.statements sum.costs + weighted_kept setting) + costs_inside setting multipliers node 1 setting.shapes) l value) less
          (subst (λ (m : ℕ). IsRoundedUp m (earned + multipliers.page * budget) value) more rounded);
    }
