-- The least plan, from the table of all sets.
use Rattle.std.proofs.Common.{Global, ◌≡◌, ℕ, ◌-◌, ◌^◌, ◌<◌, ◌≤◌, cond, List, length, refl, sym, ap, ◌∙◌, subst, arith}
use Rattle.std.proofs.Math.Nat.{one-le-pow}
use Rattle.std.proofs.Math.Pow.{pow_mono}
use Rattle.adv_base.specs.Items.{BeginsWith}
use Rattle.adv_base.specs.Offers.{OfferTable}
use Rattle.adv_base.specs.Sets.{all_slots}
use Rattle.plan_model.specs.declared.plan.Plan.{Plan}
use Rattle.plan_model.specs.declared.plan.Whole.{Whole}
use Rattle.plan_model.specs.declared.task.Task.{Task}
use Rattle.adv_base.specs.OfferTables.{OfferTableLimits, HasOffers}
use Rattle.plan_model.specs.Plans.{IsWhole, covers, delivers, body_sorts}
use Rattle.plan_model.specs.Costs.{whole_cost, rows_in, sort_cost, group_cost, final_rows}
use Rattle.plan_model.specs.Least.{Least}
use Rattle.plan_model.specs.declared.plan.TheConstants.{MOST_COST}
use Rattle.plan_model.proofs.CostBound.{whole_cost-most}
use Rattle.planner.specs.declared.front.Front.{Front}
use Rattle.planner.specs.declared.cell.Cell.{Cell}
use Rattle.planner.specs.declared.cell.TheConstants.{IMPOSSIBLE}
use Rattle.planner.specs.declared.ways.Ways.{Ways}
use Rattle.planner.specs.declared.whole.Shape.{Shape}
use Rattle.planner.specs.Fronts.{asked, listed}
use Rattle.planner.specs.Cells.{cost_at}
use Rattle.planner.specs.Rows.{sets_of, AreRows}
use Rattle.planner.specs.inner.Built.{front_cost, IsPlanFor}
use Rattle.planner.specs.inner.Shapes.{least_shape}
use Rattle.planner.proofs.Fronting.{nothing_asked, all_asked}
use Rattle.planner.proofs.Lower.{AreBlank, rows_low}
use Rattle.planner.proofs.Upper.{plans}
use Rattle.plan_model.proofs.Exists.{joined, rows_most}
use Rattle.planner.proofs.Wholes.{IsLeastShape, shape_is}

pub full_is : (task : Task) (full : ℕ) → full ≡ length task.rows - 1 → (full ≡ all_slots task.slots) × (full < length task.rows)
full_is task full is =
    let count = task.limits.rows_each in
    let some : 1 ≤ 2 ^ task.slots = one-le-pow task.slots 2 (omega arith) in
    (omega arith, omega arith)

pub full_in : (ways : Ways) → all_slots ways.task.now.slots < sets_of ways
full_in ways =
    let last = full_is ways.task.now (length ways.task.now.rows - 1) refl in omega (arith, last.0, last.1)

pub shape_at : (alloc : Global) (ways : Ways) (table : OfferTable) (rows : ℕ → List Cell) (shape : Shape) → OfferTableLimits table → HasOffers ways.task.now.slots table → AreRows ways table rows (sets_of ways) → AreBlank ways rows → shape ≡ least_shape ways.task.now.group ways.task.now (rows (all_slots ways.task.now.slots)) (rows_in ways.task.now (all_slots ways.task.now.slots)) → IsLeastShape ways.task.now table (listed ways.task.now) ways.fronts.items (rows (all_slots ways.task.now.slots)) shape
shape_at alloc ways table rows shape limits has closed blanks is =
    let task : Task = ways.task.now in
    let full : ℕ = all_slots task.slots in
    let within = full_in ways in
    let low = rows_low ways table rows closed blanks full within in
    let some = ways.known.needs.some in
    let nothing = nothing_asked ways in
    let j = joined alloc task table limits has in
    let least = (low.least 0 (omega arith)).each j.plan j.valid j.covers_all (subst (λ t. BeginsWith (delivers table j.plan) t) (sym nothing) refl) in
    let cost = j.cost in
    let most = task.limits.slots_most in
    let eight : 2 ^ task.slots ≤ 2 ^ 8 = pow_mono most in
    let all : all_slots task.slots ≤ 255 = omega arith in
    let cheap : cost_at (rows full) 0 ≤ 10000000000000000000000 = omega arith in
    shape_is task table ways.fronts.items (rows full) some nothing (all_asked ways) low cheap (rows_most task.rows (all_slots task.slots) task.limits.rows_limits) shape is

-- what the shape makes of a body
module _ (task : Task) (table : OfferTable) (fronts : List Front) (row : List Cell) (shape : Shape) (s : IsLeastShape task table (listed task) fronts row shape) where
  pub shape_front : shape.front < length fronts
  shape_front = s.fits.front_in

  pub shape_possible : front_cost (body_sorts shape.group) row shape.front < IMPOSSIBLE
  shape_possible = let costs = s.fits.costs in let less = s.possible in omega arith

  module _ (full : ℕ) (full_all : full ≡ all_slots task.slots) (body : Plan) (b : IsPlanFor (body_sorts shape.group) task table (asked (listed task) fronts shape.front) full (front_cost (body_sorts shape.group) row shape.front) body) where
    whole : Whole
    whole = record { body = body; group = shape.group; final_sort = shape.final_sort }

    pub whole_valid : IsWhole task table (record { body = body; group = shape.group; final_sort = shape.final_sort })
    whole_valid =
        record {
          body_valid = b.valid;
          covers_all = b.covers_set ∙ full_all;
          group_fits = s.fits.fits (delivers table body) b.begins;
          sorts_by_something = s.fits.sorts_by;
          ordered = s.fits.ordered (delivers table body) b.begins;
        }

    pub whole_costs : whole_cost task table (record { body = body; group = shape.group; final_sort = shape.final_sort }) ≡ shape.cost
    whole_costs =
        let rows : rows_in task (covers body) ≡ rows_in task (all_slots task.slots) = ap (rows_in task) (b.covers_set ∙ full_all) in
        let step : group_cost task.rates shape.group (rows_in task (covers body)) ≡ group_cost task.rates shape.group (rows_in task (all_slots task.slots)) = ap (group_cost task.rates shape.group) rows in
        let final : cond shape.final_sort (sort_cost task.rates (final_rows task task.group (rows_in task (covers body)))) 0 ≡ cond shape.final_sort (sort_cost task.rates (final_rows task task.group (rows_in task (all_slots task.slots)))) 0 = ap (λ r. cond shape.final_sort (sort_cost task.rates (final_rows task task.group r)) 0) rows in
        let costs = s.fits.costs in
        let plan = b.costs in
        omega arith

    pub whole_least : Least task table shape.cost
    whole_least =
        record {
          plan = record { whole = record { body = body; group = shape.group; final_sort = shape.final_sort }; valid = whole_valid; costs = whole_costs };
          none_less = s.least;
        }

-- the shape's cost is that of a least plan
pub cost_is : (alloc : Global) (ways : Ways) (table : OfferTable) (rows : ℕ → List Cell) (shape : Shape) → OfferTableLimits table → HasOffers ways.task.now.slots table → AreRows ways table rows (sets_of ways) → AreBlank ways rows → shape ≡ least_shape ways.task.now.group ways.task.now (rows (all_slots ways.task.now.slots)) (rows_in ways.task.now (all_slots ways.task.now.slots)) → Least ways.task.now table shape.cost
cost_is alloc ways table rows shape limits has closed blanks is =
    let task : Task = ways.task.now in
    let full : ℕ = all_slots task.slots in
    let within = full_in ways in
    let s = shape_at alloc ways table rows shape limits has closed blanks is in
    let body = plans alloc ways table rows closed blanks full within (body_sorts shape.group) shape.front (shape_front task table ways.fronts.items (rows full) shape s) (shape_possible task table ways.fronts.items (rows full) shape s) in
    whole_least task table ways.fronts.items (rows full) shape s full refl body.plan body.is

-- a least plan is valid, and so costs less than 10^21
pub least_below : (task : Task) (table : OfferTable) (cost : ℕ) → OfferTableLimits table → Least task table cost → cost < MOST_COST
least_below task table cost limits least =
    let plan = least.plan in
    omega (arith, whole_cost-most task table plan.whole limits plan.valid, plan.costs)
