use Rattle.std.proofs.Common.{◌≡◌, ℕ, ◌+◌, ◌<◌, ◌≤◌, List, length, ap, subst, arith}
use Rattle.std.specs.List.{list_all}
use Rattle.plan_model.specs.Plans.{is_column_of}
use Rattle.plan_model.specs.Costs.{rows_in, sort_cost}
use Rattle.planner.specs.declared.front.Front.{Front}
use Rattle.planner.specs.declared.cell.Cell.{Cell}
use Rattle.planner.specs.declared.cell.TheConstants.{IMPOSSIBLE}
use Rattle.planner.specs.Fronts.{asked, listed}
use Rattle.planner.specs.Cells.{cell_at, cost_at, row_of}
use Rattle.planner.specs.inner.Steps.{finished, AreOffers}
use Rattle.planner.specs.Rows.{OffersBound}
use Rattle.planner.proofs.Tabling.{blank_offers, is_row}
use Rattle.planner.proofs.row.plan_row.Goals as goal

pub read_row-requires-clause-offers : goal.read_row-requires-clause-offers
read_row-requires-clause-offers g c =
    blank_offers c.args.ways.now.task.now (g.O.Offers.table c.args.offers.now) (listed c.args.ways.now.task.now) c.as_slice-fronts.result.now c.args.set c.clear_row.new.row c.clear_row.ensures

pub finish_row-requires-clause-capped : goal.finish_row-requires-clause-capped
finish_row-requires-clause-capped g c =
    let some = c.args.ways.now.known.needs.some in
    let fronts = c.as_slice-fronts.ensures.value in
    let count : length c.as_slice-fronts.result.now ≡ length c.args.ways.now.fronts.items = ap length fronts in
    let read = c.read_row.ensures.lower 0 (omega arith) in
    let clear : cost_at c.clear_row.new.row 0 ≡ IMPOSSIBLE = ap (λ (x : Cell). x.cost) (c.clear_row.ensures 0) in
    omega (arith, c.join_row.ensures.step.lower 0, read, clear)

pub join_row-requires-clause-done : goal.join_row-requires-clause-done
join_row-requires-clause-done g c = λ s h. (c.requires.done.each s h).capped

pub returns : goal.returns
returns g c =
    let ways = c.args.ways.now in
    let task = c.args.ways.now.task.now in
    let table = g.O.Offers.table c.args.offers.now in
    let list = listed task in
    let fronts = c.args.ways.now.fronts.items in
    let set = c.args.set in
    let rows = row_of (length c.args.ways.now.fronts.items) c.args.cells.now in
    let r0 = c.clear_row.new.row in
    let r1 = c.read_row.new.row in
    let r2 = c.join_row.new.row in
    let r3 = c.finish_row.new.row in
    let e = c.as_slice-fronts.ensures.value in
    let lower = subst (λ (fs : List Front). (f : ℕ) → f < length fs → cost_at r1 f ≤ cost_at r0 f) e c.read_row.ensures.lower in
    let capped : (f : ℕ) → f < length fronts → cost_at r1 f ≤ IMPOSSIBLE = λ f h. (
    let low = lower f h in
    let clear : cost_at r0 f ≡ IMPOSSIBLE = ap (λ (x : Cell). x.cost) (c.clear_row.ensures f) in
    omega arith) in
    let offers = subst (λ (fs : List Front). AreOffers task table list fs set r1) e c.read_row.ensures.offers in
    let reads = subst (λ (fs : List Front). (f : ℕ) → f < length fs → OffersBound task table (asked list fs f) set (cost_at r1 f)) e c.read_row.ensures.bounds in
    let each = subst (λ (fs : List Front). (f : ℕ) → f < length fs → cell_at r3 f ≡ finished (cell_at r2 f) (list_all (is_column_of set) (asked list fs f)) (cost_at r2 0 + sort_cost task.rates (rows_in task set))) e c.finish_row.ensures in
    is_row ways table rows set r1 r2 r3 (omega arith) capped offers reads c.join_row.ensures.step c.join_row.ensures.bounds each
