use Rattle.std.proofs.Common.{◌-◌, ◌<◌, Bool, List, refl, sym, ap, subst, ◌∙◌}
use Rattle.adv_base.specs.Sets.{all_slots}
use Rattle.plan_model.specs.Costs.{rows_in}
use Rattle.planner.specs.declared.cell.Cell.{Cell}
use Rattle.planner.specs.declared.cell.TheConstants.{IMPOSSIBLE}
use Rattle.planner.specs.Fronts.{asked, listed}
use Rattle.planner.specs.Cells.{row_of}
use Rattle.planner.specs.Rows.{width, sets_of, AreRows, IsCapped, IsTable}
use Rattle.planner.specs.inner.Built.{front_cost, IsPlanFor}
use Rattle.planner.specs.inner.Shapes.{least_shape}
use Rattle.planner.proofs.Finding.{full_is, full_in, shape_at, shape_front, shape_possible, whole_valid, whole_costs, whole_least, least_below}
use Rattle.planner.proofs.Tabling.{table_blanks}
use Rattle.planner.proofs.found.whole_of.Goals as goal

pub least_shape-shape-requires-clause-capped : goal.least_shape-shape-requires-clause-capped
least_shape-shape-requires-clause-capped g c =
    let ways = c.args.search.now.ways in
    let full = all_slots c.args.search.now.ways.task.now.slots in
    subst (λ (cells : List Cell). IsCapped (row_of (width ways) cells full)) (sym c.as_slice-cells.ensures.value) (c.requires.holds.rows.each full (full_in ways)).capped

pub build-requires : goal.build-requires
build-requires g c =
    let search = c.args.search.now in
    let ways = c.args.search.now.ways in
    let task = c.args.search.now.ways.task.now in
    let table = g.O.Offers.table c.args.offers.now in
    let cells = c.args.search.now.cells.items in
    let full = all_slots c.args.search.now.ways.task.now.slots in
    let same = c.as_slice-cells.ensures.value in
    let last = full_is task (c.len-full.result - 1) (ap (λ n. n - 1) c.len-full.ensures) in
    let is = c.least_shape-shape.ensures ∙ ap (λ (x : List Cell). least_shape task.group task (row_of (width ways) x full) (rows_in task full)) same in
    let s = shape_at search.cells.alloc ways table (row_of (width ways) cells) c.least_shape-shape.result c.limits.ensures c.requires.offers c.requires.holds.rows (table_blanks ways cells search.table) is in
    let row = row_of (width ways) cells full in
    let possible = subst (λ (b : Bool). front_cost b row c.least_shape-shape.result.front < IMPOSSIBLE) (sym c.sorts_body-sorts.ensures) (shape_possible task table ways.fronts.items row c.least_shape-shape.result s) in
    record {
      table = subst (IsTable ways) (sym same) search.table;
      done = subst (λ (x : List Cell). AreRows ways table (row_of (width ways) x) (sets_of ways)) (sym same) c.requires.holds.rows;
      set_in = last.1;
      front_in = shape_front task table ways.fronts.items row c.least_shape-shape.result s;
      possible = subst (λ (x : List Cell). front_cost c.sorts_body-sorts.result (row_of (width ways) x (c.len-full.result - 1)) c.least_shape-shape.result.front < IMPOSSIBLE) (sym same) (subst (λ n. front_cost c.sorts_body-sorts.result (row_of (width ways) cells n) c.least_shape-shape.result.front < IMPOSSIBLE) (sym last.0) possible);
    }

pub returns : goal.returns
returns g c =
    let search = c.args.search.now in
    let ways = c.args.search.now.ways in
    let task = c.args.search.now.ways.task.now in
    let table = g.O.Offers.table c.args.offers.now in
    let cells = c.args.search.now.cells.items in
    let full = all_slots c.args.search.now.ways.task.now.slots in
    let same = c.as_slice-cells.ensures.value in
    let last = full_is task (c.len-full.result - 1) (ap (λ n. n - 1) c.len-full.ensures) in
    let shape = c.least_shape-shape.result in
    let is = c.least_shape-shape.ensures ∙ ap (λ (x : List Cell). least_shape task.group task (row_of (width ways) x full) (rows_in task full)) same in
    let s = shape_at search.cells.alloc ways table (row_of (width ways) cells) shape c.limits.ensures c.requires.offers c.requires.holds.rows (table_blanks ways cells search.table) is in
    let row = row_of (width ways) cells full in
    let a = subst (λ (x : List Cell). IsPlanFor c.sorts_body-sorts.result task table (asked (listed task) ways.fronts.items shape.front) (c.len-full.result - 1) (front_cost c.sorts_body-sorts.result (row_of (width ways) x (c.len-full.result - 1)) shape.front) c.in_ok-body.body) same c.in_ok-body.ensures in
    let d = subst (λ n. IsPlanFor c.sorts_body-sorts.result task table (asked (listed task) ways.fronts.items shape.front) n (front_cost c.sorts_body-sorts.result (row_of (width ways) cells n) shape.front) c.in_ok-body.body) last.0 a in
    let b = subst (λ (t : Bool). IsPlanFor t task table (asked (listed task) ways.fronts.items shape.front) full (front_cost t row shape.front) c.in_ok-body.body) c.sorts_body-sorts.ensures d in
    let least = whole_least task table ways.fronts.items row shape s full refl c.in_ok-body.body b in
    record {
      valid = whole_valid task table ways.fronts.items row shape s full refl c.in_ok-body.body b;
      costs = whole_costs task table ways.fronts.items row shape s full refl c.in_ok-body.body b;
      sorts = b.sorts_wanted;
      least = least;
      most = least_below task table shape.cost c.limits.ensures least;
    }
