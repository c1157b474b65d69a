use Rattle.std.proofs.Common.{◌-◌, Bool, length, sym, subst, ◌∙◌, arith}
use Rattle.planner.specs.Fronts.{asked, listed}
use Rattle.planner.specs.Cells.{cost_at, any_at, row_of}
use Rattle.planner.specs.inner.Built.{IsPlanFor, front_cost}
use Rattle.planner.proofs.Building.{asked_sort, sort_built, merge_built, hash_built, plain_cost, sorted_top, top_differs, sort_wanted}
use Rattle.planner.proofs.Lower.{AreBlank, rows_low}
use Rattle.planner.proofs.build.+build.Goals as goal

pub choice_of-requires-clause-possible : goal.choice_of-requires-clause-possible
choice_of-requires-clause-possible g t c =
    let ways = c.args.ways.now in
    let task = c.args.ways.now.task.now in
    let table = g.O.Offers.table c.args.offers.now in
    let list = listed c.args.ways.now.task.now in
    let fronts = c.args.ways.now.fronts.items in
    let rows = row_of (length c.args.ways.now.fronts.items) c.args.cells.now in
    let set = c.args.set in
    let f = c.args.front in
    let same = plain_cost (rows set) f c.args.sorts c.cell_of-cell.result c.cell_of-cell.ensures (sym c.is_sorted.ensures ∙ c.if-is_sorted.false) in
    omega (arith, same, c.requires.possible)

pub returns-then-is_sorted : goal.returns-then-is_sorted
returns-then-is_sorted g t c =
    let ways = c.args.ways.now in
    let task = c.args.ways.now.task.now in
    let table = g.O.Offers.table c.args.offers.now in
    let list = listed c.args.ways.now.task.now in
    let fronts = c.args.ways.now.fronts.items in
    let rows = row_of (length c.args.ways.now.fronts.items) c.args.cells.now in
    let set = c.args.set in
    let f = c.args.front in
    let top = sorted_top task list fronts (rows set) set f c.args.sorts c.cell_of-cell.result c.cell_of-cell.ensures (sym c.is_sorted.ensures ∙ c.if-is_sorted.true) ((c.requires.done.each set c.requires.set_in).sorted f c.requires.front_in) in
    let differs = top_differs (rows set) f c.args.sorts c.cell_of-cell.result c.cell_of-cell.ensures (sym c.is_sorted.ensures ∙ c.if-is_sorted.true) in
    let blanks : AreBlank ways rows = record { each = c.requires.table.blanks } in
    let low = rows_low ways table rows c.requires.done blanks set c.requires.set_in in
    let is = asked_sort c.wanted_list.result.now list c.front_at.result fronts f c.in_ok-input.input c.in_ok-plan.plan c.wanted_list.ensures.exact c.front_at.ensures c.in_ok-plan.ensures in
    let wanted = sort_wanted ways table set f (rows set) c.in_ok-input.input c.requires.front_in differs (low.least_any f c.requires.front_in) top.1 c.in_ok-input.ensures in
    let built = sort_built task table list fronts (rows set) set f (any_at (rows set) f) c.in_ok-input.input c.in_ok-plan.plan is c.in_ok-input.ensures top.1 wanted in
    subst (λ (b : Bool). IsPlanFor b task table (asked list fronts f) set (front_cost b (rows set) f) c.in_ok-plan.plan) (sym top.0) built

pub returns-in_ok-plan-in-MergeOf : goal.returns-in_ok-plan-in-MergeOf
returns-in_ok-plan-in-MergeOf g t c =
    let ways = c.args.ways.now in
    let task = c.args.ways.now.task.now in
    let table = g.O.Offers.table c.args.offers.now in
    let list = listed c.args.ways.now.task.now in
    let fronts = c.args.ways.now.fronts.items in
    let rows = row_of (length c.args.ways.now.fronts.items) c.args.cells.now in
    let set = c.args.set in
    let f = c.args.front in
    let same = plain_cost (rows set) f c.args.sorts c.cell_of-cell.result c.cell_of-cell.ensures (sym c.is_sorted.ensures ∙ c.if-is_sorted.false) in
    let a = c.in-MergeOf.left in
    let says = c.in-MergeOf.ensures in
    let built = merge_built c.args.sorts task table list fronts (rows a) (rows (set - a)) set a f (cost_at (rows set) f) c.in-MergeOf.edge c.in-MergeOf.left_front c.in-MergeOf.right_front c.in_ok-a-in-MergeOf.a c.in_ok-b-in-MergeOf.b c.in_ok-plan-in-MergeOf.plan c.in_ok-plan-in-MergeOf.ensures says.0 says.1 c.in_ok-a-in-MergeOf.ensures c.in_ok-b-in-MergeOf.ensures in
    subst (λ x. IsPlanFor c.args.sorts task table (asked list fronts f) set x c.in_ok-plan-in-MergeOf.plan) (sym same) built

pub returns-in_ok-plan-in-HashOf : goal.returns-in_ok-plan-in-HashOf
returns-in_ok-plan-in-HashOf g t c =
    let ways = c.args.ways.now in
    let task = c.args.ways.now.task.now in
    let table = g.O.Offers.table c.args.offers.now in
    let list = listed c.args.ways.now.task.now in
    let fronts = c.args.ways.now.fronts.items in
    let rows = row_of (length c.args.ways.now.fronts.items) c.args.cells.now in
    let set = c.args.set in
    let f = c.args.front in
    let same = plain_cost (rows set) f c.args.sorts c.cell_of-cell.result c.cell_of-cell.ensures (sym c.is_sorted.ensures ∙ c.if-is_sorted.false) in
    let a = c.in-HashOf.left in
    let says = c.in-HashOf.ensures in
    let built = hash_built c.args.sorts task table list fronts (rows a) (rows (set - a)) set a f (cost_at (rows set) f) c.in_ok-a-in-HashOf.a c.in_ok-b-in-HashOf.b c.in_ok-plan-in-HashOf.plan c.in_ok-plan-in-HashOf.ensures says.0 says.1 c.in_ok-a-in-HashOf.ensures c.in_ok-b-in-HashOf.ensures in
    subst (λ x. IsPlanFor c.args.sorts task table (asked list fronts f) set x c.in_ok-plan-in-HashOf.plan) (sym same) built
