use Rattle.std.proofs.Common.{◌≡◌, List, sym, ap, subst, ◌∙◌}
use Rattle.std.proofs.lemmas.List.{take_at}
use Rattle.adv_base.specs.Sets.{all_slots}
use Rattle.plan_model.specs.Costs.{rows_in}
use Rattle.planner.specs.declared.cell.Cell.{Cell}
use Rattle.planner.specs.Cells.{row_of}
use Rattle.planner.specs.Rows.{width, IsCapped}
use Rattle.planner.specs.inner.Shapes.{least_shape}
use Rattle.planner.proofs.Finding.{cost_is, full_in, least_below}
use Rattle.planner.proofs.Tabling.{table_blanks}
use Rattle.planner.proofs.search.Search.cost.Goals as goal

pub least_shape-requires-clause-capped : goal.least_shape-requires-clause-capped
least_shape-requires-clause-capped g c =
    let ways = c.args.self.now.ways in
    let full = all_slots c.args.self.now.ways.task.now.slots in
    let filled : c.as_slice.result.now ≡ c.fill.new.cells = c.as_slice.ensures.value ∙ take_at c.fill.new.cells _ _ (c.fill.auto.cells ∙ c.as_mut_slice.ensures.len) in
    subst (λ (cells : List Cell). IsCapped (row_of (width ways) cells full)) (sym filled) (c.fill.ensures.done.each full (full_in ways)).capped

pub returns-clause-least : goal.returns-clause-least
returns-clause-least g c =
    let ways = c.args.self.now.ways in
    let task = c.args.self.now.ways.task.now in
    let full = all_slots c.args.self.now.ways.task.now.slots in
    let filled : c.as_slice.result.now ≡ c.fill.new.cells = c.as_slice.ensures.value ∙ take_at c.fill.new.cells _ _ (c.fill.auto.cells ∙ c.as_mut_slice.ensures.len) in
    let is = c.least_shape.ensures ∙ ap (λ (cells : List Cell). least_shape task.group task (row_of (width ways) cells full) (rows_in task full)) filled in
    cost_is c.args.self.now.cells.alloc ways (g.O.Offers.table c.args.offers.now) (row_of (width ways) c.fill.new.cells) c.least_shape.result c.limits.ensures c.requires c.fill.ensures.done (table_blanks ways c.fill.new.cells c.fill.ensures.table) is

pub returns-clause-most : goal.returns-clause-most
returns-clause-most g c =
    least_below c.args.self.now.ways.task.now (g.O.Offers.table c.args.offers.now) c.least_shape.result.cost c.limits.ensures (returns-clause-least g c)
