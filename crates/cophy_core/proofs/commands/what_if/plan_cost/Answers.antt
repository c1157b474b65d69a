use Rattle.std.proofs.Common.{ℕ, sym, subst, arith}
use Rattle.adv_base.specs.Settings.{the_setting}
use Rattle.plan_model.specs.Totals.{IsBlockCost}
use Rattle.cophy_core.proofs.Blocks.{planned_cost, unplanned_cost}
use Rattle.cophy_core.proofs.Parts.{parts_same, parts_some, parts_behind, part_tells, block_below}
use Rattle.cophy_core.proofs.commands.what_if.plan_cost.Goals as goal

pub bounds-parts-0 : goal.bounds-parts-0
bounds-parts-0 c =
    omega (arith, parts_some (the_setting c.args.setting.now) c.args.at c.args.statement.now c.in-Some.field-0.now c.args.parts.now c.requires.found (sym c.in-Some.ensures) c.requires.parts)

pub slice_bounds-result-count : goal.slice_bounds-result-count
slice_bounds-result-count c =
    parts_some (the_setting c.args.setting.now) c.args.at c.args.statement.now c.in-Some.field-0.now c.args.parts.now c.requires.found (sym c.in-Some.ensures) c.requires.parts

pub slice_bounds-result-start : goal.slice_bounds-result-start
slice_bounds-result-start c =
    omega (arith, parts_some (the_setting c.args.setting.now) c.args.at c.args.statement.now c.in-Some.field-0.now c.args.parts.now c.requires.found (sym c.in-Some.ensures) c.requires.parts)

pub returns-in-Some-clause-cost : goal.returns-in-Some-clause-cost
returns-in-Some-clause-cost c =
    let setting = the_setting c.args.setting.now in
    planned_cost setting.cat setting.shapes c.args.config.now c.args.statement.now.work c.in-Some.field-0.now c.part_cost.result (sym c.in-Some.ensures)
    (subst (λ (cost : ℕ). IsBlockCost setting.cat setting.shapes c.args.config.now c.in-Some.field-0.now cost) (sym c.part_cost.ensures.exact)
    (part_tells c.value_is_total.ensures.part setting c.args.config.now c.args.at c.args.statement.now c.in-Some.field-0.now c.args.parts.now c.index-parts-0.result c.args.setting.now.limits c.requires.found (sym c.in-Some.ensures) c.requires.parts c.index-parts-0.is))

pub returns-in-Some-clause-bound : goal.returns-in-Some-clause-bound
returns-in-Some-clause-bound c =
    let setting = the_setting c.args.setting.now in
    block_below setting.cat setting.shapes c.args.config.now c.in-Some.field-0.now c.part_cost.result
    (subst (λ (cost : ℕ). IsBlockCost setting.cat setting.shapes c.args.config.now c.in-Some.field-0.now cost) (sym c.part_cost.ensures.exact)
    (part_tells c.value_is_total.ensures.part setting c.args.config.now c.args.at c.args.statement.now c.in-Some.field-0.now c.args.parts.now c.index-parts-0.result c.args.setting.now.limits c.requires.found (sym c.in-Some.ensures) c.requires.parts c.index-parts-0.is))

pub returns-in-Some-clause-rest : goal.returns-in-Some-clause-rest
returns-in-Some-clause-rest c =
    parts_behind (the_setting c.args.setting.now) c.args.at c.args.statement.now c.in-Some.field-0.now c.args.parts.now c.requires.found (sym c.in-Some.ensures) c.requires.parts

pub returns-in-None-clause-cost : goal.returns-in-None-clause-cost
returns-in-None-clause-cost c = unplanned_cost _ _ _ _ (sym c.in-None.ensures)

pub returns-in-None-clause-rest : goal.returns-in-None-clause-rest
returns-in-None-clause-rest c =
    parts_same (the_setting c.args.setting.now) c.args.at c.args.statement.now c.args.parts.now c.requires.found (sym c.in-None.ensures) c.requires.parts
