use Rattle.std.proofs.Common.{◌≡◌, ◌∙◌, sym, subst, arith}
use Rattle.adv_base.specs.Offers.{OfferTable, charged_offers}
use Rattle.adv_base.specs.OfferTables.{OfferTableLimits}
use Rattle.adv_base.proofs.OfferBounds.{charged-limits}
use Rattle.gap_checker.specs.inner.Charges.{charge_of}
use Rattle.gap_checker.specs.inner.Rows.{table_of}
use Rattle.gap_checker.proofs.Entries.{rent-most}
use Rattle.gap_checker.proofs.Shows.{shown-charged, rows-more, all-shown}
use Rattle.gap_checker.proofs.planning.board_of.Goals as goal

pub row_of-requires-clause-prices : goal.row_of-requires-clause-prices
row_of-requires-clause-prices c = c.requires.part_is.prices

pub loop-slot-preserved : goal.loop-slot-preserved
loop-slot-preserved c =
    let setting = c.args.setting.now in
    let table : OfferTable = charged_offers (charge_of c.args.terms.now c.args.statement) setting.cat.now c.args.block.now setting.shapes.now c.args.terms.now.config.now in
    rw c.in_ok-put_row.ensures
    (rows-more c.loop-slot.list.items c.in_ok-row.row c.loop-slot.slot table c.loop-slot.invariant.count c.loop-slot.invariant.rows_are
    (c.in_ok-row.ensures ∙ shown-charged setting.cat.now c.args.block.now setting.shapes.now c.args.terms.now.config.now (charge_of c.args.terms.now c.args.statement) c.args.part.now.offers.slots.items c.loop-slot.slot setting.limits.shapes_most c.requires.part_is.offers_are))

pub returns : goal.returns
returns c =
    let setting = c.args.setting.now in
    all-shown setting.cat.now c.args.block.now setting.shapes.now c.args.terms.now.config.now (charge_of c.args.terms.now c.args.statement) c.loop-slot.list.items
    (omega (arith, c.loop-slot.invariant.count, c.requires.part_is.task_is.slots_are)) (λ s below. c.loop-slot.invariant.rows_are s (omega (arith, below, c.requires.part_is.task_is.slots_are)))

pub invariant_of-result : goal.invariant_of-result
invariant_of-result c =
    let setting = c.args.setting.now in
    let charge = charge_of c.args.terms.now c.args.statement in
    let are : table_of c.loop-slot.list.items ≡ charged_offers charge setting.cat.now c.args.block.now setting.shapes.now c.args.terms.now.config.now =
    all-shown setting.cat.now c.args.block.now setting.shapes.now c.args.terms.now.config.now charge c.loop-slot.list.items
    (omega (arith, c.loop-slot.invariant.count, c.requires.part_is.task_is.slots_are)) (λ s below. c.loop-slot.invariant.rows_are s (omega (arith, below, c.requires.part_is.task_is.slots_are))) in
    record { limits = subst OfferTableLimits (sym are) (charged-limits charge (λ s a. rent-most c.args.terms.now.rents.entries.now 0 c.args.statement s a c.requires.rise) setting.cat.now c.args.block.now setting.shapes.now c.args.terms.now.config.now) }
