use Rattle.adv_base.specs.Offers.{charged_offers}
use Rattle.gap_checker.specs.inner.Charges.{charge_of}
use Rattle.gap_checker.specs.inner.Rows as rows
use Rattle.gap_checker.proofs.planning.board_of.Given as goal

abbrev pub invariant-loop-slot : goal.invariant-loop-slot
invariant-loop-slot l =
    rows.IsRowsOf l.list.items l.slot (charged_offers (charge_of l.terms l.statement) l.setting.cat.now l.block l.setting.shapes.now l.terms.config.now)
