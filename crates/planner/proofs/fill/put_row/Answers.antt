use Rattle.std.proofs.Common.{◌≡◌, ◌+◌, ◌-◌, ◌*◌, length, ap, ◌∙◌, arith}
use Rattle.planner.proofs.Tabling.{row_other}
use Rattle.planner.proofs.fill.put_row.Goals as goal

pub returns-clause-others : goal.returns-clause-others
returns-clause-others c =
    let len : length c.copy_from_slice.new.self ≡ c.args.width = ap length c.copy_from_slice.ensures.after ∙ c.requires.row_each in
    λ s differ. row_other c.args.width c.args.set s (c.args.set * c.args.width + c.args.width - c.args.set * c.args.width) c.args.cells.now c.copy_from_slice.new.self (omega arith) len c.requires.fits differ
