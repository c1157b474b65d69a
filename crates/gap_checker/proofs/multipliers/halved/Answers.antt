use Rattle.std.proofs.Common.{arith}
use Rattle.gap_checker.proofs.Entries.{cut-above, cut-below}
use Rattle.gap_checker.proofs.multipliers.halved.Goals as goal

pub returns-then-is_before-clause-cut : goal.returns-then-is_before-clause-cut
returns-then-is_before-clause-cut c =
    cut-above c.args.entries.now c.args.place c.args.from c.args.to _ c.entry_at-entry.result.now c.requires.rise c.requires.cut (omega (arith, c.requires.some, c.requires.cut.order)) c.entry_at-entry.ensures (c.is_before.ensures.yes c.if-is_before.true)

pub returns-else-is_before-clause-cut : goal.returns-else-is_before-clause-cut
returns-else-is_before-clause-cut c =
    cut-below c.args.entries.now c.args.place c.args.from c.args.to _ c.entry_at-entry.result.now c.requires.rise c.requires.cut (omega (arith, c.requires.some)) (omega (arith, c.requires.some, c.requires.cut.order)) c.entry_at-entry.ensures (c.is_before.ensures.no c.if-is_before.false)
