use Rattle.std.proofs.Common.{◌∙◌, ◌∷◌, [], length-append, sym, ap, arith}
use Rattle.gap_checker.specs.declared.fault.AtFault.TheVariants as at_faults
use Rattle.gap_checker.specs.declared.tree_reader.TreeReader.{TreeReader}
use Rattle.gap_checker.proofs.Reading.{done-breaks, line-breaks, takes-end, whole-line}
use Rattle.gap_checker.proofs.TreeBreaks.{no-node, no-end-line}
use Rattle.gap_checker.proofs.tree_reader.TreeReader.take_line.Goals as goal

pub returns-then-is_over-clause-fault : goal.returns-then-is_over-clause-fault
returns-then-is_over-clause-fault c =
    done-breaks c.args.judge.now c.args.head.now c.args.self.now (10 ∷ []) _ c.requires.fits c.requires.judge (sym c.is_over.ensures ∙ c.if-is_over.true) (ap at_faults.Malformed c.number.ensures) (omega (arith, length-append c.args.self.now.partial (10 ∷ [])))

pub returns-then-not-has_end-clause-fault : goal.returns-then-not-has_end-clause-fault
returns-then-not-has_end-clause-fault c =
    let r = c.args.self.now in
    line-breaks c.args.judge.now c.args.head.now r _ c.requires.fits c.requires.judge (sym c.is_over.ensures ∙ c.if-is_over.false) (ap at_faults.Malformed c.number-then-not-has_end.ensures)
    (λ text more h. no-end-line c.args.head.now h.read _ r.partial more (omega (arith, h.count, c.has_all.ensures.all c.if-has_all.true)) (whole-line r.partial more h.plain)
    (c.has_end.ensures.not c.if-not-has_end.true))

pub returns-then-has_all-clause-taken : goal.returns-then-has_all-clause-taken
returns-then-has_all-clause-taken c =
    let r = c.args.self.now in
    takes-end c.args.judge.now c.args.head.now r c.count_end.new.self c.requires.fits (sym c.is_over.ensures ∙ c.if-is_over.false) (omega (arith, c.has_all.ensures.all c.if-has_all.true)) (c.has_end.ensures.end c.if-not-has_end.false) (ap (λ (x : TreeReader). x.partial) c.count_end.ensures) (ap (λ (x : TreeReader). x.read) c.count_end.ensures) (ap (λ (x : TreeReader). x.is_done) c.count_end.ensures) (ap (λ (x : TreeReader). x.starts.items) c.count_end.ensures)

pub returns-in-None-clause-fault : goal.returns-in-None-clause-fault
returns-in-None-clause-fault c =
    let r = c.args.self.now in
    line-breaks c.args.judge.now c.args.head.now r _ c.requires.fits c.requires.judge (sym c.is_over.ensures ∙ c.if-is_over.false) (ap at_faults.Malformed c.number-in-None.ensures)
    (λ text more h. no-node c.args.head.now h.read _ r.partial more (omega (arith, h.count, c.has_all.ensures.not c.if-has_all.false, c.requires.fits.within)) (whole-line r.partial more h.plain)
    c.in-None.ensures)
