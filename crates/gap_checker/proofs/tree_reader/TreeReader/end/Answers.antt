use Rattle.std.proofs.Common.{◌∙◌, sym, ap}
use Rattle.gap_checker.specs.declared.fault.AtFault.TheVariants as at_faults
use Rattle.gap_checker.proofs.Reading.{ends-whole, ends-open, ends-behind}
use Rattle.gap_checker.proofs.tree_reader.TreeReader.end.Goals as goal

pub returns-then-not-is_over-clause-fault : goal.returns-then-not-is_over-clause-fault
returns-then-not-is_over-clause-fault c = λ judge text is h.
    ends-open judge c.args.head.now c.args.self.now text _ c.requires.fits is (sym c.is_over.ensures ∙ c.if-not-is_over.true) (ap at_faults.Malformed c.number.ensures) h

pub returns-then-is_open-clause-fault : goal.returns-then-is_open-clause-fault
returns-then-is_open-clause-fault c = λ judge text is h.
    ends-behind judge c.args.head.now c.args.self.now text _ c.requires.fits is (sym c.is_over.ensures ∙ c.if-not-is_over.false) (c.is_open.ensures.open_line c.if-is_open.true) (ap at_faults.Malformed c.number-then-is_open.ensures) h

pub returns-clause-whole : goal.returns-clause-whole
returns-clause-whole c = λ judge text is h.
    ends-whole judge c.args.head.now c.args.self.now text c.requires.fits is (sym c.is_over.ensures ∙ c.if-not-is_over.false) (c.is_open.ensures.none c.if-is_open.false) h
