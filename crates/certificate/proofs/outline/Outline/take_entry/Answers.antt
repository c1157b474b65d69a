use Rattle.std.proofs.Common.{◌∙◌, sym}
use Rattle.std.proofs.lemmas.Bool.{false≢true}
use Rattle.certificate.specs.inner.Outlines.{with_tree}
use Rattle.certificate.proofs.Taken.{body-entry, no-entry}
use Rattle.certificate.proofs.outline.Outline.take_entry.Goals as goal

pub returns-then-not-entry_fits : goal.returns-then-not-entry_fits
returns-then-not-entry_fits c = λ tree f step.
    no-entry c.args.self.now.entries_left c.args.self.now.sets_left (with_tree c.args.self.now tree) f c.args.line.now c.in-Some.entry c.requires.more c.in-Some.ensures.0 c.in-Some.ensures.1
    (λ low high. false≢true (sym c.if-not-entry_fits.true ∙ c.entry_fits.ensures.1 (low, high))) step

pub returns : goal.returns
returns c = λ tree.
    let fits = c.entry_fits.ensures.0 c.if-not-entry_fits.false in
    body-entry c.args.self.now.entries_left c.args.self.now.sets_left (with_tree c.args.self.now tree) _ c.args.line.now c.in-Some.entry _ c.entry_place.result c.entry_place.ensures c.requires.more c.in-Some.ensures.0 c.in-Some.ensures.1
    fits.0 fits.1 c.in_ok-put_entry.ensures (c.in_ok-close.ensures tree)
