use Rattle.std.proofs.Common.{◌∙◌, sym, refl}
use Rattle.std.proofs.lemmas.Bool.{false≢true}
use Rattle.certificate.specs.Texts.{end_line}
use Rattle.certificate.proofs.outline.Outline.take_end.Goals as goal

pub returns-then-not-is_word : goal.returns-then-not-is_word
unfolding end_line
returns-then-not-is_word c = λ tree f h. false≢true (sym c.if-not-is_word.true ∙ c.is_word.ensures.1 h.0)

pub returns : goal.returns
unfolding end_line
returns c = λ tree. (c.is_word.ensures.0 c.if-not-is_word.false, refl)
