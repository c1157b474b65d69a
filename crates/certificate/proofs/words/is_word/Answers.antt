use Rattle.std.proofs.Common.{◌∙◌, sym, []}
use Rattle.std.proofs.lemmas.List.{append-nil}
use Rattle.std.proofs.lemmas.Bool.{false≢true}
use Rattle.certificate.proofs.words.is_word.Goals as goal

pub returns-in-None : goal.returns-in-None
returns-in-None c = (λ h. absurd (false≢true h), λ e. absurd (c.in-None.ensures [] (e ∙ sym (append-nil c.args.word.now))))
