use Rattle.std.proofs.Common.{◌∙◌, sym}
use Rattle.std.proofs.lemmas.Bool.{false≢true}
use Rattle.certificate.proofs.NodeLaws.{node-none, node-branch, node-bounded, node-overfull}
use Rattle.certificate.proofs.forms.node_line.Goals as goal

pub returns-then-is_word : goal.returns-then-is_word
returns-then-is_word c = node-overfull c.args.sets c.args.line.now (c.is_word.ensures.0 c.if-is_word.true)

pub returns-in-Some : goal.returns-in-Some
returns-in-Some c = node-branch c.args.sets c.args.line.now c.in-Some.candidate c.in-Some.ensures

pub returns-in-Some-number_line : goal.returns-in-Some-number_line
returns-in-Some-number_line c = node-bounded c.args.sets c.args.line.now c.in-Some-number_line.set c.in-Some-number_line.ensures

pub returns-in-None : goal.returns-in-None
returns-in-None c = node-none c.args.sets c.args.line.now (λ e. false≢true (sym c.if-is_word.false ∙ c.is_word.ensures.1 e)) c.in_default.ensures c.in-None.ensures
