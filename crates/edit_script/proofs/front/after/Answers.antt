use Rattle.std.proofs.Common.{None, Some}
use Rattle.std.proofs.lemmas.Bool.Decides.{Decides-eqb}
use Rattle.std.proofs.lemmas.Slice.Eq.{strip_prefix_is}
use Rattle.edit_script.proofs.front.after.Goals as goal

pub returns-in-None : goal.returns-in-None
returns-in-None c = strip_prefix_is Decides-eqb c.args.text.now c.args.word.now None c.in-None.ensures.cases

pub returns-in-Some : goal.returns-in-Some
returns-in-Some c = strip_prefix_is Decides-eqb c.args.text.now c.args.word.now (Some c.in-Some.rest) c.in-Some.ensures.cases
