use Rattle.std.proofs.Common.{sym}
use Rattle.std.specs.Char.{is_ascii_digit}
use Rattle.std.proofs.lemmas.List.Sums.{prefix_len_is}
use Rattle.edit_script.proofs.front.digits_len.Goals as goal

pub returns-clause-exact : goal.returns-clause-exact
returns-clause-exact c = sym (prefix_len_is is_ascii_digit c.args.text.now c.digits_end.result 0 c.digits_end.ensures.within c.digits_end.ensures.before c.digits_end.ensures.at)
