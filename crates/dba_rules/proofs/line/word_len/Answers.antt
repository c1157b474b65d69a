use Rattle.std.proofs.Common.{sym}
use Rattle.std.proofs.lemmas.List.Sums.{prefix_len_is}
use Rattle.dba_rules.specs.Lines.{is_name_byte}
use Rattle.dba_rules.proofs.line.word_len.Goals as goal

pub returns-clause-exact : goal.returns-clause-exact
returns-clause-exact c = sym (prefix_len_is is_name_byte c.args.bytes.now c.word_end.result 0 c.word_end.ensures.within c.word_end.ensures.before c.word_end.ensures.at)
