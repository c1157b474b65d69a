use Rattle.std.proofs.Common.{◌∙◌}
use Rattle.sql_reader.proofs.Ahead.{at_front}
use Rattle.sql_reader.proofs.cursor.Cursor.at_front.Goals as goal

pub new-requires-2-clause-few : goal.new-requires-2-clause-few
new-requires-2-clause-few c = rw (c.new.ensures.text, c.new.ensures.at, at_front c.args.text.now) c.requires.few

pub returns : goal.returns
returns c = c.new-2.ensures ∙ rw (c.new.ensures.text, c.new.ensures.at) (at_front c.args.text.now)
