use Rattle.std.proofs.Common.{length}
use Rattle.sql_reader.proofs.words.+look_up.Given as goal

abbrev pub decreases-look_up : goal.decreases-look_up
decreases-look_up l = length l.table.now
