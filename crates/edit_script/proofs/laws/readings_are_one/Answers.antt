use Rattle.edit_script.proofs.Unique.{one_script, one_bad_line, no_bad_line}
use Rattle.edit_script.proofs.laws.readings_are_one.Goals as goal

pub returns-clause-scripts : goal.returns-clause-scripts
returns-clause-scripts c = one_script

pub returns-clause-lines : goal.returns-clause-lines
returns-clause-lines c = one_bad_line

pub returns-clause-none : goal.returns-clause-none
returns-clause-none c = no_bad_line
