use Rattle.dba_rules.proofs.BadLines.{others_bad}
use Rattle.dba_rules.proofs.Spelled.{rule_spelled, rule_again}
use Rattle.dba_rules.proofs.laws.lines_are_rules.Goals as goal

pub returns-clause-spelled : goal.returns-clause-spelled
returns-clause-spelled c = λ number line rule. (rule_spelled number line rule, rule_again number line rule)

pub returns-clause-bad : goal.returns-clause-bad
returns-clause-bad c = others_bad
