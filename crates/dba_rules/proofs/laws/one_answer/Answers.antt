use Rattle.dba_rules.proofs.Unique.{one_fault, fault_or_fits, one_broken, broken_or_below}
use Rattle.dba_rules.proofs.laws.one_answer.Goals as goal

pub returns-clause-faults : goal.returns-clause-faults
returns-clause-faults c = record { one = one_fault; none = fault_or_fits }

pub returns-clause-broken : goal.returns-clause-broken
returns-clause-broken c = record { one = one_broken; none = broken_or_below }
