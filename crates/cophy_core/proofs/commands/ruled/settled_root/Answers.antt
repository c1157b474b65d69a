use Rattle.std.proofs.Common.{inr}
use Rattle.cophy_core.proofs.commands.ruled.settled_root.Goals as goal

pub returns-in-Err-clause-fault : goal.returns-in-Err-clause-fault
returns-in-Err-clause-fault c = λ apart. record {
  no_memory = apart;
  first = inr (record { root = c.in_ok-root.root; root_is = c.in_ok-root.ensures.exact; fault_is = c.in-Err.ensures.fault });
}

pub returns-in-Ok-clause-root : goal.returns-in-Ok-clause-root
returns-in-Ok-clause-root c = record { root_is = c.in_ok-root.ensures.exact; fits = c.in-Ok.ensures.fits }
