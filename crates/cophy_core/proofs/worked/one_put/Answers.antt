use Rattle.std.proofs.Common.{ap}
use Rattle.cophy_core.specs.Endings.{plain_puts}
use Rattle.cophy_core.proofs.worked.one_put.Goals as goal

pub returns : goal.returns
returns c = rw (← c.in_ok-name.ensures.ok) (ap plain_puts c.in_ok-puts.ensures)
