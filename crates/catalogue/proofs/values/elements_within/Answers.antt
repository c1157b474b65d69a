use Rattle.std.proofs.Common.{arith}
use Rattle.std.proofs.lemmas.Grind.{common_steps}
use Rattle.catalogue.proofs.Lists.{item_count-view}
use Rattle.catalogue.proofs.values.elements_within.Goals as goal

pub returns-then-items-low-clause-exact : goal.returns-then-items-low-clause-exact
returns-then-items-low-clause-exact c =
    let count = item_count-view c.in_ok-items.items.now in
    grind (arith, common_steps)

pub returns-clause-exact : goal.returns-clause-exact
returns-clause-exact c =
    let count = item_count-view c.in_ok-items.items.now in
    grind (arith, common_steps)
