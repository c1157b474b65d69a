use Rattle.std.proofs.Common.{refl, subst}
use Rattle.programme_parts.specs.Caches.{IsStatementFault}
use Rattle.retune.proofs.caches.cache_for.Goals as goal

pub returns-in-Err-TooManyCombinations-clause-fault : goal.returns-in-Err-TooManyCombinations-clause-fault
returns-in-Err-TooManyCombinations-clause-fault c =
    let arm = c.in-Err-TooManyCombinations in
    (refl, subst (IsStatementFault c.args.cat.now c.args.statement.now) arm.field-0-is arm.ensures.fault)
