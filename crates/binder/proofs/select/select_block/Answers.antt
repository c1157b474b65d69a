use Rattle.std.proofs.Common.{refl}
use Rattle.binder.proofs.Limited.{clause-edges}
use Rattle.binder.proofs.select.select_block.Goals as goal

pub check_joined-requires-clause-lefts : goal.check_joined-requires-clause-lefts
check_joined-requires-clause-lefts c =
    let tests = c.in_ok-clauses.clauses.tests in
    (clause-edges _ _ _ tests.preds tests.edges c.in_ok-clauses.ensures (record { preds_are = refl; edges_are = refl })).0

pub check_joined-requires-clause-rights : goal.check_joined-requires-clause-rights
check_joined-requires-clause-rights c =
    let tests = c.in_ok-clauses.clauses.tests in
    (clause-edges _ _ _ tests.preds tests.edges c.in_ok-clauses.ensures (record { preds_are = refl; edges_are = refl })).1
