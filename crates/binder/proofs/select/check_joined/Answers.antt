use Rattle.std.proofs.Common.{◌≡◌, length}
use Rattle.binder.proofs.select.check_joined.Goals as goal

pub is_joined-requires-clause-lefts : goal.is_joined-requires-clause-lefts
is_joined-requires-clause-lefts c =
    let same : c.as_slice.result.now ≡ c.args.clauses.now.tests.edges = c.as_slice.ensures in
    let count : c.len-count.result ≡ length c.args.scope.now.sources = c.len-count.ensures in
    rw (same, count) c.requires.lefts

pub is_joined-requires-clause-rights : goal.is_joined-requires-clause-rights
is_joined-requires-clause-rights c =
    let same : c.as_slice.result.now ≡ c.args.clauses.now.tests.edges = c.as_slice.ensures in
    let count : c.len-count.result ≡ length c.args.scope.now.sources = c.len-count.ensures in
    rw (same, count) c.requires.rights
