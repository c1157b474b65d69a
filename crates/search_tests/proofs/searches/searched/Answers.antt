use Rattle.branch_bound.proofs.Roots.{root-starts}
use Rattle.search_tests.proofs.searches.searched.Goals as goal

-- every candidate is free at the root
pub search-requires-clause-root : goal.search-requires-clause-root
search-requires-clause-root g c =
    root-starts c.args.problem.now.programme.now c.as_slice.result.now c.args.problem.now.budget c.free-root.result c.free-root.ensures.states
