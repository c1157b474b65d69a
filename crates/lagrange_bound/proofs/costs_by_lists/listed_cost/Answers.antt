use Rattle.lagrange_bound.proofs.ListedCosts.{needed-place}
use Rattle.lagrange_bound.proofs.costs_by_lists.listed_cost.Goals as goal

pub template_cost-requires-clause-within : goal.template_cost-requires-clause-within
template_cost-requires-clause-within c = λ s inside.
    needed-place c.args.part.now c.as_slice-template-items.result.now c.args.starts.now c.args.least.now s c.loop-template.template-index _ c.as_slice-template-items.ensures c.requires.places
    c.requires.start_each c.loop-template-test.true inside
