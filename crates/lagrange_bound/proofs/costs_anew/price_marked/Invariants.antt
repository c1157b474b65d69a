use Rattle.lagrange_bound.specs.inner.CostsAnew.{ArePriced}
use Rattle.lagrange_bound.proofs.costs_anew.price_marked.Given as goal

abbrev pub invariant-loop-place : goal.invariant-loop-place
invariant-loop-place l = ArePriced l.task l.place l.sum l.costs
