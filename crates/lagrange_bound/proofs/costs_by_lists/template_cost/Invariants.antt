use Rattle.std.proofs.Common.{◌≡◌, ◌+◌, ◌*◌, ◌^◌, ◌≤◌}
use Rattle.std.specs.Prelude.{Some}
use Rattle.plan_model.specs.declared.plan.TheConstants.{MOST_COST}
use Rattle.bip_model.specs.Words as words
use Rattle.lagrange_bound.specs.inner.CostsByLists as listed
use Rattle.lagrange_bound.proofs.costs_by_lists.template_cost.Given as goal

abbrev pub invariant-loop-s : goal.invariant-loop-s
invariant-loop-s l =
    record {
      sum : words.row_cost (listed.tails l.least l.starts) l.template l.s ≡ Some l.cost;
      most : l.cost ≤ MOST_COST + l.s * 2 ^ 64;
    }
