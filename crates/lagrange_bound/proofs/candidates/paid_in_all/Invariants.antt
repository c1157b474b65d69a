use Rattle.std.proofs.Common.{◌≡◌, ◌*◌, ◌≤◌}
use Rattle.plan_model.specs.Exchange.{sum_below}
use Rattle.bip_model.specs.Views as views
use Rattle.lagrange_bound.specs.Bounds as bounds
use Rattle.lagrange_bound.specs.inner.Limits.{MOST_CANDIDATE_COST}
use Rattle.lagrange_bound.proofs.candidates.paid_in_all.Given as goal

abbrev pub invariant-loop-a : goal.invariant-loop-a
invariant-loop-a l =
    record {
      sum : l.sum ≡ sum_below (λ i. bounds.paid (views.state_at l.fix i) (bounds.candidate_cost l.programme l.multipliers.mu i)) l.a;
      most : l.sum ≤ l.a * MOST_CANDIDATE_COST;
    }
