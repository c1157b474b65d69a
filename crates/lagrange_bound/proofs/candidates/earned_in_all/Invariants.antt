use Rattle.std.proofs.Common.{◌≡◌, ◌*◌, ◌≤◌}
use Rattle.plan_model.specs.Exchange.{sum_below}
use Rattle.bip_model.specs.Views as views
use Rattle.lagrange_bound.specs.Bounds as bounds
use Rattle.lagrange_bound.specs.inner.Limits.{MOST_RENTS}
use Rattle.lagrange_bound.proofs.candidates.earned_in_all.Given as goal

abbrev pub invariant-loop-a : goal.invariant-loop-a
invariant-loop-a l =
    record {
      sum : l.sum ≡ sum_below
          (λ i. bounds.earned (views.state_at l.fix i) (bounds.fits_at l.programme l.budget l.fix i) (bounds.candidate_cost l.programme l.multipliers.mu i)
          (bounds.candidate_rents l.programme l.multipliers.lambda i)) l.a;
      most : l.sum ≤ l.a * (65536 * MOST_RENTS);
    }
