-- A root that leaves each candidate free, and what a best answer from it bounds.
use Rattle.std.proofs.Common.{ℕ, ℤ, pos, negsuc, ◌<◌, arith}
use Rattle.std.specs.Prelude.{◌≤ℤ◌}
use Rattle.std.proofs.lemmas.Int.{ints}
use Rattle.adv_base.specs.declared.setting.Config.{Config}
use Rattle.adv_base.specs.Nodes as nodes
use Rattle.adv_base.specs.Settings.{TheSetting, KeepsLimits}
use Rattle.adv_base.proofs.OfferBounds.{offers-limits}
use Rattle.bip_model.specs.declared.answer.Answer.{Answer}
use Rattle.bip_model.specs.Best.{IsBest}
use Rattle.bip_model.specs.Proves.{free_node}
use Rattle.bip_model.proofs.Showing.{below-free}
use Rattle.plan_model.specs.declared.plan.TheConstants.{MOST_TOTAL}
use Rattle.plan_model.specs.Lagrangian.{IsAtMost}
use Rattle.plan_model.specs.Totals.{IsTotal}
use Rattle.plan_model.proofs.TotalBound.{total-below}
use Rattle.report.specs.Texts.{IsBoundedBy}
use Rattle.report.specs.declared.done.Advice.{Advice}
use Rattle.cophy_core.specs.commands.Advise.{IsAdvice, IsAdviceFrom}

-- ## The answer

-- a total is within its limit
pub total_small : (setting : TheSetting) (config : Config) (total : ℕ) → KeepsLimits setting → IsTotal setting.cat setting.shapes config setting.statements total → total < MOST_TOTAL
total_small setting config total limits is =
    total-below setting.cat setting.shapes config setting.statements total limits.shapes_most limits.statements_most
    (λ k d h block is. offers-limits setting.cat block setting.shapes config) is

-- its cost is one, and its bound is at most that
pub is_bounded : (setting : TheSetting) (budget count : ℕ) (root : nodes.Node) (answer : Answer) → KeepsLimits setting → IsBest setting budget count root answer → IsBoundedBy answer.cost answer.bound
is_bounded setting budget count root answer limits best = record {
  small = total_small setting answer.config answer.cost limits best.proves.cost_is;
  most = best.bound_most;
}

-- a bound that is at most a cost
pub at_most : (bound : ℤ) (cost : ℕ) → bound ≤ℤ pos cost → IsAtMost bound cost
at_most (pos n) cost h = omega (arith, ints, h)
at_most (negsuc n) cost h = tt

-- every configuration is below the root that leaves each candidate free
pub from_free : (budget nodes : ℕ) (setting : TheSetting) (advice : Advice) → IsAdviceFrom free_node budget nodes setting advice → IsAdvice budget nodes setting advice
from_free budget nodes setting advice is = record {
  budget_is = is.budget_is;
  nodes_is = is.nodes_is;
  left_over_is = is.left_over_is;
  few = is.few;
  flags = is.flags;
  best = is.best;
  bounds = record {
    all = λ other total members fits total_is. is.bounds other total members fits (below-free other) total_is;
    own = at_most advice.answer.bound advice.answer.cost is.best.bound_most;
  };
}
