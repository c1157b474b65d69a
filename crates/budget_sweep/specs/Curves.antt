-- What a sweep over space budgets answers: the cost of a workload as a curve over the budget, with a bound at each point.
use Rattle.std.specs.Prelude.{◌≡◌, ℕ, ◌+◌, ◌*◌, ◌≤◌, List, length, map, Some, slice_get, ℤ, ◌≤ℤ◌}
use Rattle.adv_base.specs.declared.catalogue.index.IndexShape.{IndexShape}
use Rattle.adv_base.specs.Settings.{TheSetting, KeepsLimits}
use Rattle.bip_model.specs.declared.answer.Answer.{Answer}
use Rattle.bip_model.specs.declared.point.Point.{Point}
use Rattle.bip_model.specs.declared.programme.Programme.{Programme}
use Rattle.bip_model.specs.Best.{IsBest}
use Rattle.bip_model.specs.Proves.{free_node}
use Rattle.bip_model.specs.StandsFor.{StandsFor}

-- the least cost of this answer, number i, and all earlier ones
pub record IsLeastCost (answers : List Answer) (i cost : ℕ) : Type 0 where
  pub number : ℕ
  pub answer : Answer
  pub early : number ≤ i
  pub found : slice_get answers number ≡ Some answer
  pub cost_is : answer.cost ≡ cost
  pub least : (k : ℕ) (other : Answer) → k ≤ i → slice_get answers k ≡ Some other → cost ≤ other.cost

-- the greatest bound of this answer, number i, and all later ones
pub record IsGreatestBound (answers : List Answer) (i : ℕ) (bound : ℤ) : Type 0 where
  pub number : ℕ
  pub answer : Answer
  pub late : i ≤ number
  pub found : slice_get answers number ≡ Some answer
  pub bound_is : answer.bound ≡ bound
  pub greatest : (k : ℕ) (other : Answer) → i ≤ k → slice_get answers k ≡ Some other → other.bound ≤ℤ bound

abbrev pub answers_of : List Point → List Answer
answers_of points = map (λ point. point.answer) points

-- Point number i of a curve, from 0: its budget lies i steps above the first, its answer is a best one for it, of a search
-- from the root that leaves each candidate free; `best` and `low` are of all answers of the curve.
pub record IsPoint (setting : TheSetting) (first step nodes : ℕ) (answers : List Answer) (i : ℕ) (point : Point) : Type 0 where
  pub budget_is : point.budget ≡ first + step * i
  pub answer_is : IsBest setting point.budget nodes free_node point.answer
  pub best_is : IsLeastCost answers i point.best
  pub low_is : IsGreatestBound answers i point.low

-- so many points of a setting, each with so many nodes
pub record IsCurve (setting : TheSetting) (first step count nodes : ℕ) (points : List Point) : Type 0 where
  pub counted : length points ≡ count
  pub each : (i : ℕ) (point : Point) → slice_get points i ≡ Some point → IsPoint setting first step nodes (answers_of points) i point

-- the same for each setting for which a programme stands and whose candidates these are
abbrev pub IsCurveForEach : Programme → List IndexShape → ℕ → ℕ → ℕ → ℕ → List Point → Type 0
IsCurveForEach programme shapes first step count nodes points =
    (setting : TheSetting) → KeepsLimits setting → StandsFor setting programme → setting.shapes ≡ shapes → IsCurve setting first step count nodes points
