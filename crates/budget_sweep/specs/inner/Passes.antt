-- How a sweep stands while it runs: the answers from the last budget to the first; then the points, forward and back.
use Rattle.std.specs.Prelude.{◌≡◌, ℕ, ◌+◌, ◌-◌, ◌*◌, ◌≤◌, List, [], ◌∷◌, ◌++◌, length, Some, slice_get, ℤ, pos}
use Rattle.adv_base.specs.declared.catalogue.index.IndexShape.{IndexShape}
use Rattle.adv_base.specs.Settings.{TheSetting, KeepsLimits}
use Rattle.bip_model.specs.declared.answer.Answer.{Answer}
use Rattle.bip_model.specs.declared.point.Point.{Point}
use Rattle.bip_model.specs.declared.programme.Programme.{Programme}
use Rattle.bip_model.specs.Best.{IsBest}
use Rattle.bip_model.specs.Proves.{free_node}
use Rattle.bip_model.specs.StandsFor.{StandsFor}
use Rattle.budget_sweep.specs.Curves.{IsLeastCost, IsGreatestBound, answers_of}

-- an answer is a best one of each setting for which the programme stands and whose candidates these are, from the root
-- that leaves each candidate free
abbrev pub IsFreeBest : Programme → List IndexShape → ℕ → ℕ → Answer → Type 0
IsFreeBest programme shapes budget nodes answer =
    (setting : TheSetting) → KeepsLimits setting → StandsFor setting programme → setting.shapes ≡ shapes → IsBest setting budget nodes free_node answer

-- such answers, number 0 that of the last of the budgets
abbrev pub AreBackward : Programme → List IndexShape → ℕ → ℕ → ℕ → ℕ → List Answer → Type 0
AreBackward programme shapes first step count nodes answers =
    (k : ℕ) (answer : Answer) → slice_get answers k ≡ Some answer → IsFreeBest programme shapes (first + step * (count - 1 - k)) nodes answer

-- a point has its budget, and such an answer
pub record IsAnswered (programme : Programme) (shapes : List IndexShape) (first step nodes i : ℕ) (point : Point) : Type 0 where
  pub budget_is : point.budget ≡ first + step * i
  pub answer_is : IsFreeBest programme shapes point.budget nodes point.answer

abbrev pub AreAnswered : Programme → List IndexShape → ℕ → ℕ → ℕ → List Point → Type 0
AreAnswered programme shapes first step nodes points =
    (i : ℕ) (point : Point) → slice_get points i ≡ Some point → IsAnswered programme shapes first step nodes i point

-- each point has the least cost of its answer and all earlier ones
abbrev pub AreLeast : List Point → Type 0
AreLeast points = (i : ℕ) (point : Point) → slice_get points i ≡ Some point → IsLeastCost (answers_of points) i point.best

-- each point from number i on has the greatest bound of its answer and all later ones
abbrev pub AreGreatest : List Point → ℕ → Type 0
AreGreatest points i = (k : ℕ) (point : Point) → i ≤ k → slice_get points k ≡ Some point → IsGreatestBound (answers_of points) k point.low

-- a point with another bound
abbrev pub with_low : Point → ℤ → Point
with_low point low = record { budget = point.budget; answer = point.answer; best = point.best; low = low }

-- a point but for its bound
abbrev pub bare : Point → Point
bare point = with_low point (pos 0)

-- a point behind some has the least cost of its answer and theirs
abbrev pub IsNextLeast : List Point → Point → Type 0
IsNextLeast points point = IsLeastCost (answers_of points ++ point.answer ∷ []) (length points) point.best
