-- The steps from one configuration to the next.
use Rattle.std.specs.Prelude.{◌≡◌, ℕ, List, ◌+◌, ◌*◌, ◌<◌, ◌≤◌, Bool, true, false, not, ◌&&◌, ◌||◌, nat_lt, length, count_by, take, Option, Some, None, slice_index_or, slice_set}
use Rattle.adv_base.specs.declared.catalogue.index.IndexShape.{IndexShape}
use Rattle.adv_base.specs.declared.setting.Config.{Config}
use Rattle.adv_base.specs.Configs.{IsApart}
use Rattle.bip_model.specs.declared.fix.Fix.{Fix}
use Rattle.bip_model.specs.declared.fix.State.{State}
use Rattle.bip_model.specs.declared.fix.State.TheVariants.{Free, In, Out}
use Rattle.bip_model.specs.declared.programme.Programme.{Programme}
use Rattle.bip_model.specs.Values.{value}
use Rattle.bip_model.specs.Views.{state_at}
use Rattle.branch_bound.specs.declared.climb.Costed.{Costed}
use Rattle.branch_bound.specs.Sides.{pages}

-- a configuration has the candidate of an index
abbrev pub flag_at : Config → ℕ → Bool
flag_at config i = slice_index_or config.on i false

abbrev pub changed : Config → ℕ → Bool → Config
changed config i flag = record { on = slice_set config.on i flag }

-- a configuration fits: its pages are within the budget, and no two of its candidates are clustered on one table
pub record IsFitting (programme : Programme) (shapes : List IndexShape) (budget : ℕ) (config : Config) : Type 0 where
  pub space : pages programme config ≤ budget
  pub apart : IsApart shapes config

-- it fits, obeys the root, and has this cost
pub record IsSound (programme : Programme) (shapes : List IndexShape) (budget : ℕ) (root : Fix) (config : Config) (cost : ℕ) : Type 0 where
  pub cost_is : cost ≡ value programme config
  pub fits : IsFitting programme shapes budget config
  pub holds : (i : ℕ) → state_at root i ≡ In → flag_at config i ≡ true
  pub lacks : (i : ℕ) → state_at root i ≡ Out → flag_at config i ≡ false
  pub past : (i : ℕ) → length programme.sizes ≤ i → flag_at config i ≡ false

abbrev pub IsSoundHere : Programme → List IndexShape → ℕ → Fix → Costed → Type 0
IsSoundHere programme shapes budget root costed = IsSound programme shapes budget root costed.config costed.cost

-- a flag is as the root's state wants it; it isn't on where it is no candidate's
abbrev pub agrees : State → Bool → Bool → Bool
agrees In on known = on && known
agrees Out on known = not on
agrees Free on known = not on || known

-- so are the first n flags, of which so many are candidates'
abbrev pub ObeysBelow : List State → List Bool → ℕ → ℕ → Type 0
ObeysBelow states flags count n = (i : ℕ) → i < n → agrees (slice_index_or states i Free) (slice_index_or flags i false) (nat_lt i count) ≡ true

-- to change what it makes of one candidate gains nothing
pub record GainsNothing (programme : Programme) (shapes : List IndexShape) (budget : ℕ) (root : Fix) (config : Config) (cost i : ℕ) : Type 0 where
  pub more : state_at root i ≡ Free → flag_at config i ≡ false → IsFitting programme shapes budget (changed config i true) → cost ≤ value programme (changed config i true)
  pub less : state_at root i ≡ Free → flag_at config i ≡ true → cost < value programme (changed config i false)

abbrev pub IsTop : Programme → List IndexShape → ℕ → Fix → Config → ℕ → Type 0
IsTop programme shapes budget root config cost = (i : ℕ) → i < length programme.sizes → GainsNothing programme shapes budget root config cost i

abbrev pub IsTopBelow : Programme → List IndexShape → ℕ → Fix → Costed → ℕ → Type 0
IsTopBelow programme shapes budget root costed n = (i : ℕ) → i < n → GainsNothing programme shapes budget root costed.config costed.cost i

-- what falls at each step: first the cost, then the number of candidates
abbrev pub height : Programme → Costed → ℕ
height programme costed = 257 * costed.cost + count_by (λ flag. flag) (take (length programme.sizes) costed.config.on)

-- a sound configuration that is lower
pub record IsLower (programme : Programme) (shapes : List IndexShape) (budget : ℕ) (root : Fix) (from to : Costed) : Type 0 where
  pub sound : IsSoundHere programme shapes budget root to
  pub cheaper : to.cost ≤ from.cost
  pub falls : height programme to < height programme from

-- the outcome of trying candidate i: a lower configuration, or nothing is gained
abbrev pub IsTrial : Programme → List IndexShape → ℕ → Fix → Costed → ℕ → Option Costed → Type 0
IsTrial programme shapes budget root from i None = GainsNothing programme shapes budget root from.config from.cost i
IsTrial programme shapes budget root from i (Some to) = IsLower programme shapes budget root from to

-- and that of trying all below n
abbrev pub AreTrials : Programme → List IndexShape → ℕ → Fix → Costed → ℕ → Option Costed → Type 0
AreTrials programme shapes budget root from n None = IsTopBelow programme shapes budget root from n
AreTrials programme shapes budget root from n (Some to) = IsLower programme shapes budget root from to

abbrev pub IsRemoved : Programme → Costed → ℕ → Option Costed → Type 0
IsRemoved programme from i None = from.cost < value programme (changed from.config i false)
IsRemoved programme from i (Some to) = (to.config ≡ changed from.config i false) × (to.cost ≡ value programme (changed from.config i false)) × (to.cost ≤ from.cost)

abbrev pub IsAdded : Programme → List IndexShape → ℕ → Costed → ℕ → Option Costed → Type 0
IsAdded programme shapes budget from i None = IsFitting programme shapes budget (changed from.config i true) → from.cost ≤ value programme (changed from.config i true)
IsAdded programme shapes budget from i (Some to) =
    (to.config ≡ changed from.config i true) × (to.cost ≡ value programme (changed from.config i true)) × IsFitting programme shapes budget (changed from.config i true) × (to.cost < from.cost)
