-- Nodes of a search for a configuration: each candidate is in, out or free. Candidates are numbered from 1.
use Rattle.std.specs.Prelude.{◌≡◌, ℕ, zero, suc, Bool, true, false, not, ◌&&◌, ◌||◌, List, [], ◌∷◌}
use Rattle.adv_base.specs.declared.catalogue.Catalogue.{Catalogue}
use Rattle.adv_base.specs.declared.catalogue.index.IndexShape.{IndexShape}
use Rattle.adv_base.specs.declared.limits.TheConstants.{MOST_CANDIDATES}
use Rattle.adv_base.specs.declared.setting.Config.{Config}
use Rattle.adv_base.specs.Configs.{has_candidate, Space, fits_beside, space_of}

-- the candidates that are in, and those that are out
pub record Node : Type 0 where
  pub inside : Config
  pub outside : Config

abbrev pub is_free : Node → ℕ → Bool
is_free node a = not (has_candidate node.inside a) && not (has_candidate node.outside a)

-- a free candidate is open where its pages and those of what is in are within the budget, whether it clashes or not
abbrev pub is_open_in : Space → Node → ℕ → Bool
is_open_in space node a = is_free node a && fits_beside space node.inside a

-- a candidate is available where it is in or open
abbrev pub is_available_in : Space → Node → ℕ → Bool
is_available_in space node a = has_candidate node.inside a || is_open_in space node a

-- the flags of n candidates from a on
unfoldable pub flags_from : (ℕ → Bool) → ℕ → ℕ → List Bool
flags_from has a zero = []
flags_from has a (suc n) = has a ∷ flags_from has (suc a) n

-- the configuration of the candidates that pass a test
unfoldable pub config_of : (ℕ → Bool) → Config
config_of has = record { on = flags_from has 1 MOST_CANDIDATES }

-- the configuration of all candidates that are available at a node
abbrev pub available_in : Space → Node → Config
available_in space node = config_of (is_available_in space node)

-- the same over a catalogue
abbrev pub is_open : Catalogue → List IndexShape → ℕ → Node → ℕ → Bool
is_open cat shapes budget = is_open_in (space_of cat shapes budget)

abbrev pub is_available : Catalogue → List IndexShape → ℕ → Node → ℕ → Bool
is_available cat shapes budget = is_available_in (space_of cat shapes budget)

abbrev pub available : Catalogue → List IndexShape → ℕ → Node → Config
available cat shapes budget = available_in (space_of cat shapes budget)

-- a configuration is below a node where it holds what is in, and nothing that is out
pub record IsBelow (node : Node) (config : Config) : Type 0 where
  pub holds : (a : ℕ) → has_candidate node.inside a ≡ true → has_candidate config a ≡ true
  pub lacks : (a : ℕ) → has_candidate node.outside a ≡ true → has_candidate config a ≡ false
