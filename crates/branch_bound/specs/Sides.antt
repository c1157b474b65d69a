-- Nodes of a search and configurations, as a programme sees them.
use Rattle.std.specs.Prelude.{◌≡◌, ℕ, ◌≤◌, Bool, true, false, List, length, slice_set}
use Rattle.adv_base.specs.declared.catalogue.index.IndexShape.{IndexShape}
use Rattle.adv_base.specs.declared.setting.Config.{Config}
use Rattle.adv_base.specs.Configs.{pages_in, IsApart}
use Rattle.bip_model.specs.declared.fix.Fix.{Fix}
use Rattle.bip_model.specs.declared.fix.State.{State}
use Rattle.bip_model.specs.declared.fix.State.TheVariants.{Free}
use Rattle.bip_model.specs.declared.programme.Programme.{Programme}
use Rattle.bip_model.specs.Values.{value}
use Rattle.bip_model.specs.Views.{node_of, state_at}

abbrev pub is_free_state : State → Bool
is_free_state Free = true
is_free_state state = false

-- a node with one candidate more fixed
abbrev pub fixed : Fix → ℕ → State → Fix
fixed fix i state = record { state = slice_set fix.state i state }

-- the candidates that are in
abbrev pub inside : Fix → Config
inside fix = (node_of fix).inside

-- the pages of a configuration
abbrev pub pages : Programme → Config → ℕ
pages programme config = pages_in programme.sizes config

-- what is in at a node costs this
abbrev pub total : Programme → Fix → ℕ
total programme fix = value programme (inside fix)

-- from a root a search can start: its in-candidates fit, and it leaves free all flags past the candidates
pub record IsRoot (programme : Programme) (shapes : List IndexShape) (budget : ℕ) (root : Fix) : Type 0 where
  pub fits : pages programme (inside root) ≤ budget
  pub apart : IsApart shapes (inside root)
  pub past : (i : ℕ) → length programme.sizes ≤ i → state_at root i ≡ Free
