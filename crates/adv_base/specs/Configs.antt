-- Configurations as sets of candidates, the space that they take, and which of them clash.
use Rattle.std.specs.Prelude.{◌≡◌, ℕ, ◌<◌, ◌≤◌, ◌==◌, ◌+◌, ◌-◌, nat_le, Bool, true, false, not, ◌&&◌, List, [], ◌∷◌, length, map, sum, slice_get, slice_index_or, Some}
use Rattle.std.specs.Option.{option_map_or}
use Rattle.adv_base.specs.declared.catalogue.Catalogue.{Catalogue}
use Rattle.adv_base.specs.declared.catalogue.index.IndexShape.{IndexShape}
use Rattle.adv_base.specs.declared.setting.Config.{Config}
use Rattle.adv_base.specs.Sizes.{shape_pages}

-- the things whose flag is on, in order
abbrev pub chosen : {X : Type 0} → List Bool → List X → List X
chosen [] xs = []
chosen (flag ∷ flags) [] = []
chosen (true ∷ flags) (x ∷ xs) = x ∷ chosen flags xs
chosen (false ∷ flags) (x ∷ xs) = chosen flags xs

-- each flag that is on stands for a candidate
abbrev pub IsConfigOf : List IndexShape → Config → Type 0
IsConfigOf shapes config = (a : ℕ) → slice_get config.on a ≡ Some true → a < length shapes

-- a configuration has the candidate of a number, counted from 1
abbrev pub has_candidate : Config → ℕ → Bool
has_candidate config a = not (a == 0) && slice_index_or config.on (a - 1) false

-- the candidates of a configuration
abbrev pub candidates_in : List IndexShape → Config → List IndexShape
candidates_in shapes config = chosen config.on shapes

-- ## Space

-- the space of candidates: the pages of each, and a budget of pages
pub record Space : Type 0 where
  pub sizes : List ℕ
  pub budget : ℕ

-- the pages of a configuration, by the pages of each candidate
abbrev pub pages_in : List ℕ → Config → ℕ
pages_in sizes config = sum (chosen config.on sizes)

-- the pages of one candidate, by its number from 1; 0 where there is none
abbrev pub size_in : List ℕ → ℕ → ℕ
size_in sizes a = slice_index_or sizes (a - 1) 0

-- its pages are within the budget
abbrev pub HasSpace : Space → Config → Type 0
HasSpace space config = pages_in space.sizes config ≤ space.budget

-- so are they with a candidate more, which the configuration hasn't
abbrev pub fits_beside : Space → Config → ℕ → Bool
fits_beside space config a = nat_le (pages_in space.sizes config + size_in space.sizes a) space.budget

-- ## The same over a catalogue, whose candidates are index shapes

abbrev pub shape_sizes : Catalogue → List IndexShape → List ℕ
shape_sizes cat shapes = map (shape_pages cat) shapes

abbrev pub space_of : Catalogue → List IndexShape → ℕ → Space
space_of cat shapes budget = record { sizes = shape_sizes cat shapes; budget = budget }

abbrev pub config_pages : Catalogue → List IndexShape → Config → ℕ
config_pages cat shapes config = pages_in (shape_sizes cat shapes) config

abbrev pub candidate_pages : Catalogue → List IndexShape → ℕ → ℕ
candidate_pages cat shapes a = size_in (shape_sizes cat shapes) a

-- ## Clashes

-- two indexes are clustered on one table
abbrev pub are_clashing : IndexShape → IndexShape → Bool
are_clashing one other = one.clustered && other.clustered && (one.table == other.table)

-- the candidates of two numbers are so
abbrev pub is_clash : List IndexShape → ℕ → ℕ → Bool
is_clash shapes a b =
    option_map_or (λ one. option_map_or (are_clashing one) (slice_get shapes (b - 1)) false) (slice_get shapes (a - 1)) false

-- and a configuration has both
abbrev pub clashes : List IndexShape → Config → ℕ → ℕ → Bool
clashes shapes config a b = has_candidate config a && has_candidate config b && is_clash shapes a b

-- two members of a configuration clash, the lesser first
pub record Clashes (shapes : List IndexShape) (config : Config) (first second : ℕ) : Type 0 where
  pub ordered : first < second
  pub clash : clashes shapes config first second ≡ true

-- no two are
abbrev pub IsApart : List IndexShape → Config → Type 0
IsApart shapes config = (a b : ℕ) → ¬ (Clashes shapes config a b)

-- the second is the least that clashes with a lesser one, which is the first
pub record IsFirstClash (shapes : List IndexShape) (config : Config) (first second : ℕ) : Type 0 where
  pub is : Clashes shapes config first second
  pub least : (a b : ℕ) → Clashes shapes config a b → second ≤ b

-- ## What fits

-- a configuration fits a budget: its pages are within it, and no two of its candidates are clustered on one table
pub record Fits (cat : Catalogue) (shapes : List IndexShape) (config : Config) (budget : ℕ) : Type 0 where
  pub pages : config_pages cat shapes config ≤ budget
  pub apart : IsApart shapes config
