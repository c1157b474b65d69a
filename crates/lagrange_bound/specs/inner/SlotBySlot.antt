-- The lists of the prices of slots, as they are made one slot after the other.
use Rattle.std.specs.Prelude.{ℕ, ◌+◌, ◌-◌, if◌then◌else◌, List, [], ◌∷◌, ◌++◌, fold, length, map, nat_lt, Option}
use Rattle.bip_model.specs.declared.grant.Grant.{Grant}
use Rattle.bip_model.specs.declared.slot_part.SlotPart.{SlotPart}
use Rattle.bip_model.specs.declared.part.Part.{Part}
use Rattle.bip_model.specs.Words.{word}
use Rattle.lagrange_bound.specs.declared.price_lists.CheaperPrice.{CheaperPrice}
use Rattle.lagrange_bound.specs.declared.price_lists.PriceLists.{PriceLists}

-- the four lists as they stand
pub record Lists : Type 0 where
  pub starts : List ℕ
  pub bases : List ℕ
  pub owners : List ℕ
  pub prices : List CheaperPrice

abbrev pub lists_of : PriceLists → Lists
lists_of made = record { starts = made.starts.items; bases = made.bases.items; owners = made.owners.items; prices = made.list.items }

abbrev pub no_lists : Lists
no_lists = record { starts = []; bases = []; owners = []; prices = [] }

-- a grant's price of a place, where it is below what exists
abbrev pub if_cheaper : ℕ → ℕ → ℕ → ℕ → List CheaperPrice
if_cheaper price base place grant = if nat_lt price base then record { price = price; place = place; grant = grant } ∷ [] else []

-- those of a grant, from the place of the first order on
abbrev pub grant_prices : List (Option ℕ) → List (Option ℕ) → ℕ → ℕ → List CheaperPrice
grant_prices [] base place grant = []
grant_prices (price ∷ prices) [] place grant = []
grant_prices (price ∷ prices) (other ∷ base) place grant = if_cheaper (word price) (word other) place grant ++ grant_prices prices base (place + 1) grant

-- those of grants, from the number of the first on
abbrev pub slot_prices : List (Option ℕ) → List Grant → ℕ → ℕ → List CheaperPrice
slot_prices base [] place first = []
slot_prices base (grant ∷ grants) place first = grant_prices grant.prices base place first ++ slot_prices base grants place (first + 1)

-- the place of a grant's candidate in a configuration
abbrev pub owner : Grant → ℕ
owner grant = grant.candidate - 1

-- the lists with those of a slot, and of the slots of a part, behind them
abbrev pub with_slot : Lists → SlotPart → Lists
with_slot lists slot =
    record {
      starts = lists.starts ++ length lists.bases ∷ [];
      bases = lists.bases ++ map word slot.base;
      owners = lists.owners ++ map owner slot.grants;
      prices = lists.prices ++ slot_prices slot.base slot.grants (length lists.bases) (length lists.owners);
    }

abbrev pub with_part : Lists → Part → Lists
with_part lists part = fold with_slot lists part.slots
