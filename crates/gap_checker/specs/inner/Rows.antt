-- The offers of a slot that are shown to a search.
use Rattle.std.specs.Prelude.{◌≡◌, ℕ, suc, ◌+◌, ◌<◌, if◌then◌else◌, List, [], ◌∷◌, ◌++◌, length, map, Option, Some, None, slice_get}
use Rattle.std.specs.Option.{option_map_or}
use Rattle.adv_base.specs.declared.setting.Config.{Config}
use Rattle.adv_base.specs.Configs.{has_candidate}
use Rattle.adv_base.specs.Offers.{Offer, OfferTable}
use Rattle.gap_checker.specs.declared.row.Shown.{Shown}
use Rattle.gap_checker.specs.declared.row.Row.{Row}

abbrev pub offer_of : Shown → Offer
offer_of shown = (shown.order.now, shown.price)

abbrev pub offers_of : List Shown → List Offer
offers_of list = map offer_of list

abbrev pub table_of : List Row → OfferTable
table_of rows s = option_map_or (λ row. offers_of row.shown.items) (slice_get rows s) []

-- what is shown of an offer: the table and an existing index as they are, a candidate that the configuration has with its
-- rent, any other not
abbrev pub shown_of : Config → (ℕ → ℕ) → Option ℕ → Offer → List Offer
shown_of config rent None offer = offer ∷ []
shown_of config rent (Some a) offer = if has_candidate config a then (offer.0, offer.1 + rent a) ∷ [] else []

-- the same of the offers from number i on
abbrev pub shown_from : Config → (ℕ → ℕ) → (ℕ → Option ℕ) → ℕ → List Offer → List Offer
shown_from config rent candidate i [] = []
shown_from config rent candidate i (offer ∷ offers) =
    shown_of config rent (candidate i) offer ++ shown_from config rent candidate (suc i) offers

-- the rows of the slots below n
pub record IsRowsOf (rows : List Row) (n : ℕ) (table : OfferTable) : Type 0 where
  pub count : length rows ≡ n
  pub rows_are : (s : ℕ) → s < n → table_of rows s ≡ table s
