-- Plan costs and rents by lists that go over all slots of a programme.
use Rattle.std.specs.Prelude.{◌≡◌, ℕ, ◌+◌, ◌<◌, ◌≤◌, ◌==◌, false, min, if◌then◌else◌, List, [], ◌∷◌, Some, length, map, drop, take, unwrap_or, slice_get, slice_index_or}
use Rattle.adv_base.specs.declared.setting.Config.{Config}
use Rattle.bip_model.specs.declared.grant.Grant.{Grant}
use Rattle.bip_model.specs.declared.part.Part.{Part}
use Rattle.bip_model.specs.declared.slot_part.SlotPart.{SlotPart}
use Rattle.bip_model.specs.Words.{word, row_least}
use Rattle.lagrange_bound.specs.Rented.{rented_price, grants_before}
use Rattle.lagrange_bound.specs.declared.price_lists.CheaperPrice.{CheaperPrice}

-- the lesser of a price and a grant's with its rent, where the grant's candidate may be used
abbrev pub lowered : Config → List ℕ → List ℕ → CheaperPrice → ℕ → ℕ
lowered config owners rents cheaper least =
    if slice_index_or config.on (slice_index_or owners cheaper.grant 0) false then min least (cheaper.price + slice_index_or rents cheaper.grant 0) else least

-- the least of a price at a place and of those of a list that are at that place
abbrev pub least_at : Config → List ℕ → List ℕ → ℕ → ℕ → List CheaperPrice → ℕ
least_at config owners rents place least [] = least
least_at config owners rents place least (cheaper ∷ list) =
    least_at config owners rents place (if cheaper.place == place then lowered config owners rents cheaper least else least) list

-- what stands from each of some places on
abbrev pub tails : List ℕ → List ℕ → List (List ℕ)
tails least starts = map (λ at. drop at least) starts

-- each order of slots, of which the first begin at these places, has its least price where it stands
abbrev pub AreLeast : Config → List SlotPart → List ℕ → List ℕ → List ℕ → Type 0
AreLeast config slots rents starts least =
    (k o : ℕ) (slot : SlotPart) → slice_get slots k ≡ Some slot → o < length slot.base →
    slice_index_or least (slice_index_or starts k 0 + o) 0 ≡ word (rented_price config slot (drop (grants_before slots k) rents) o)

-- there is a place for each order of slots
abbrev pub HavePlaces : List SlotPart → List ℕ → List ℕ → Type 0
HavePlaces slots starts least = (k : ℕ) (slot : SlotPart) → slice_get slots k ≡ Some slot → slice_index_or starts k 0 + length slot.base ≤ length least

-- the least cost of a part's templates by the least prices of its slots' orders, and 0 where there is none
unfoldable pub listed_cost : Part → List ℕ → List ℕ → ℕ
listed_cost part starts least = unwrap_or (row_least (tails least starts) part) 0

-- those of parts, whose slots' orders begin at some places
abbrev pub listed_costs : List Part → List ℕ → List ℕ → List ℕ
listed_costs [] starts least = []
listed_costs (part ∷ parts) starts least =
    listed_cost part (take (length part.slots) starts) least ∷ listed_costs parts (drop (length part.slots) starts) least

-- the rents of what a place owns
abbrev pub owned_rents : ℕ → List ℕ → List ℕ → ℕ
owned_rents a [] rents = 0
owned_rents a (owner ∷ owners) [] = 0
owned_rents a (owner ∷ owners) (rent ∷ rents) = (if owner == a then rent else 0) + owned_rents a owners rents

-- owners are the places of the candidates of the grants of slots
abbrev pub AreOwners : List SlotPart → List ℕ → Type 0
AreOwners slots owners =
    (k i : ℕ) (slot : SlotPart) (grant : Grant) → slice_get slots k ≡ Some slot → slice_get slot.grants i ≡ Some grant →
    slice_index_or owners (grants_before slots k + i) 0 + 1 ≡ grant.candidate
