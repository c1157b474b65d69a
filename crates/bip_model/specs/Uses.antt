-- The uses of candidates, each of which has a rent; and the multipliers by which candidates cost what they earn.
use Rattle.std.specs.Prelude.{◌≡◌, ℕ, suc, ◌+◌, ◌-◌, ◌*◌, ◌/◌, ◌≤◌, ◌==◌, min, List, [], ◌∷◌, ◌++◌, length, map, All, count_by, slice_get}
use Rattle.std.specs.Option.{option_map_or}
use Rattle.adv_base.specs.declared.catalogue.index.IndexShape.{IndexShape}
use Rattle.adv_base.specs.declared.limits.TheConstants.{MOST_PAGE_PRICE, MOST_RENT}
use Rattle.adv_base.specs.declared.workload.parts.Slot.{Slot}
use Rattle.adv_base.specs.Settings.{TheSetting}
use Rattle.adv_base.specs.Sizes.{shape_pages}
use Rattle.plan_model.specs.Lagrangian.{TheMultipliers, weighted_upkeep}
use Rattle.bip_model.specs.declared.multipliers.Multipliers.{Multipliers}
use Rattle.bip_model.specs.StandsFor.{Blocked, candidates_on, blocked_from}
use Rattle.bip_model.specs.Views.{Place, rent_at}

-- ## Uses

-- at the slots of statement q, from slot s on: the candidates on the slot's table
abbrev pub slot_uses : List IndexShape → ℕ → ℕ → List Slot → List Place
slot_uses shapes q s [] = []
slot_uses shapes q s (slot ∷ slots) =
    map (λ numbered. record { statement = q; slot = s; candidate = numbered.0 }) (candidates_on shapes slot.table)
    ++ slot_uses shapes q (suc s) slots

abbrev pub blocked_uses : List IndexShape → List Blocked → List Place
blocked_uses shapes [] = []
blocked_uses shapes (blocked ∷ rest) = slot_uses shapes blocked.number 0 blocked.block.slots ++ blocked_uses shapes rest

-- the uses of a setting, statement by statement, slot by slot, candidate by candidate
abbrev pub uses : TheSetting → List Place
uses setting = blocked_uses setting.shapes (blocked_from 1 setting.statements)

-- ## Multipliers as a list of rents

-- what they say of a setting
abbrev pub multipliers_in : TheSetting → Multipliers → TheMultipliers
multipliers_in setting multipliers =
    record { rent = λ q s a. rent_at (uses setting) multipliers.lambda q s a; page = multipliers.mu }

-- they have a rent for each use, and keep their limits
pub record AreMultipliersIn (setting : TheSetting) (multipliers : Multipliers) : Type 0 where
  pub one_each : length multipliers.lambda ≡ length (uses setting)
  pub page_most : multipliers.mu ≤ MOST_PAGE_PRICE
  pub rents_most : All (λ rent. rent ≤ MOST_RENT) multipliers.lambda

-- ## Rent multipliers

-- the weight of a statement, by its number
abbrev pub weight_of : TheSetting → ℕ → ℕ
weight_of setting q = option_map_or (λ statement. statement.weight) (slice_get setting.statements (q - 1)) 0

-- what a candidate costs where a page has a price, both in parts of 65536
abbrev pub cost_of : TheSetting → ℕ → ℕ → ℕ
cost_of setting page a =
    option_map_or (λ shape. 65536 * weighted_upkeep setting shape + page * shape_pages setting.cat shape) (slice_get setting.shapes (a - 1)) 0

-- how many uses a candidate has
abbrev pub use_count : List Place → ℕ → ℕ
use_count list a = count_by (λ place. place.candidate == a) list

-- the share of a use in what its candidate costs, rounded down
abbrev pub share : TheSetting → ℕ → Place → ℕ
share setting page place =
    min MOST_RENT (cost_of setting page place.candidate / (65536 * (weight_of setting place.statement * use_count (uses setting) place.candidate)))

-- The rent multipliers of a price of a page: each use of a candidate pays the same share of what the candidate costs, so
-- that none earns more than it costs.
abbrev pub rent_multipliers : TheSetting → ℕ → TheMultipliers
rent_multipliers setting page =
    record { rent = λ q s a. rent_at (uses setting) (map (share setting page) (uses setting)) q s a; page = page }
