-- Space, nodes and multipliers, as the definitions of adv_base and plan_model see them.
use Rattle.std.specs.Prelude.{◌≡◌, ℕ, zero, suc, ◌-◌, ◌==◌, ◌≤◌, Bool, true, false, ◌&&◌, if◌then◌else◌, List, [], ◌∷◌, ◌++◌, length, map, slice_index_or, slice_set, All}
use Rattle.adv_base.specs.declared.limits.TheConstants.{MOST_PAGE_PRICE, MOST_RENT}
use Rattle.adv_base.specs.Configs as configs
use Rattle.adv_base.specs.Nodes as nodes
use Rattle.plan_model.specs.Lagrangian.{TheMultipliers}
use Rattle.bip_model.specs.declared.fix.Fix.{Fix}
use Rattle.bip_model.specs.declared.fix.State.{State}
use Rattle.bip_model.specs.declared.fix.State.TheVariants.{Free, In, Out}
use Rattle.bip_model.specs.declared.slot_part.SlotPart.{SlotPart}
use Rattle.bip_model.specs.declared.part.Part.{Part}
use Rattle.bip_model.specs.declared.programme.Programme.{Programme}
use Rattle.bip_model.specs.declared.multipliers.Multipliers.{Multipliers}
use Rattle.bip_model.specs.declared.space.Space.{Space}
use Rattle.bip_model.specs.Values.{grant_count}

abbrev pub the_space : Space → configs.Space
the_space space = record { sizes = space.sizes.now; budget = space.budget }

-- the space of a programme's candidates
abbrev pub space_in : Programme → ℕ → configs.Space
space_in programme budget = record { sizes = programme.sizes; budget = budget }

abbrev pub is_in : State → Bool
is_in In = true
is_in state = false

abbrev pub is_out : State → Bool
is_out Out = true
is_out state = false

-- the node of a fix
abbrev pub node_of : Fix → nodes.Node
node_of fix = record { inside = record { on = map is_in fix.state }; outside = record { on = map is_out fix.state } }

-- what a node makes of the candidate at a place, from 0; one that there can't be is free
abbrev pub state_at : Fix → ℕ → State
state_at fix i = slice_index_or fix.state i Free

-- the same by the candidate's number, from 1
abbrev pub state_of : Fix → ℕ → State
state_of fix zero = Free
state_of fix (suc i) = state_at fix i

-- a fix with the state of one candidate written, which is numbered from 1
abbrev pub with_state : Fix → ℕ → State → Fix
with_state fix a state = record { state = slice_set fix.state (a - 1) state }

-- where a grant stands: the number of its statement, from 1, of its slot, from 0, and of its candidate, from 1
pub record Place : Type 0 where
  pub statement : ℕ
  pub slot : ℕ
  pub candidate : ℕ

abbrev pub slot_places : ℕ → ℕ → List SlotPart → List Place
slot_places q s [] = []
slot_places q s (slot ∷ slots) = map (λ grant. record { statement = q; slot = s; candidate = grant.candidate }) slot.grants ++ slot_places q (suc s) slots

abbrev pub part_places : List Part → List Place
part_places [] = []
part_places (part ∷ parts) = slot_places part.statement 0 part.slots ++ part_places parts

-- the places of a programme's grants, part by part, slot by slot, grant by grant
abbrev pub places : Programme → List Place
places programme = part_places programme.parts

abbrev pub is_place : Place → ℕ → ℕ → ℕ → Bool
is_place place q s a = (place.statement == q) && ((place.slot == s) && (place.candidate == a))

-- the rent that stands at a place; 0 where there is no such place
abbrev pub rent_at : List Place → List ℕ → ℕ → ℕ → ℕ → ℕ
rent_at [] rents q s a = 0
rent_at (place ∷ places) [] q s a = 0
rent_at (place ∷ places) (rent ∷ rents) q s a = if is_place place q s a then rent else rent_at places rents q s a

-- the multipliers of a programme
abbrev pub multipliers_of : Programme → Multipliers → TheMultipliers
multipliers_of programme multipliers =
    record { rent = λ q s a. rent_at (places programme) multipliers.lambda q s a; page = multipliers.mu }

-- they have a rent for each grant, and keep their limits
pub record AreMultipliers (programme : Programme) (multipliers : Multipliers) : Type 0 where
  pub one_each : length multipliers.lambda ≡ grant_count programme
  pub page_most : multipliers.mu ≤ MOST_PAGE_PRICE
  pub rents_most : All (λ rent. rent ≤ MOST_RENT) multipliers.lambda
