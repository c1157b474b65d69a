-- Which candidates of a programme are useful. Candidates are numbered from 1.
use Rattle.std.specs.Prelude.{ℕ, zero, suc, ◌+◌, ◌==◌, nat_le, nat_lt, cond, Bool, true, false, ◌&&◌, ◌||◌, List, [], ◌∷◌, Option, Some, None}
use Rattle.std.specs.List.{list_any}
use Rattle.adv_base.specs.Configs.{size_in}
use Rattle.bip_model.specs.declared.slot_part.SlotPart.{SlotPart}
use Rattle.bip_model.specs.declared.part.Part.{Part}
use Rattle.bip_model.specs.declared.programme.Programme.{Programme}

-- a price that is below another, or stands where there is no other
abbrev pub is_cheaper : Option ℕ → Option ℕ → Bool
is_cheaper None other = false
is_cheaper (Some price) None = true
is_cheaper (Some price) (Some other) = nat_lt price other

-- some price of a list is cheaper than the other in its place
abbrev pub has_cheaper : List (Option ℕ) → List (Option ℕ) → Bool
has_cheaper [] others = false
has_cheaper (price ∷ prices) [] = false
has_cheaper (price ∷ prices) (other ∷ others) = is_cheaper price other || has_cheaper prices others

-- a candidate gives some order of a slot for less than all that exists
abbrev pub helps_slot : ℕ → SlotPart → Bool
helps_slot a slot = list_any (λ grant. (grant.candidate == a) && has_cheaper grant.prices slot.base) slot.grants

abbrev pub helps_part : ℕ → Part → Bool
helps_part a part = list_any (helps_slot a) part.slots

-- it fits the budget alone, and helps some part
abbrev pub is_useful : Programme → ℕ → ℕ → Bool
is_useful programme budget a = nat_le (size_in programme.sizes a) budget && list_any (helps_part a) programme.parts

-- how many of the candidates up to n are useful
unfoldable pub useful_below : Programme → ℕ → ℕ → ℕ
useful_below programme budget zero = 0
useful_below programme budget (suc n) = useful_below programme budget n + cond (is_useful programme budget (suc n)) 1 0
