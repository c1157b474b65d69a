-- What plans cost where each use of a candidate pays a rent: at each slot the least price of each order, the rent of a grant
-- added to its prices; for each template what it and its slots cost; and the least over a part's templates. The rents of a
-- list of grants, slots or parts are the front of a list of rents.
use Rattle.std.specs.Prelude.{ℕ, zero, suc, ◌+◌, ◌*◌, List, [], ◌∷◌, length, fold, take, drop, sum_by, Option, Some, None, unwrap_or, option_and_then, slice_get}
use Rattle.std.specs.Option.{option_map}
use Rattle.adv_base.specs.declared.setting.Config.{Config}
use Rattle.plan_model.specs.declared.template.Template.{Template}
use Rattle.bip_model.specs.declared.grant.Grant.{Grant}
use Rattle.bip_model.specs.declared.slot_part.SlotPart.{SlotPart}
use Rattle.bip_model.specs.declared.part.Part.{Part}
use Rattle.bip_model.specs.Values.{lesser, plus, price_of, granted, need, part_grants}

-- what a grant asks for an order: its price and the rent, where its candidate may be used
abbrev pub asked : Config → ℕ → Grant → ℕ → Option ℕ
asked config o grant rent = option_map (λ price. price + rent) (granted config o grant)

-- the lesser of a price and the least that grants ask
abbrev pub least_asked : Config → ℕ → Option ℕ → List Grant → List ℕ → Option ℕ
least_asked config o best [] rents = best
least_asked config o best (grant ∷ grants) [] = best
least_asked config o best (grant ∷ grants) (rent ∷ rents) = least_asked config o (lesser best (asked config o grant rent)) grants rents

-- the least price of an order at a slot, of what exists and the candidates that may be used
abbrev pub rented_price : Config → SlotPart → List ℕ → ℕ → Option ℕ
rented_price config slot rents o = least_asked config o (price_of slot.base o) slot.grants rents

-- how many grants the first n slots have
abbrev pub grants_before : List SlotPart → ℕ → ℕ
grants_before slots n = sum_by (λ slot. length slot.grants) (take n slots)

-- the price of the order that a template needs of slot s
abbrev pub needed_price : Config → List SlotPart → List ℕ → Template → ℕ → Option ℕ
needed_price config slots rents template s =
    option_and_then (λ slot. rented_price config slot (drop (grants_before slots s) rents) (need template s)) (slice_get slots s)

-- the internal cost of a template and the prices of what it needs of the slots below n
unfoldable pub cost_below : Config → List SlotPart → List ℕ → Template → ℕ → Option ℕ
cost_below config slots rents template zero = Some template.internal
cost_below config slots rents template (suc n) = plus (cost_below config slots rents template n) (needed_price config slots rents template n)

-- what a template and its slots cost; nothing where a slot doesn't give what it needs
abbrev pub template_cost : Config → List SlotPart → List ℕ → Template → Option ℕ
template_cost config slots rents template = cost_below config slots rents template (length slots)

-- the least cost over the templates
abbrev pub least_cost : Config → Part → List ℕ → Option ℕ
least_cost config part rents = fold (λ best template. lesser best (template_cost config part.slots rents template)) None part.templates

-- the plan cost of a part's statement; in a programme that stands for a setting there is one
unfoldable pub rented_cost : Config → Part → List ℕ → ℕ
rented_cost config part rents = unwrap_or (least_cost config part rents) 0

-- the plan costs of parts
abbrev pub plan_costs : Config → List Part → List ℕ → List ℕ
plan_costs config [] rents = []
plan_costs config (part ∷ parts) rents = rented_cost config part rents ∷ plan_costs config parts (drop (part_grants part) rents)

-- the sum of weight times cost
abbrev pub weighted_costs : List Part → List ℕ → ℕ
weighted_costs [] costs = 0
weighted_costs (part ∷ parts) [] = 0
weighted_costs (part ∷ parts) (cost ∷ costs) = part.weight * cost + weighted_costs parts costs
