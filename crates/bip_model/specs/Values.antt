-- What a programme says a configuration costs: at each slot the least price of each order, for each template what it and
-- its slots cost, and the least over a part's templates.
use Rattle.std.specs.Prelude.{ℕ, zero, suc, ◌+◌, ◌*◌, ◌^◌, min, if◌then◌else◌, List, length, fold, sum, sum_by, Option, Some, None, unwrap_or, option_and_then, slice_get, slice_index_or}
use Rattle.adv_base.specs.declared.limits.TheConstants.{MOST_SLOTS}
use Rattle.adv_base.specs.declared.setting.Config.{Config}
use Rattle.adv_base.specs.Configs.{has_candidate, chosen}
use Rattle.plan_model.specs.declared.plan.TheConstants.{MOST_COST}
use Rattle.plan_model.specs.declared.template.Template.{Template}
use Rattle.bip_model.specs.declared.grant.Grant.{Grant}
use Rattle.bip_model.specs.declared.slot_part.SlotPart.{SlotPart}
use Rattle.bip_model.specs.declared.part.Part.{Part}
use Rattle.bip_model.specs.declared.programme.Programme.{Programme}

-- a plan costs at most an internal cost and a price for each slot, which is a word
abbrev pub MOST_PLAN : ℕ
MOST_PLAN = MOST_COST + MOST_SLOTS * 2 ^ 64

-- the lesser of two numbers, of which either may be missing
abbrev pub lesser : Option ℕ → Option ℕ → Option ℕ
lesser None b = b
lesser (Some a) None = Some a
lesser (Some a) (Some b) = Some (min a b)

-- their sum, where both are there
abbrev pub plus : Option ℕ → Option ℕ → Option ℕ
plus (Some a) (Some b) = Some (a + b)
plus a b = None

-- the price at which an order is given, by the order's number
abbrev pub price_of : List (Option ℕ) → ℕ → Option ℕ
price_of prices o = slice_index_or prices o None

-- a grant counts where its candidate is chosen
abbrev pub granted : Config → ℕ → Grant → Option ℕ
granted config o grant = if has_candidate config grant.candidate then price_of grant.prices o else None

-- the least price of an order at a slot, of what exists and the chosen candidates
abbrev pub slot_price : Config → SlotPart → ℕ → Option ℕ
slot_price config slot o = fold (λ best grant. lesser best (granted config o grant)) (price_of slot.base o) slot.grants

-- the number of the order that a template needs of slot s
abbrev pub need : Template → ℕ → ℕ
need template s = slice_index_or template.needs s 0

-- the price of the order that a template needs of slot s
abbrev pub needed_price : Config → List SlotPart → Template → ℕ → Option ℕ
needed_price config slots template s = option_and_then (λ slot. slot_price config slot (need template s)) (slice_get slots s)

-- the internal cost of a template and the prices of what it needs of the slots below n
unfoldable pub cost_below : Config → List SlotPart → Template → ℕ → Option ℕ
cost_below config slots template zero = Some template.internal
cost_below config slots template (suc n) = plus (cost_below config slots template n) (needed_price config slots template n)

-- what a template and its slots cost; nothing where a slot doesn't give what it needs
abbrev pub template_cost : Config → List SlotPart → Template → Option ℕ
template_cost config slots template = cost_below config slots template (length slots)

-- the least cost over the templates
abbrev pub least_cost : Part → Config → Option ℕ
least_cost part config = fold (λ best template. lesser best (template_cost config part.slots template)) None part.templates

-- the plan cost of a part's statement; in a programme that stands for a setting there is one
unfoldable pub part_cost : Part → Config → ℕ
part_cost part config = unwrap_or (least_cost part config) 0

-- the upkeep of what exists and of the chosen candidates, and the weighted plan costs
unfoldable pub value : Programme → Config → ℕ
value programme config =
    programme.kept + sum (chosen config.on programme.upkeep) + sum_by (λ part. part.weight * part_cost part config) programme.parts

-- how many grants a programme has, and so how many rents are to be chosen
abbrev pub part_grants : Part → ℕ
part_grants part = sum_by (λ slot. length slot.grants) part.slots

unfoldable pub grant_count : Programme → ℕ
grant_count programme = sum_by part_grants programme.parts
