-- In a programme that stands for a setting, the shares of grants are those of uses.
use Rattle.std.proofs.Common.{◌≡◌, ◌∙◌, ℕ, zero, suc, ◌+◌, ◌-◌, ◌*◌, ◌==◌, cond, List, [], ◌∷◌, ◌++◌, map, min, refl, sym, ap, arith}
use Rattle.std.specs.Prelude.{Option, Some, ◌/◌, count_by, sum_by, slice_get, slice_index_or}
use Rattle.std.specs.List.{flat_map}
use Rattle.std.specs.Option.{option_map_or}
use Rattle.std.proofs.lemmas.List.{map-append}
use Rattle.adv_base.specs.declared.catalogue.index.IndexShape.{IndexShape}
use Rattle.adv_base.specs.declared.limits.TheConstants.{MOST_RENT}
use Rattle.adv_base.specs.declared.workload.Statement.{Statement}
use Rattle.adv_base.specs.Settings.{TheSetting}
use Rattle.adv_base.specs.Sizes.{shape_pages}
use Rattle.plan_model.specs.Lagrangian.{TheMultipliers, weighted_upkeep}
use Rattle.plan_model.proofs.Sums.{total, sum-total}
use Rattle.bip_model.specs.declared.grant.Grant.{Grant}
use Rattle.bip_model.specs.declared.slot_part.SlotPart.{SlotPart}
use Rattle.bip_model.specs.declared.part.Part.{Part}
use Rattle.bip_model.specs.declared.programme.Programme.{Programme}
use Rattle.bip_model.specs.declared.multipliers.Multipliers.{Multipliers}
use Rattle.bip_model.specs.StandsFor.{IsPart, blocked_from, StandsFor}
use Rattle.bip_model.specs.Views.{Place, slot_places, part_places, places, rent_at, multipliers_of}
use Rattle.bip_model.specs.Uses.{uses, weight_of, cost_of, use_count, share, rent_multipliers}
use Rattle.bip_model.proofs.Deciding.{blocked-from, each-right}
use Rattle.bip_model.proofs.Using.{places-used, multipliers-used}

-- the weight of a part is that of its statement
pub weights-same : (setting : TheSetting) (programme : Programme) → StandsFor setting programme → (i : ℕ) (part : Part) → slice_get programme.parts i ≡ Some part → weight_of setting part.statement ≡ part.weight
weights-same setting programme stands i part found =
    let paired = each-right (IsPart setting) (blocked_from 1 setting.statements) programme.parts i part stands.parts_are found in
    let of' = blocked-from 1 setting.statements i paired.element paired.found in
    let number : part.statement - 1 ≡ of'.place = omega (arith, paired.holds.statement_is, of'.number_is) in
    ap (λ (k : ℕ). option_map_or (λ (s : Statement). s.weight) (slice_get setting.statements k) 0) number
    ∙ ap (λ (o : Option Statement). option_map_or (λ (s : Statement). s.weight) o 0) of'.found
    ∙ sym of'.weight_is ∙ sym paired.holds.weight_is

-- ## What is said of each grant is said of each use

-- something said of a weight and a candidate, at the place of a use
said : (ℕ → ℕ → ℕ) → (ℕ → ℕ) → Place → ℕ
said f weight place = f (weight place.statement) place.candidate

grants-said : (f : ℕ → ℕ → ℕ) (weight : ℕ → ℕ) (q s w : ℕ) → weight q ≡ w → (grants : List Grant) →
    map (said f weight) (map (λ (grant : Grant). record { statement = q; slot = s; candidate = grant.candidate }) grants) ≡ map (λ (grant : Grant). f w grant.candidate) grants
unfolding said
grants-said f weight q s w same [] = refl
grants-said f weight q s w same (grant ∷ grants) =
    ap (λ (v : ℕ). f v grant.candidate ∷ map (said f weight) (map (λ (g : Grant). record { statement = q; slot = s; candidate = g.candidate }) grants)) same
    ∙ ap (λ (rest : List ℕ). f w grant.candidate ∷ rest) (grants-said f weight q s w same grants)

slots-said : (f : ℕ → ℕ → ℕ) (weight : ℕ → ℕ) (q s w : ℕ) → weight q ≡ w → (owns : List SlotPart) →
    map (said f weight) (slot_places q s owns) ≡ flat_map (λ (own : SlotPart). map (λ (grant : Grant). f w grant.candidate) own.grants) owns
slots-said f weight q s w same [] = refl
slots-said f weight q s w same (own ∷ owns) =
    let front : List Place = map (λ (grant : Grant). record { statement = q; slot = s; candidate = grant.candidate }) own.grants in
    let rest : List ℕ = map (said f weight) (slot_places q (suc s) owns) in
    map-append (said f weight) front (slot_places q (suc s) owns)
    ∙ ap (λ (list : List ℕ). list ++ rest) (grants-said f weight q s w same own.grants)
    ∙ ap (λ (list : List ℕ). map (λ (grant : Grant). f w grant.candidate) own.grants ++ list) (slots-said f weight q (suc s) w same owns)

parts-said : (f : ℕ → ℕ → ℕ) (weight : ℕ → ℕ) (parts : List Part) → ((i : ℕ) (part : Part) → slice_get parts i ≡ Some part → weight part.statement ≡ part.weight) →
    map (said f weight) (part_places parts) ≡ flat_map (λ (part : Part). flat_map (λ (own : SlotPart). map (λ (grant : Grant). f part.weight grant.candidate) own.grants) part.slots) parts
parts-said f weight [] same = refl
parts-said f weight (part ∷ parts) same =
    let front : List Place = slot_places part.statement 0 part.slots in
    map-append (said f weight) front (part_places parts)
    ∙ ap (λ (list : List ℕ). list ++ map (said f weight) (part_places parts)) (slots-said f weight part.statement 0 part.weight (same 0 part refl) part.slots)
    ∙ ap (λ (list : List ℕ). flat_map (λ (own : SlotPart). map (λ (grant : Grant). f part.weight grant.candidate) own.grants) part.slots ++ list) (parts-said f weight parts (λ i x found. same (suc i) x found))

-- ## How many uses a candidate has

total-both : {X : Type 0} (f : X → ℕ) (xs ys : List X) → total f (xs ++ ys) ≡ total f xs + total f ys
total-both f [] ys = omega arith
total-both f (x ∷ xs) ys = let rest = total-both f xs ys in omega (arith, rest)

grants-counted : (a q s : ℕ) (grants : List Grant) → total (λ (p : Place). cond (p.candidate == a) 1 0) (map (λ (grant : Grant). record { statement = q; slot = s; candidate = grant.candidate }) grants) ≡ total (λ (grant : Grant). cond (grant.candidate == a) 1 0) grants
grants-counted a q s [] = refl
grants-counted a q s (grant ∷ grants) = let rest = grants-counted a q s grants in omega (arith, rest)

slots-counted : (a q s : ℕ) (owns : List SlotPart) → total (λ (p : Place). cond (p.candidate == a) 1 0) (slot_places q s owns) ≡ total (λ (own : SlotPart). count_by (λ (grant : Grant). grant.candidate == a) own.grants) owns
slots-counted a q s [] = refl
slots-counted a q s (own ∷ owns) =
    let rest = slots-counted a q (suc s) owns in
    let both = total-both (λ (p : Place). cond (p.candidate == a) 1 0) (map (λ (grant : Grant). record { statement = q; slot = s; candidate = grant.candidate }) own.grants) (slot_places q (suc s) owns) in
    let here = grants-counted a q s own.grants in
    let summed = sum-total (λ (grant : Grant). cond (grant.candidate == a) 1 0) own.grants in
    omega (arith, rest, both, here, summed)

parts-counted : (a : ℕ) (parts : List Part) → total (λ (p : Place). cond (p.candidate == a) 1 0) (part_places parts) ≡ total (λ (part : Part). sum_by (λ (own : SlotPart). count_by (λ (grant : Grant). grant.candidate == a) own.grants) part.slots) parts
parts-counted a [] = refl
parts-counted a (part ∷ parts) =
    let rest = parts-counted a parts in
    let both = total-both (λ (p : Place). cond (p.candidate == a) 1 0) (slot_places part.statement 0 part.slots) (part_places parts) in
    let here = slots-counted a part.statement 0 part.slots in
    let summed = sum-total (λ (own : SlotPart). count_by (λ (grant : Grant). grant.candidate == a) own.grants) part.slots in
    omega (arith, rest, both, here, summed)

-- as many as it has grants in the programme
pub uses-counted : (setting : TheSetting) (programme : Programme) (a : ℕ) → StandsFor setting programme →
    use_count (uses setting) a ≡ sum_by (λ (part : Part). sum_by (λ (own : SlotPart). count_by (λ (grant : Grant). grant.candidate == a) own.grants) part.slots) programme.parts
uses-counted setting programme a stands =
    ap (λ (list : List Place). use_count list a) (sym (places-used setting programme stands))
    ∙ sum-total (λ (p : Place). cond (p.candidate == a) 1 0) (places programme) ∙ parts-counted a programme.parts
    ∙ sym (sum-total (λ (part : Part). sum_by (λ (own : SlotPart). count_by (λ (grant : Grant). grant.candidate == a) own.grants) part.slots) programme.parts)

-- ## What a candidate costs

costs-at : (f g : IndexShape → ℕ) (page : ℕ) (xs : List IndexShape) (i : ℕ) → option_map_or (λ (x : IndexShape). 65536 * f x + page * g x) (slice_get xs i) 0 ≡ 65536 * slice_index_or (map f xs) i 0 + page * slice_index_or (map g xs) i 0
costs-at f g page [] i = omega arith
costs-at f g page (x ∷ xs) zero = refl
costs-at f g page (x ∷ xs) (suc i) = costs-at f g page xs i

pub cost-same : (setting : TheSetting) (programme : Programme) (page a : ℕ) → StandsFor setting programme →
    cost_of setting page a ≡ 65536 * slice_index_or programme.upkeep (a - 1) 0 + page * slice_index_or programme.sizes (a - 1) 0
cost-same setting programme page a stands =
    costs-at (weighted_upkeep setting) (shape_pages setting.cat) page setting.shapes (a - 1)
    ∙ ap (λ (list : List ℕ). 65536 * slice_index_or list (a - 1) 0 + page * slice_index_or (map (shape_pages setting.cat) setting.shapes) (a - 1) 0) (sym stands.upkeep_is)
    ∙ ap (λ (list : List ℕ). 65536 * slice_index_or programme.upkeep (a - 1) 0 + page * slice_index_or list (a - 1) 0) (sym stands.sizes_are)

-- ## Shares

-- the share of a grant, by the weight of its part and its candidate
abbrev pub grant_share : Programme → ℕ → ℕ → ℕ → ℕ
grant_share programme page weight a =
    min MOST_RENT ((65536 * slice_index_or programme.upkeep (a - 1) 0 + page * slice_index_or programme.sizes (a - 1) 0)
    / (65536 * (weight * sum_by (λ (part : Part). sum_by (λ (own : SlotPart). count_by (λ (grant : Grant). grant.candidate == a) own.grants) part.slots) programme.parts)))

map-pointwise : (f g : Place → ℕ) (xs : List Place) → ((x : Place) → f x ≡ g x) → map f xs ≡ map g xs
map-pointwise f g [] same = refl
map-pointwise f g (x ∷ xs) same = ap (λ (y : ℕ). y ∷ map f xs) (same x) ∙ ap (λ (ys : List ℕ). g x ∷ ys) (map-pointwise f g xs same)

share-same : (setting : TheSetting) (programme : Programme) (page : ℕ) → StandsFor setting programme → (place : Place) → share setting page place ≡ said (grant_share programme page) (weight_of setting) place
unfolding said
share-same setting programme page stands place =
    let a : ℕ = place.candidate in
    let w : ℕ = weight_of setting place.statement in
    ap (λ (c : ℕ). min MOST_RENT (c / (65536 * (w * use_count (uses setting) a)))) (cost-same setting programme page a stands)
    ∙ ap (λ (n : ℕ). min MOST_RENT ((65536 * slice_index_or programme.upkeep (a - 1) 0 + page * slice_index_or programme.sizes (a - 1) 0) / (65536 * (w * n)))) (uses-counted setting programme a stands)

pub shares-same : (setting : TheSetting) (programme : Programme) (page : ℕ) → StandsFor setting programme →
    map (share setting page) (uses setting) ≡ flat_map (λ (part : Part). flat_map (λ (own : SlotPart). map (λ (grant : Grant). grant_share programme page part.weight grant.candidate) own.grants) part.slots) programme.parts
shares-same setting programme page stands =
    ap (map (share setting page)) (sym (places-used setting programme stands))
    ∙ map-pointwise (share setting page) (said (grant_share programme page) (weight_of setting)) (places programme) (share-same setting programme page stands)
    ∙ parts-said (grant_share programme page) (weight_of setting) programme.parts (weights-same setting programme stands)

-- multipliers with these shares are the rent multipliers
pub rents-same : (setting : TheSetting) (programme : Programme) (multipliers : Multipliers) (page : ℕ) → StandsFor setting programme → multipliers.mu ≡ page →
    multipliers.lambda ≡ flat_map (λ (part : Part). flat_map (λ (own : SlotPart). map (λ (grant : Grant). grant_share programme page part.weight grant.candidate) own.grants) part.slots) programme.parts →
    multipliers_of programme multipliers ≡ rent_multipliers setting page
rents-same setting programme multipliers page stands mu lambda =
    multipliers-used setting programme multipliers stands
    ∙ ap (λ (m : ℕ). told m multipliers.lambda) mu
    ∙ ap (λ (list : List ℕ). told page list) (lambda ∙ sym (shares-same setting programme page stands))
  where
    told : ℕ → List ℕ → TheMultipliers
    told m list = record { rent = λ q s a. rent_at (uses setting) list q s a; page = m }
