-- Laws of plan costs by lists of prices.
use Rattle.std.proofs.Common.{◌≡◌, ◌∙◌, inl, inr, ℕ, zero, suc, ◌+◌, ◌-◌, ◌<◌, ◌≤◌, List, [], ◌∷◌, ◌++◌, length, get_or, take, drop, All, refl, sym, ap, subst, length-append, arith}
use Rattle.std.specs.Prelude.{Option, Some, slice_get, slice_index_or, sum_by, unwrap_or}
use Rattle.std.proofs.lemmas.List.{drop-drop, get_or-drop, get_or-map, get_or-take, length-drop, length-take-le, take_all}
use Rattle.std.proofs.lemmas.List.Sums.{sum_by-cons, sum_by_more, sum_by-take-le}
use Rattle.std.proofs.lemmas.Option.{get_or_from_slice_get, slice_get_cases, slice_get_within}
use Rattle.adv_base.specs.declared.setting.Config.{Config}
use Rattle.plan_model.specs.declared.template.Template.{Template}
use Rattle.bip_model.specs.declared.part.Part.{Part}
use Rattle.bip_model.specs.declared.slot_part.SlotPart.{SlotPart}
use Rattle.bip_model.specs.Limits.Parts.{TemplateLimits}
use Rattle.bip_model.specs.Values.{need, part_grants}
use Rattle.bip_model.specs.Words.{word}
use Rattle.bip_model.proofs.Pricing.{get-some}
use Rattle.bip_model.proofs.Lists.{front-of, back-of}
use Rattle.lagrange_bound.specs.ListedPrices.{slots_of, orders_before, ArePrices}
use Rattle.lagrange_bound.specs.Rented.{rented_price, grants_before, rented_cost, plan_costs}
use Rattle.lagrange_bound.specs.declared.price_lists.PriceLists.{PriceLists}
use Rattle.lagrange_bound.specs.inner.CostsByLists.{least_at, tails, AreLeast, HavePlaces, listed_cost, listed_costs}
use Rattle.lagrange_bound.specs.inner.Rows.{AreRows}
use Rattle.lagrange_bound.proofs.FlatSlots.{all-grants, sum-left, sum-right}
use Rattle.lagrange_bound.proofs.RentedPrices.{AreRents, drop-rents, row_least-part}

-- ## Costs

pub tails_at : (least starts : List ℕ) (s o : ℕ) → s < length starts → slice_index_or (slice_index_or (tails least starts) s []) o 0 ≡ slice_index_or least (slice_index_or starts s 0 + o) 0
tails_at least starts s o within =
    ap (λ (xs : List ℕ). get_or xs o 0) (get_or-map (λ (at : ℕ). drop at least) starts s 0 [] within)
    ∙ get_or-drop (get_or starts s 0) least o 0

-- the least prices of parts' slots tell their plan costs
pub listed_costs-are : (config : Config) (parts : List Part) (rents starts least : List ℕ) → AreRents rents → sum_by (λ part. length part.slots) parts ≤ length starts →
    AreLeast config (slots_of parts) rents starts least → listed_costs parts starts least ≡ plan_costs config parts rents
unfolding listed_cost rented_cost
listed_costs-are config [] rents starts least are enough is = refl
listed_costs-are config (part ∷ parts) rents starts least are enough is =
    let n : ℕ = length part.slots in
    let whole : sum_by (λ part. length part.slots) (part ∷ parts) ≡ n + sum_by (λ part. length part.slots) parts = sum_by-cons (λ (p : Part). length p.slots) part parts in
    let grants : (k : ℕ) → grants_before (part.slots ++ slots_of parts) (n + k) ≡ part_grants part + grants_before (slots_of parts) k =
    λ k. sum-right (λ (slot : SlotPart). length slot.grants) part.slots (slots_of parts) k in
    let rows : AreRows config part.slots rents n (tails least (take n starts)) = λ s slot below found o inside.
    let long : length (take n starts) ≡ n = length-take-le n starts (omega (arith, whole, enough)) in
    let same : grants_before (part.slots ++ slots_of parts) s ≡ grants_before part.slots s = sum-left (λ (slot : SlotPart). length slot.grants) part.slots (slots_of parts) s (omega (arith, below)) in
    tails_at least (take n starts) s o (omega (arith, long, below))
    ∙ ap (λ (at : ℕ). get_or least (at + o) 0) (get_or-take n starts s 0 below)
    ∙ is s o slot (front-of part.slots (slots_of parts) s slot found) inside
    ∙ ap (λ (k : ℕ). word (rented_price config slot (drop k rents) o)) same in
    let own = ap (λ (cost : Option ℕ). unwrap_or cost 0) (row_least-part config part part.slots rents (tails least (take n starts)) refl are rows) in
    let later : AreLeast config (slots_of parts) (drop (part_grants part) rents) (drop n starts) least = λ k o slot found inside.
    ap (λ (at : ℕ). get_or least (at + o) 0) (get_or-drop n starts k 0)
    ∙ is (n + k) o slot (back-of part.slots (slots_of parts) k slot found) inside
    ∙ ap (λ (j : ℕ). word (rented_price config slot (drop j rents) o)) (grants k)
    ∙ ap (λ (rs : List ℕ). word (rented_price config slot rs o)) (sym (drop-drop (grants_before (slots_of parts) k) (part_grants part) rents)) in
    let left : length (drop n starts) ≡ length starts - n = length-drop n starts in
    let rest = listed_costs-are config parts (drop (part_grants part) rents) (drop n starts) least (drop-rents (part_grants part) rents are) (omega (arith, left, whole, enough)) later in
    ap (λ (cost : ℕ). cost ∷ listed_costs parts (drop n starts) least) own ∙ ap (λ (costs : List ℕ). rented_cost config part rents ∷ costs) rest

-- ## Steps of the loops

-- the slots of one part more
pub slots-next : (parts : List Part) (i first : ℕ) (part : Part) → i < length parts → part ≡ get_or parts i part → first ≡ sum_by (λ part. length part.slots) (take i parts) →
    first + length part.slots ≤ sum_by (λ part. length part.slots) parts
slots-next parts i first part within is place =
    let more : sum_by (λ part. length part.slots) (take (i + 1) parts) ≡ sum_by (λ part. length part.slots) (take i parts) + length (get_or parts i part).slots = sum_by_more (λ (p : Part). length p.slots) parts i part within in
    let own : length part.slots ≡ length (get_or parts i part).slots = ap (λ (p : Part). length p.slots) is in
    let most : sum_by (λ part. length part.slots) (take (i + 1) parts) ≤ sum_by (λ part. length part.slots) parts = sum_by-take-le (λ (p : Part). length p.slots) parts (i + 1) in
    omega (arith, more, own, most, place)

-- a slot of a part stands behind those of the parts before it
slot-found : (parts : List Part) (i k : ℕ) (part : Part) (slot : SlotPart) → slice_get parts i ≡ Some part → slice_get part.slots k ≡ Some slot →
    slice_get (slots_of parts) (sum_by (λ part. length part.slots) (take i parts) + k) ≡ Some slot
slot-found [] i k part slot found there = absurd (cc)
slot-found (p ∷ parts) zero k part slot found there =
    let same : p ≡ part = cc in
    let none : 0 + k ≡ k = omega arith in
    let own : slice_get p.slots k ≡ Some slot = ap (λ (q : Part). slice_get q.slots k) same ∙ there in
    rw none (front-of p.slots (slots_of parts) k slot own)
slot-found (p ∷ parts) (suc i) k part slot found there =
    let before : ℕ = sum_by (λ part. length part.slots) (take i parts) in
    let whole : sum_by (λ part. length part.slots) (p ∷ take i parts) ≡ length p.slots + before = sum_by-cons (λ (q : Part). length q.slots) p (take i parts) in
    let at : sum_by (λ part. length part.slots) (p ∷ take i parts) + k ≡ length p.slots + (before + k) = omega (arith, whole) in
    rw at (back-of p.slots (slots_of parts) (before + k) slot (slot-found parts i k part slot found there))

-- the orders of a part's slots have places
pub part-places : (parts : List Part) (starts least : List ℕ) (i first n : ℕ) (part : Part) → i < length parts → part ≡ get_or parts i part → first ≡ sum_by (λ part. length part.slots) (take i parts) → n ≡ length part.slots →
    HavePlaces (slots_of parts) starts least → HavePlaces part.slots (take n (drop first starts)) least
part-places parts starts least i first n part within is place count have = λ k slot found.
    let inside : k < n = omega (arith, count, slice_get_within part.slots k slot found) in
    let there : slice_get (slots_of parts) (first + k) ≡ Some slot =
    ap (λ (m : ℕ). slice_get (slots_of parts) (m + k)) place ∙ slot-found parts i k part slot (get-some parts i part within is) found in
    let at : get_or (take n (drop first starts)) k 0 ≡ get_or starts (first + k) 0 = get_or-take n (drop first starts) k 0 inside ∙ get_or-drop first starts k 0 in
    omega (arith, at, have (first + k) slot there)

-- what a template needs has its place
pub needed-place : (part : Part) (templates : List Template) (starts least : List ℕ) (s i : ℕ) (d : Template) → templates ≡ part.templates → HavePlaces part.slots starts least → length starts ≡ length part.slots →
    i < length templates → s < length starts → get_or starts s 0 + need (get_or templates i d) s < length least
needed-place part templates starts least s i d same have each within inside =
    elim (slice_get_cases part.slots s).1 [
      | inl there ↦
          let limits : TemplateLimits part.slots (get_or templates i d) = subst (All (TemplateLimits part.slots)) (sym same) part.limits.templates_limits i d within in
          let needs : need (get_or templates i d) s < length there.0.base = limits.needs_within s there.0 there.2 in
          omega (arith, needs, have s there.0 there.2)
      | inr past ↦ absurd (omega (arith, inside, each, past.0))
    ]

-- ## All prices of a programme

length-slots : (parts : List Part) → length (slots_of parts) ≡ sum_by (λ part. length part.slots) parts
length-slots [] = refl
length-slots (part ∷ parts) = length-append part.slots (slots_of parts) ∙ ap (λ (n : ℕ). length part.slots + n) (length-slots parts) ∙ sym (sum_by-cons (λ (p : Part). length p.slots) part parts)

-- the orders of each slot begin at its place
pub starts-count : (parts : List Part) (prices : PriceLists) → ArePrices (slots_of parts) prices → length prices.starts.items ≡ sum_by (λ part. length part.slots) parts
starts-count parts prices are = are.starts_each ∙ length-slots parts

-- each grant has an owner
pub owners-count : (parts : List Part) (prices : PriceLists) → ArePrices (slots_of parts) prices → length prices.owners.items ≡ sum_by part_grants parts
owners-count parts prices are =
    are.owners_each ∙ ap (sum_by (λ (slot : SlotPart). length slot.grants)) (take_all (length (slots_of parts)) (slots_of parts) (omega arith)) ∙ all-grants parts

pub have-places : (slots : List SlotPart) (prices : PriceLists) (least : List ℕ) → length least ≡ length prices.bases.items → ArePrices slots prices → HavePlaces slots prices.starts.items least
have-places slots prices least each are = λ k slot found.
    let within : k < length slots = slice_get_within slots k slot found in
    let more : orders_before slots (k + 1) ≡ orders_before slots k + length (get_or slots k slot).base = sum_by_more (λ (x : SlotPart). length x.base) slots k slot within in
    let own : length (get_or slots k slot).base ≡ length slot.base = ap (λ (x : SlotPart). length x.base) (get_or_from_slice_get slots k slot slot found) in
    let most : orders_before slots (k + 1) ≤ sum_by (λ slot. length slot.base) slots = sum_by-take-le (λ (x : SlotPart). length x.base) slots (k + 1) in
    let all : orders_before slots (length slots) ≡ sum_by (λ slot. length slot.base) slots = ap (sum_by (λ (x : SlotPart). length x.base)) (take_all (length slots) slots (omega arith)) in
    omega (arith, are.starts_are k within, more, own, most, all, are.bases_each, each)

-- where each place has the least of its prices, each order has
pub are-least : (config : Config) (slots : List SlotPart) (prices : PriceLists) (rents least : List ℕ) → ArePrices slots prices → length rents ≡ length prices.owners.items → AreRents rents →
    ((p : ℕ) → get_or least p 0 ≡ least_at config prices.owners.items rents p (get_or prices.bases.items p 0) prices.list.items) → AreLeast config slots rents prices.starts.items least
are-least config slots prices rents least are each limit is = λ k o slot found inside.
    ap (λ (at : ℕ). get_or least (at + o) 0) (are.starts_are k (slice_get_within slots k slot found))
    ∙ is (orders_before slots k + o) ∙ are.least config rents each limit k o slot found inside
