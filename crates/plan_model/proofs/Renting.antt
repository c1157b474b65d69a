-- What rents add to least costs.
use Rattle.std.proofs.Common.{◌≡◌, ◌⊎◌, inl, inr, ℕ, zero, suc, ◌+◌, ◌-◌, ◌<◌, ◌≤◌, ◌==◌, Bool, true, false, cond, not, ◌&&◌, List, [], ◌∷◌, ◌++◌, length, get_or, map, Option, Some, None, refl, sym, ap, ◌∙◌, subst, arith}
use Rattle.std.specs.Prelude.{slice_get, slice_index_or, filter}
use Rattle.std.specs.List.{enumerate_from}
use Rattle.std.specs.Option.{option_map_or}
use Rattle.std.proofs.lemmas.Bool.{cases_Bool, cases_lt, eqb-true, false≢true}
use Rattle.std.proofs.lemmas.Option.{slice_get-get_or, slice_get_within}
use Rattle.adv_base.specs.declared.catalogue.Catalogue.{Catalogue}
use Rattle.adv_base.specs.declared.catalogue.index.IndexShape.{IndexShape}
use Rattle.adv_base.specs.declared.catalogue.table.Table.{Table}
use Rattle.adv_base.specs.declared.setting.Config.{Config}
use Rattle.adv_base.specs.declared.workload.block.Block.{Block}
use Rattle.adv_base.specs.declared.workload.parts.Slot.{Slot}
use Rattle.adv_base.specs.Configs.{chosen, has_candidate}
use Rattle.adv_base.specs.Lookups.{table_at}
use Rattle.adv_base.specs.Offers.{Offer, OfferTable, Path, Heap, Existing, Candidate, candidate_path, numbered_in, numbered_on, paths_on, path_offer, charged_path_offer, offers_on, offers_of, offers, charged_offers_on, charged_offers_of, charged_offers}
use Rattle.adv_base.specs.OfferTables.{price_at, order_at, OfferTableLimits}
use Rattle.adv_base.specs.Settings.{TheSetting}
use Rattle.plan_model.specs.declared.plan.Whole.{Whole}
use Rattle.plan_model.specs.declared.task.Task.{Task}
use Rattle.plan_model.specs.Plans.{IsWhole}
use Rattle.plan_model.specs.Least.{IsCostOfPlan, Least}
use Rattle.plan_model.specs.Exchange.{whole_internal, choice, leaf_price, sum_below}
use Rattle.plan_model.specs.Totals.{IsBlockCost}
use Rattle.plan_model.specs.Lagrangian.{IsRentedCost, sum_rents, rents_at, IsWithin}
use Rattle.plan_model.proofs.SetLaws.{sum_below-le, sum_below-add}
use Rattle.plan_model.proofs.Exchanging.{whole-cost-splits}
use Rattle.plan_model.proofs.Decomposing.{choice-within, exchange-cost}
use Rattle.plan_model.proofs.Comparing.{serves-same}
use Rattle.plan_model.proofs.Unique.{one-task}

-- ## Members of lists

abbrev In : {X : Type 0} → X → List X → Type 0
In x [] = ⊥
In x (y ∷ ys) = (x ≡ y) ⊎ In x ys

in-from : {X : Type 0} (xs : List X) (k : ℕ) (x : X) → slice_get xs k ≡ Some x → In x xs
in-from [] k x e = cc
in-from (y ∷ ys) zero x e = let same : y ≡ x = cc in inl (sym same)
in-from (y ∷ ys) (suc k) x e = inr (in-from ys k x e)

at-from : {X : Type 0} (xs : List X) (x : X) → In x xs → (k : ℕ) × (slice_get xs k ≡ Some x)
at-from [] x h = absurd h
at-from (y ∷ ys) x h =
    elim h [
      | inl here ↦ (0, ap Some (sym here))
      | inr later ↦ let rest = at-from ys x later in (suc rest.0, rest.1)
    ]

in-map : {X Y : Type 0} (f : X → Y) (xs : List X) (x : X) → In x xs → In (f x) (map f xs)
in-map f [] x h = absurd h
in-map f (y ∷ ys) x h = elim h [ inl here ↦ inl (ap f here) | inr later ↦ inr (in-map f ys x later) ]

map-in : {X Y : Type 0} (f : X → Y) (xs : List X) (y : Y) → In y (map f xs) → (x : X) × In x xs × (y ≡ f x)
map-in f [] y h = absurd h
map-in f (x ∷ xs) y h =
    elim h [
      | inl here ↦ (x, inl refl, here)
      | inr later ↦ let rest = map-in f xs y later in (rest.0, inr rest.1, rest.2)
    ]

in-left : {X : Type 0} (xs ys : List X) (x : X) → In x xs → In x (xs ++ ys)
in-left [] ys x h = absurd h
in-left (y ∷ xs) ys x h = elim h [ inl here ↦ inl here | inr later ↦ inr (in-left xs ys x later) ]

in-right : {X : Type 0} (xs ys : List X) (x : X) → In x ys → In x (xs ++ ys)
in-right [] ys x h = h
in-right (y ∷ xs) ys x h = inr (in-right xs ys x h)

in-cases : {X : Type 0} (xs ys : List X) (x : X) → In x (xs ++ ys) → In x xs ⊎ In x ys
in-cases [] ys x h = inr h
in-cases (y ∷ xs) ys x h =
    elim h [
      | inl here ↦ inl (inl here)
      | inr later ↦ elim (in-cases xs ys x later) [ inl first ↦ inl (inr first) | inr second ↦ inr second ]
    ]

filter-in : {X : Type 0} (p : X → Bool) (xs : List X) (x : X) → In x (filter p xs) → In x xs × (p x ≡ true)
filter-in p [] x h = absurd h
filter-in {X} p (y ∷ ys) x h =
    elim (cases_Bool (p y)) [
      | inl passes ↦
          let kept : In x (y ∷ filter p ys) = subst (λ (b : Bool). In x (cond b (y ∷ filter p ys) (filter p ys))) passes h in
          elim kept [
            | inl here ↦ (inl here, ap p here ∙ passes)
            | inr later ↦ let rest = filter-in p ys x later in (inr rest.0, rest.1)
          ]
      | inr fails ↦
          let kept : In x (filter p ys) = subst (λ (b : Bool). In x (cond b (y ∷ filter p ys) (filter p ys))) fails h in
          let rest = filter-in p ys x kept in
          (inr rest.0, rest.1)
    ]

in-filter : {X : Type 0} (p : X → Bool) (xs : List X) (x : X) → In x xs → p x ≡ true → In x (filter p xs)
in-filter p [] x h passes = absurd h
in-filter {X} p (y ∷ ys) x h passes =
    elim (cases_Bool (p y)) [
      | inl first ↦
          subst (λ (b : Bool). In x (cond b (y ∷ filter p ys) (filter p ys))) (sym first)
          (elim h as (λ _. In x (y ∷ filter p ys)) [ inl here ↦ inl here | inr later ↦ inr (in-filter p ys x later passes) ])
      | inr fails ↦
          subst (λ (b : Bool). In x (cond b (y ∷ filter p ys) (filter p ys))) (sym fails)
          (elim h as (λ _. In x (filter p ys)) [
            | inl here ↦ absurd (false≢true (sym fails ∙ (sym (ap p here) ∙ passes)))
            | inr later ↦ in-filter p ys x later passes
          ])
    ]

-- ## More candidates have more paths

-- the flags that are on in the one list are on in the other
abbrev AreOn : List Bool → List Bool → Type 0
AreOn few many = (i : ℕ) → slice_index_or few i false ≡ true → slice_index_or many i false ≡ true

chosen-more : {X : Type 0} (few many : List Bool) (xs : List X) (x : X) → AreOn few many → In x (chosen few xs) → In x (chosen many xs)
chosen-more [] many xs x on h = absurd h
chosen-more (flag ∷ few) many [] x on h = absurd h
chosen-more (true ∷ few) [] (y ∷ ys) x on h = absurd (false≢true (on 0 refl))
chosen-more (true ∷ few) (true ∷ many) (y ∷ ys) x on h =
    elim h [ inl here ↦ inl here | inr later ↦ inr (chosen-more few many ys x (λ i e. on (suc i) e) later) ]
chosen-more (true ∷ few) (false ∷ many) (y ∷ ys) x on h = absurd (false≢true (on 0 refl))
chosen-more (false ∷ few) [] (y ∷ ys) x on h = chosen-more few [] ys x (λ i e. on (suc i) e) h
chosen-more (false ∷ few) (true ∷ many) (y ∷ ys) x on h = inr (chosen-more few many ys x (λ i e. on (suc i) e) h)
chosen-more (false ∷ few) (false ∷ many) (y ∷ ys) x on h = chosen-more few many ys x (λ i e. on (suc i) e) h

pub flag-of : (config : Config) (i : ℕ) → has_candidate config (suc i) ≡ slice_index_or config.on i false
flag-of config i =
    let same : suc i - 1 ≡ i = omega arith in
    let some : (suc i == 0) ≡ false =
    elim (cases_Bool (suc i == 0)) [
      | inl none ↦ let is : suc i ≡ 0 = eqb-true (suc i) 0 none in absurd (omega (arith, is))
      | inr other ↦ other
    ] in
    ap (λ (b : Bool). not b && slice_index_or config.on (suc i - 1) false) some ∙ ap (λ (j : ℕ). slice_index_or config.on j false) same

flags-on : (smaller larger : Config) → IsWithin smaller larger → AreOn smaller.on larger.on
flags-on smaller larger within i on = sym (flag-of larger i) ∙ within (suc i) (flag-of smaller i ∙ on)

numbered-more : (shapes : List IndexShape) (smaller larger : Config) (t : ℕ) (numbered : ℕ × IndexShape) → IsWithin smaller larger → In numbered (numbered_on shapes smaller t) → In numbered (numbered_on shapes larger t)
numbered-more shapes smaller larger t numbered within h =
    let test : ℕ × IndexShape → Bool = λ n. n.1.table == t in
    let found = filter-in test (numbered_in shapes smaller) numbered h in
    in-filter test (numbered_in shapes larger) numbered (chosen-more smaller.on larger.on (enumerate_from 1 shapes) numbered (flags-on smaller larger within) found.0) found.1

paths-more : (shapes : List IndexShape) (smaller larger : Config) (t : ℕ) (table : Table) (path : Path) → IsWithin smaller larger → In path (paths_on shapes smaller t table) → In path (paths_on shapes larger t table)
paths-more shapes smaller larger t table path within h =
    elim h [
      | inl heap ↦ inl heap
      | inr later ↦
          elim (in-cases (map Existing table.indexes) (map candidate_path (numbered_on shapes smaller t)) path later) [
            | inl index ↦ inr (in-left (map Existing table.indexes) (map candidate_path (numbered_on shapes larger t)) path index)
            | inr candidate ↦
                let found = map-in candidate_path (numbered_on shapes smaller t) path candidate in
                let more = in-map candidate_path (numbered_on shapes larger t) found.0 (numbered-more shapes smaller larger t found.0 within found.1) in
                inr (in-right (map Existing table.indexes) (map candidate_path (numbered_on shapes larger t)) path (subst (λ (p : Path). In p (map candidate_path (numbered_on shapes larger t))) (sym found.2) more))
          ]
    ]

-- ## What a path is charged

path_rent : (ℕ → ℕ) → Path → ℕ
path_rent rent Heap = 0
path_rent rent (Existing index) = 0
path_rent rent (Candidate number shape) = rent number

charged-order : (rent : ℕ → ℕ → ℕ) (cat : Catalogue) (block : Block) (s : ℕ) (slot : Slot) (table : Table) (path : Path) → (charged_path_offer rent cat block s slot table path).0 ≡ (path_offer cat block s slot table path).0
charged-order rent cat block s slot table Heap = refl
charged-order rent cat block s slot table (Existing index) = refl
charged-order rent cat block s slot table (Candidate number shape) = refl

charged-price : (rent : ℕ → ℕ → ℕ) (cat : Catalogue) (block : Block) (s : ℕ) (slot : Slot) (table : Table) (path : Path) → (charged_path_offer rent cat block s slot table path).1 ≡ (path_offer cat block s slot table path).1 + path_rent (rent s) path
unfolding path_rent
charged-price rent cat block s slot table Heap = omega arith
charged-price rent cat block s slot table (Existing index) = omega arith
charged-price rent cat block s slot table (Candidate number shape) = refl

rent-most : (rent : ℕ → ℕ) (list : List (ℕ × IndexShape)) (numbered : ℕ × IndexShape) → In numbered list → rent numbered.0 ≤ sum_rents rent list
rent-most rent [] numbered h = absurd h
rent-most rent (n ∷ ns) numbered h =
    elim h [
      | inl here ↦ let same : rent numbered.0 ≡ rent n.0 = ap (λ (m : ℕ × IndexShape). rent m.0) here in omega (arith, same)
      | inr later ↦ let rest = rent-most rent ns numbered later in omega (arith, rest)
    ]

path-rent-most : (rent : ℕ → ℕ) (shapes : List IndexShape) (config : Config) (t : ℕ) (table : Table) (path : Path) → In path (paths_on shapes config t table) → path_rent rent path ≤ sum_rents rent (numbered_on shapes config t)
unfolding path_rent
path-rent-most rent shapes config t table path h =
    elim h [
      | inl heap ↦ let none : path_rent rent path ≡ 0 = ap (path_rent rent) heap in omega (arith, none)
      | inr later ↦
          elim (in-cases (map Existing table.indexes) (map candidate_path (numbered_on shapes config t)) path later) [
            | inl index ↦
                let found = map-in Existing table.indexes path index in
                let none : path_rent rent path ≡ 0 = ap (path_rent rent) found.2 in
                omega (arith, none)
            | inr candidate ↦
                let found = map-in candidate_path (numbered_on shapes config t) path candidate in
                let is : path_rent rent path ≡ rent found.0.0 = ap (path_rent rent) found.2 in
                omega (arith, is, rent-most rent (numbered_on shapes config t) found.0 found.1)
          ]
    ]

-- ## What a slot is offered

-- a list has an offer of the same order, whose price is greater by at most the extra
record HasDearer (list : List Offer) (offer : Offer) (extra : ℕ) : Type 0 where
  number : ℕ
  other : Offer
  found : slice_get list number ≡ Some other
  order_is : other.0 ≡ offer.0
  most : other.1 ≤ offer.1 + extra

on-table : (cat : Catalogue) (block : Block) (shapes : List IndexShape) (smaller larger : Config) (rent : ℕ → ℕ → ℕ) (s : ℕ) (slot : Slot) (table : Option Table) (offer : Offer) → IsWithin smaller larger → In offer (offers_on cat block shapes smaller s slot table) → HasDearer (charged_offers_on rent cat block shapes larger s slot table) offer (sum_rents (rent s) (numbered_on shapes smaller slot.table))
on-table cat block shapes smaller larger rent s slot None offer within h = absurd h
on-table cat block shapes smaller larger rent s slot (Some table) offer within h =
    let found = map-in (path_offer cat block s slot table) (paths_on shapes smaller slot.table table) offer h in
    let path = found.0 in
    let there = paths-more shapes smaller larger slot.table table path within found.1 in
    let at' = at-from (map (charged_path_offer rent cat block s slot table) (paths_on shapes larger slot.table table)) (charged_path_offer rent cat block s slot table path) (in-map (charged_path_offer rent cat block s slot table) (paths_on shapes larger slot.table table) path there) in
    let price : (charged_path_offer rent cat block s slot table path).1 ≡ (path_offer cat block s slot table path).1 + path_rent (rent s) path = charged-price rent cat block s slot table path in
    let same : offer.1 ≡ (path_offer cat block s slot table path).1 = ap (λ (o : Offer). o.1) found.2 in
    record {
      number = at'.0;
      other = charged_path_offer rent cat block s slot table path;
      found = at'.1;
      order_is = charged-order rent cat block s slot table path ∙ sym (ap (λ (o : Offer). o.0) found.2);
      most = omega (arith, price, same, path-rent-most (rent s) shapes smaller slot.table table path found.1);
    }

at-slot : (cat : Catalogue) (block : Block) (shapes : List IndexShape) (smaller larger : Config) (rent : ℕ → ℕ → ℕ) (s : ℕ) (slot : Option Slot) (offer : Offer) → IsWithin smaller larger → In offer (offers_of cat block shapes smaller s slot) → HasDearer (charged_offers_of rent cat block shapes larger s slot) offer (option_map_or (λ slot. sum_rents (rent s) (numbered_on shapes smaller slot.table)) slot 0)
at-slot cat block shapes smaller larger rent s None offer within h = absurd h
at-slot cat block shapes smaller larger rent s (Some slot) offer within h = on-table cat block shapes smaller larger rent s slot (table_at cat slot.table) offer within h

at-table : (setting : TheSetting) (block : Block) (smaller larger : Config) (rent : ℕ → ℕ → ℕ) (s : ℕ) (offer : Offer) → IsWithin smaller larger → In offer (offers setting.cat block setting.shapes smaller s) → HasDearer (charged_offers rent setting.cat block setting.shapes larger s) offer (rents_at setting smaller rent block s)
unfolding offers charged_offers
at-table setting block smaller larger rent s offer within h =
    at-slot setting.cat block setting.shapes smaller larger rent s (slice_get block.slots s) offer within h

-- ## Least costs

offer-at : (table : OfferTable) (slot number : ℕ) (offer : Offer) → slice_get (table slot) number ≡ Some offer → (order_at table slot number ≡ offer.0) × (price_at table slot number ≡ offer.1)
offer-at table slot number offer found = (ap (λ (o : Option Offer). option_map_or (λ o. o.0) o []) found, ap (λ (o : Option Offer). option_map_or (λ o. o.1) o 0) found)

-- the offer by which a plan reads a slot
leaf-found : (task : Task) (table : OfferTable) (whole : Whole) (slot : ℕ) → IsWhole task table whole → slot < task.slots → (offer : Offer) × (slice_get (table slot) (choice whole.body slot) ≡ Some offer)
leaf-found task table whole slot v below =
    let none : Offer = ([], 0) in
    (get_or (table slot) (choice whole.body slot) none, slice_get-get_or (table slot) (choice whole.body slot) none (choice-within task table whole v slot below))

-- the offer of a number is of the same order as that of another, and costs at most the extra more
record IsDearer (old new : OfferTable) (number other slot extra : ℕ) : Type 0 where
  within : other < length (new slot)
  order_is : order_at new slot other ≡ order_at old slot number
  most : price_at new slot other ≤ price_at old slot number + extra

is-dearer : (old new : OfferTable) (number slot : ℕ) (offer : Offer) (extra : ℕ) → slice_get (old slot) number ≡ Some offer → (d : HasDearer (new slot) offer extra) → IsDearer old new number d.number slot extra
is-dearer old new number slot offer extra found d =
    let first = offer-at old slot number offer found in
    let second = offer-at new slot d.number d.other d.found in
    record {
      within = slice_get_within (new slot) d.number d.other d.found;
      order_is = second.0 ∙ (d.order_is ∙ sym first.0);
      most = omega (arith, second.1, first.1, d.most);
    }

pub rents-bound : (setting : TheSetting) (smaller larger : Config) (rent : ℕ → ℕ → ℕ) (block : Block) (cost rented : ℕ) → IsWithin smaller larger → OfferTableLimits (offers setting.cat block setting.shapes smaller) → IsBlockCost setting.cat setting.shapes smaller block cost → IsRentedCost setting larger rent block rented → rented ≤ cost + sum_below (rents_at setting smaller rent block) (length block.slots)
rents-bound setting smaller larger rent block cost rented within limits a b =
    let old = offers setting.cat block setting.shapes smaller in
    let new = charged_offers rent setting.cat block setting.shapes larger in
    let task = a.task in
    let whole = a.least.plan.whole in
    let valid = a.least.plan.valid in
    let least : Least task new rented = subst (λ (t : Task). Least t new rented) (one-task setting.cat block b.task a.task b.task_is a.task_is) b.least in
    let extra = rents_at setting smaller rent block in
    let pick : (slot : ℕ) → (number : ℕ) × (slot < task.slots → IsDearer old new (choice whole.body slot) number slot (extra slot)) = λ slot.
    elim (cases_lt slot task.slots) [
      | inl below ↦
          let leaf = leaf-found task old whole slot valid below in
          let dearer = at-table setting block smaller larger rent slot leaf.0 within (in-from (old slot) (choice whole.body slot) leaf.0 leaf.1) in
          (dearer.number, λ _. is-dearer old new (choice whole.body slot) slot leaf.0 (extra slot) leaf.1 dearer)
      | inr past ↦ (0, λ below. absurd (omega (arith, past, below)))
    ] in
    let prices : ℕ → ℕ = λ slot. price_at new slot (pick slot).0 in
    let plan : IsCostOfPlan task new (whole_internal task whole + sum_below prices task.slots) =
    exchange-cost task old new whole (λ slot. (pick slot).0) prices limits valid
    (λ slot below. record {
      within = ((pick slot).1 below).within;
      serves = serves-same task slot (order_at old slot (choice whole.body slot)) (order_at new slot (pick slot).0) ((pick slot).1 below).order_is;
      costs = refl;
    }) in
    let split = whole-cost-splits task old whole valid in
    let most : sum_below prices task.slots ≤ sum_below (λ slot. leaf_price old whole.body slot + extra slot) task.slots =
    sum_below-le prices (λ slot. leaf_price old whole.body slot + extra slot) task.slots (λ slot below. ((pick slot).1 below).most) in
    let parts : sum_below (λ slot. leaf_price old whole.body slot + extra slot) task.slots ≡ sum_below (leaf_price old whole.body) task.slots + sum_below extra task.slots =
    sum_below-add (leaf_price old whole.body) extra task.slots in
    let slots : sum_below extra task.slots ≡ sum_below extra (length block.slots) = ap (sum_below extra) a.task_is.slots_are in
    omega (arith, least.none_less plan.whole plan.valid, plan.costs, most, parts, slots, split, a.least.plan.costs)
