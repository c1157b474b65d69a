-- In a programme that stands for a setting, the cost of a part is the cost of a least plan of its block.
use Rattle.std.proofs.Common.{◌≡◌, ◌∙◌, inl, inr, ℕ, zero, suc, ◌+◌, ◌<◌, ◌≤◌, ◌==◌, Bool, true, false, List, [], ◌∷◌, ◌++◌, length, fold, map, take, refl, sym, ap, subst, arith}
use Rattle.std.specs.Prelude.{Option, Some, None, if◌then◌else◌, filter, slice_get, slice_index_or, option_and_then, unwrap_or}
use Rattle.std.specs.List.{enumerate_from}
use Rattle.std.specs.Option.{option_map_or}
use Rattle.std.proofs.lemmas.Bool.{cases_Bool, cases_lt}
use Rattle.std.proofs.lemmas.List.{get_or-map, length-map, map-append}
use Rattle.std.proofs.lemmas.List.Sums.{fold-append}
use Rattle.std.proofs.lemmas.Option.{slice_get_cases, slice_get_within}
use Rattle.adv_base.specs.declared.catalogue.Catalogue.{Catalogue}
use Rattle.adv_base.specs.declared.catalogue.index.IndexShape.{IndexShape}
use Rattle.adv_base.specs.declared.catalogue.table.Table.{Table}
use Rattle.adv_base.specs.declared.limits.TheConstants.{MOST_CANDIDATES}
use Rattle.adv_base.specs.declared.setting.Config.{Config}
use Rattle.adv_base.specs.declared.workload.block.Block.{Block}
use Rattle.adv_base.specs.declared.workload.parts.Slot.{Slot}
use Rattle.adv_base.specs.Configs.{chosen, has_candidate}
use Rattle.adv_base.specs.Items.{Order, BeginsWith, is_same_order}
use Rattle.adv_base.specs.Lookups.{table_at}
use Rattle.adv_base.specs.Named.{NamesBlock}
use Rattle.adv_base.specs.Offers.{Offer, OfferTable, Path, Heap, Existing, candidate_path, numbered_on, path_offer, index_offer, offers_on, offers_of, offers}
use Rattle.adv_base.specs.Settings.{TheSetting}
use Rattle.adv_base.proofs.Begins.{begins_decides, begins_nil}
use Rattle.adv_base.proofs.ConfigLaws.{chosen-none}
use Rattle.adv_base.proofs.OfferBounds.{offers-limits, tables-offered}
use Rattle.plan_model.specs.declared.task.Task.{Task}
use Rattle.plan_model.specs.declared.template.Template.{Template}
use Rattle.plan_model.specs.Combinations.{IsOffered, IsLeastPrice, CachedBy, needed, IsIn, SomeAsksNothing}
use Rattle.plan_model.specs.Exchange.{sum_below}
use Rattle.plan_model.specs.Least.{Least}
use Rattle.plan_model.specs.Orders.{interesting_orders}
use Rattle.plan_model.specs.Totals.{no_candidates}
use Rattle.plan_model.proofs.AsksNothing.{some-asks-nothing}
use Rattle.plan_model.proofs.Sums.{AreFlags}
use Rattle.plan_model.proofs.Duality.{flags-are}
use Rattle.bip_model.specs.declared.grant.Grant.{Grant}
use Rattle.bip_model.specs.declared.slot_part.SlotPart.{SlotPart}
use Rattle.bip_model.specs.declared.part.Part.{Part}
use Rattle.bip_model.specs.Limits.Parts.{TemplateLimits}
use Rattle.bip_model.specs.Values.{lesser, plus, price_of, granted, slot_price, need, needed_price, cost_below, template_cost, least_cost, part_cost}
use Rattle.bip_model.specs.StandsFor.{given, least_given, candidates_on, AreEach, IsGrant, IsSlotPart, Blocked, IsPart}
use Rattle.bip_model.proofs.Least.{IsSome, least-made, least-most, least-filter, least-map}
use Rattle.bip_model.proofs.Lists.{map-same, All-some, append-none}

-- ## The candidates of a configuration on a table

picked-none : (has : ℕ → Bool) (t a : ℕ) (shapes : List IndexShape) → AreFlags has a [] → filter (λ n. has n.0) (filter (λ n. n.1.table == t) (enumerate_from a shapes)) ≡ []
picked-none has t a [] are = refl
picked-none has t a (shape ∷ shapes) are =
    let lacks : has a ≡ false = ap has (omega arith) ∙ are 0 in
    let rest : filter (λ n. has n.0) (filter (λ n. n.1.table == t) (enumerate_from (a + 1) shapes)) ≡ [] =
    picked-none has t (a + 1) shapes (λ i. ap has (omega arith) ∙ are (suc i)) in
    elim (cases_Bool (shape.table == t)) [
      | inl on ↦ rw (on, lacks) rest
      | inr off ↦ rw off rest
    ]

picked : (has : ℕ → Bool) (t a : ℕ) (flags : List Bool) (shapes : List IndexShape) → AreFlags has a flags →
    filter (λ n. has n.0) (filter (λ n. n.1.table == t) (enumerate_from a shapes)) ≡ filter (λ n. n.1.table == t) (chosen flags (enumerate_from a shapes))
picked has t a [] shapes are = picked-none has t a shapes are
picked has t a (flag ∷ flags) [] are = refl
picked has t a (true ∷ flags) (shape ∷ shapes) are =
    let has_it : has a ≡ true = ap has (omega arith) ∙ are 0 in
    let rest = picked has t (a + 1) flags shapes (λ i. ap has (omega arith) ∙ are (suc i)) in
    elim (cases_Bool (shape.table == t)) [
      | inl on ↦ rw (on, has_it) (ap (λ (ns : List (ℕ × IndexShape)). (a, shape) ∷ ns) rest)
      | inr off ↦ rw off rest
    ]
picked has t a (false ∷ flags) (shape ∷ shapes) are =
    let lacks : has a ≡ false = ap has (omega arith) ∙ are 0 in
    let rest = picked has t (a + 1) flags shapes (λ i. ap has (omega arith) ∙ are (suc i)) in
    elim (cases_Bool (shape.table == t)) [
      | inl on ↦ rw (on, lacks) rest
      | inr off ↦ rw off rest
    ]

pub chosen-on : (shapes : List IndexShape) (config : Config) (t : ℕ) → filter (λ n. has_candidate config n.0) (candidates_on shapes t) ≡ numbered_on shapes config t
chosen-on shapes config t = picked (has_candidate config) t 1 config.on shapes (flags-are config)

-- ## Offers of a configuration: those of what exists, and those of its candidates

pub offers-on : (cat : Catalogue) (block : Block) (shapes : List IndexShape) (config : Config) (s : ℕ) (slot : Slot) (table : Table) → slice_get block.slots s ≡ Some slot → table_at cat slot.table ≡ Some table →
    offers cat block shapes config s ≡ offers_on cat block shapes config s slot (Some table)
unfolding offers
offers-on cat block shapes config s slot table slot_found table_found =
    ap (offers_of cat block shapes config s) slot_found ∙ ap (offers_on cat block shapes config s slot) table_found

existing : Catalogue → Block → ℕ → Slot → Table → List Offer
existing cat block s slot table = map (path_offer cat block s slot table) (Heap ∷ map Existing table.indexes)

offers-parted : (cat : Catalogue) (block : Block) (shapes : List IndexShape) (config : Config) (s : ℕ) (slot : Slot) (table : Table) →
    offers_on cat block shapes config s slot (Some table) ≡ existing cat block s slot table ++ map (λ n. index_offer cat block s slot table n.1) (numbered_on shapes config slot.table)
unfolding existing
offers-parted cat block shapes config s slot table =
    let offer : Path → Offer = path_offer cat block s slot table in
    let ns = numbered_on shapes config slot.table in
    map-append offer (Heap ∷ map Existing table.indexes) (map candidate_path ns)
    ∙ ap (λ (back : List Offer). map offer (Heap ∷ map Existing table.indexes) ++ back) (map-same candidate_path offer (λ n. index_offer cat block s slot table n.1) (λ n. refl) ns)

pub none-on : (shapes : List IndexShape) (t : ℕ) → numbered_on shapes no_candidates t ≡ []
none-on shapes t = ap (filter (λ (n : ℕ × IndexShape). n.1.table == t)) (chosen-none MOST_CANDIDATES (enumerate_from 1 shapes))

pub offers-split : (cat : Catalogue) (block : Block) (shapes : List IndexShape) (config : Config) (s : ℕ) (slot : Slot) (table : Table) → slice_get block.slots s ≡ Some slot → table_at cat slot.table ≡ Some table →
    offers cat block shapes config s ≡ offers cat block shapes no_candidates s ++ map (λ n. index_offer cat block s slot table n.1) (numbered_on shapes config slot.table)
offers-split cat block shapes config s slot table slot_found table_found =
    let read : ℕ × IndexShape → Offer = λ n. index_offer cat block s slot table n.1 in
    let back : List Offer = map read (numbered_on shapes config slot.table) in
    let plain : offers cat block shapes no_candidates s ≡ existing cat block s slot table =
    offers-on cat block shapes no_candidates s slot table slot_found table_found ∙ offers-parted cat block shapes no_candidates s slot table
    ∙ append-none (existing cat block s slot table) (map read (numbered_on shapes no_candidates slot.table)) (ap (map read) (none-on shapes slot.table)) in
    offers-on cat block shapes config s slot table slot_found table_found ∙ offers-parted cat block shapes config s slot table
    ∙ ap (λ (front : List Offer). front ++ back) (sym plain)

-- ## The price at a slot is the least at which an offer gives the order

grants-same : (setting : TheSetting) (block : Block) (task : Task) (s : ℕ) (slot : Slot) (table : Table) (config : Config) (o : ℕ) → o < length (interesting_orders task s) →
    (numbered : List (ℕ × IndexShape)) (grants : List Grant) (best : Option ℕ) → AreEach (IsGrant setting block task s slot table) numbered grants →
    fold (λ b g. lesser b (granted config o g)) best grants
    ≡ fold (λ b n. lesser b (if has_candidate config n.0 then given (slice_index_or (interesting_orders task s) o []) (index_offer setting.cat block s slot table n.1) else None)) best numbered
grants-same setting block task s slot table config o within [] [] best are = refl
grants-same setting block task s slot table config o within [] (g ∷ gs) best are = absurd are
grants-same setting block task s slot table config o within (n ∷ ns) [] best are = absurd are
grants-same setting block task s slot table config o within (n ∷ ns) (g ∷ gs) best are =
    let orders = interesting_orders task s in
    let offer : Offer = index_offer setting.cat block s slot table n.1 in
    let is : IsGrant setting block task s slot table n g = are.0 in
    let priced : price_of g.prices o ≡ given (slice_index_or orders o []) offer =
    ap (λ (ps : List (Option ℕ)). price_of ps o) is.prices_are ∙ get_or-map (λ (r : Order). given r offer) orders o [] None within in
    let same : granted config o g ≡ (if has_candidate config n.0 then given (slice_index_or orders o []) offer else None) =
    ap (λ (a : ℕ). if has_candidate config a then price_of g.prices o else None) is.candidate_is
    ∙ ap (λ (p : Option ℕ). if has_candidate config n.0 then p else None) priced in
    ap (λ (p : Option ℕ). fold (λ b x. lesser b (granted config o x)) (lesser best p) gs) same
    ∙ grants-same setting block task s slot table config o within ns gs (lesser best (if has_candidate config n.0 then given (slice_index_or orders o []) offer else None)) are.1

pub slot-given : (setting : TheSetting) (block : Block) (task : Task) (s : ℕ) (slot : Slot) (own : SlotPart) (config : Config) (o : ℕ) →
    slice_get block.slots s ≡ Some slot → IsSlotPart setting block task s slot own → o < length (interesting_orders task s) →
    slot_price config own o ≡ least_given (slice_index_or (interesting_orders task s) o []) (offers setting.cat block setting.shapes config s)
slot-given setting block task s slot own config o found is within =
    let cat = setting.cat in
    let orders = interesting_orders task s in
    let order : Order = slice_index_or orders o [] in
    let table : Table = is.table in
    let read : ℕ × IndexShape → Offer = λ n. index_offer cat block s slot table n.1 in
    let plain : List Offer = offers cat block setting.shapes no_candidates s in
    let base : price_of own.base o ≡ least_given order plain =
    ap (λ (ps : List (Option ℕ)). price_of ps o) is.base_is ∙ get_or-map (λ (r : Order). least_given r plain) orders o [] None within in
    let first : slot_price config own o ≡ fold (λ b g. lesser b (granted config o g)) (least_given order plain) own.grants =
    ap (λ (b : Option ℕ). fold (λ b g. lesser b (granted config o g)) b own.grants) base in
    let second = grants-same setting block task s slot table config o within (candidates_on setting.shapes slot.table) own.grants (least_given order plain) is.grants_are in
    let third = least-filter (λ (n : ℕ × IndexShape). has_candidate config n.0) (λ n. given order (read n)) (least_given order plain) (candidates_on setting.shapes slot.table) in
    let fourth : fold (λ b n. lesser b (given order (read n))) (least_given order plain) (filter (λ n. has_candidate config n.0) (candidates_on setting.shapes slot.table))
    ≡ fold (λ b n. lesser b (given order (read n))) (least_given order plain) (numbered_on setting.shapes config slot.table) =
    ap (fold (λ b n. lesser b (given order (read n))) (least_given order plain)) (chosen-on setting.shapes config slot.table) in
    let fifth = least-map read (given order) (least_given order plain) (numbered_on setting.shapes config slot.table) in
    let sixth = fold-append (λ (b : Option ℕ) (offer : Offer). lesser b (given order offer)) None plain (map read (numbered_on setting.shapes config slot.table)) in
    let last = ap (least_given order) (offers-split cat block setting.shapes config s slot table found is.table_found) in
    first ∙ second ∙ third ∙ fourth ∙ fifth ∙ sym sixth ∙ sym last

-- ## That is a least price

pub given-gives : (order : Order) (offer : Offer) (p : ℕ) → given order offer ≡ Some p → BeginsWith offer.0 order × (offer.1 ≡ p)
given-gives order offer p e =
    elim (cases_Bool (is_same_order (take (length order) offer.0) order)) [
      | inl so ↦ let here : Some offer.1 ≡ Some p = sym (ap (λ (b : Bool). if b then Some offer.1 else None) so) ∙ e in ((begins_decides offer.0 order).0 so, cc)
      | inr not_so ↦ let none : None ≡ Some p = sym (ap (λ (b : Bool). if b then Some offer.1 else None) not_so) ∙ e in absurd (cc)
    ]

pub gives-given : (order : Order) (offer : Offer) → BeginsWith offer.0 order → given order offer ≡ Some offer.1
gives-given order offer begins = ap (λ (b : Bool). if b then Some offer.1 else None) ((begins_decides offer.0 order).1 begins)

offered-gives : (table : OfferTable) (s : ℕ) (order : Order) (price : ℕ) → IsOffered table s order price → IsSome (λ n. n ≤ price) (least_given order (table s))
offered-gives table s order price is =
    elim (slice_get_cases (table s) is.number).1 [
      | inl there ↦
          let offer : Offer = there.0 in
          let found : slice_get (table s) is.number ≡ Some offer = there.2 in
          let begins : BeginsWith offer.0 order = subst (λ (o : Option Offer). BeginsWith (option_map_or (λ x. x.0) o []) order) found is.begins in
          let costs : offer.1 ≡ price = sym (ap (λ (o : Option Offer). option_map_or (λ x. x.1) o 0) found) ∙ is.costs in
          least-most (given order) None (table s) is.number offer price found (gives-given order offer begins ∙ ap Some costs)
      | inr past ↦ absurd (omega (arith, is.within, past.0))
    ]

given-offered : (table : OfferTable) (s : ℕ) (order : Order) (price : ℕ) → least_given order (table s) ≡ Some price → IsOffered table s order price
given-offered table s order price e =
    elim (least-made (given order) None (table s) price e) [
      | inl none ↦ absurd (cc)
      | inr made ↦
          let gives = given-gives order made.element price made.gives in
          record {
            number = made.number;
            within = slice_get_within (table s) made.number made.element made.found;
            begins = subst (λ (o : Option Offer). BeginsWith (option_map_or (λ x. x.0) o []) order) (sym made.found) gives.0;
            costs = ap (λ (o : Option Offer). option_map_or (λ x. x.1) o 0) made.found ∙ gives.1;
          }
    ]

pub given-least : (table : OfferTable) (s : ℕ) (order : Order) (price : ℕ) → least_given order (table s) ≡ Some price → IsLeastPrice table s order price
given-least table s order price e =
    record {
      offered = given-offered table s order price e;
      none_less = λ other is. let less = offered-gives table s order other is in let same : less.number ≡ price = cc in omega (arith, same, less.holds);
    }

pub least-given : (table : OfferTable) (s : ℕ) (order : Order) (price : ℕ) → IsLeastPrice table s order price → least_given order (table s) ≡ Some price
least-given table s order price is =
    let less = offered-gives table s order price is.offered in
    let more : price ≤ less.number = is.none_less less.number (given-offered table s order less.number less.is) in
    let same : less.number ≡ price = omega (arith, less.holds, more) in
    less.is ∙ ap Some same

-- ## What a template costs

-- what is there of a price
pub price_or : Config → List SlotPart → Template → ℕ → ℕ
price_or config slots template s = unwrap_or (needed_price config slots template s) 0

price-is : (config : Config) (slots : List SlotPart) (template : Template) (s p : ℕ) → needed_price config slots template s ≡ Some p → price_or config slots template s ≡ p
unfolding price_or
price-is config slots template s p e = ap (λ (o : Option ℕ). unwrap_or o 0) e

-- the two sides of a sum that is there
pub record AreAdded (a b : Option ℕ) (c : ℕ) : Type 0 where
  pub left : ℕ
  pub left_is : a ≡ Some left
  pub right : ℕ
  pub right_is : b ≡ Some right
  pub sum : c ≡ left + right

pub plus-made : (a b : Option ℕ) (c : ℕ) → plus a b ≡ Some c → AreAdded a b c
plus-made None b c e = absurd (cc)
plus-made (Some a) None c e = absurd (cc)
plus-made (Some a) (Some b) c e = let same : a + b ≡ c = cc in record { left = a; left_is = refl; right = b; right_is = refl; sum = omega (arith, same) }

-- each slot gives what the template needs, and the cost is the sum
record IsSummed (config : Config) (slots : List SlotPart) (template : Template) (n c : ℕ) : Type 0 where
  each : (s : ℕ) → s < n → needed_price config slots template s ≡ Some (price_or config slots template s)
  sum : c ≡ template.internal + sum_below (price_or config slots template) n

cost-summed : (config : Config) (slots : List SlotPart) (template : Template) (n c : ℕ) → cost_below config slots template n ≡ Some c → IsSummed config slots template n c
unfolding cost_below price_or
cost-summed config slots template zero c e = let same : template.internal ≡ c = cc in record { each = λ s below. absurd (omega (arith, below)); sum = omega (arith, same) }
cost-summed config slots template (suc n) c e =
    let made = plus-made (cost_below config slots template n) (needed_price config slots template n) c e in
    let before : IsSummed config slots template n made.left = cost-summed config slots template n made.left made.left_is in
    let price : price_or config slots template n ≡ made.right = ap (λ (o : Option ℕ). unwrap_or o 0) made.right_is in
    let here : needed_price config slots template n ≡ Some (price_or config slots template n) = made.right_is ∙ ap Some (sym price) in
    record {
      each = λ s below.
          elim (cases_lt s n) [
            | inl earlier ↦ before.each s earlier
            | inr last ↦ let same : s ≡ n = omega (arith, last, below) in subst (λ k. needed_price config slots template k ≡ Some (price_or config slots template k)) (sym same) here
          ];
      sum = omega (arith, made.sum, before.sum, price);
    }

summed-cost : (config : Config) (slots : List SlotPart) (template : Template) (prices : ℕ → ℕ) (n : ℕ) → ((s : ℕ) → s < n → needed_price config slots template s ≡ Some (prices s)) →
    cost_below config slots template n ≡ Some (template.internal + sum_below prices n)
unfolding cost_below
summed-cost config slots template prices zero each = ap Some (omega arith)
summed-cost config slots template prices (suc n) each =
    let before : cost_below config slots template n ≡ Some (template.internal + sum_below prices n) = summed-cost config slots template prices n (λ s below. each s (omega (arith, below))) in
    let same : template.internal + sum_below prices n + prices n ≡ template.internal + (sum_below prices n + prices n) = omega arith in
    ap (λ (o : Option ℕ). plus o (needed_price config slots template n)) before
    ∙ ap (plus (Some (template.internal + sum_below prices n))) (each n (omega arith)) ∙ ap Some same

-- ## The least cost of a part

-- a slot gives what a template needs at the least price of an offer
needed-given : (setting : TheSetting) (blocked : Blocked) (part : Part) (config : Config) (is : IsPart setting blocked part) (i : ℕ) (template : Template) → slice_get part.templates i ≡ Some template → (s : ℕ) → s < is.task.slots →
    needed_price config part.slots template s ≡ least_given (needed is.task template s) (offers setting.cat blocked.block setting.shapes config s)
needed-given setting blocked part config is i template template_found s below =
    let block : Block = blocked.block in
    let inside : s < length block.slots = omega (arith, below, is.task_is.slots_are) in
    elim (slice_get_cases block.slots s).1 [
      | inl slot ↦
          elim (slice_get_cases part.slots s).1 [
            | inl own ↦
                let slot_is : IsSlotPart setting block is.task s slot.0 own.0 = is.slots_are s slot.0 own.0 slot.2 own.2 in
                let limits : TemplateLimits part.slots template = All-some (TemplateLimits part.slots) part.templates i template part.limits.templates_limits template_found in
                let count : length own.0.base ≡ length (interesting_orders is.task s) =
                ap length slot_is.base_is ∙ length-map (interesting_orders is.task s) (λ (order : Order). least_given order (offers setting.cat block setting.shapes no_candidates s)) in
                let within : need template s < length (interesting_orders is.task s) = omega (arith, limits.needs_within s own.0 own.2, count) in
                ap (option_and_then (λ (x : SlotPart). slot_price config x (need template s))) own.2
                ∙ slot-given setting block is.task s slot.0 own.0 config (need template s) slot.2 slot_is within
            | inr past ↦ absurd (omega (arith, past.0, inside, is.slots_count))
          ]
      | inr past ↦ absurd (omega (arith, past.0, inside))
    ]

pub slots-same : (setting : TheSetting) (blocked : Blocked) (part : Part) → (is : IsPart setting blocked part) → length part.slots ≡ is.task.slots
slots-same setting blocked part is = is.slots_count ∙ sym is.task_is.slots_are

part-cached : (setting : TheSetting) (blocked : Blocked) (part : Part) (config : Config) (is : IsPart setting blocked part) (cost : ℕ) → least_cost part config ≡ Some cost →
    CachedBy (IsIn is.task part.templates) is.task (offers setting.cat blocked.block setting.shapes config) cost
part-cached setting blocked part config is cost e =
    let task : Task = is.task in
    let table : OfferTable = offers setting.cat blocked.block setting.shapes config in
    elim (least-made (template_cost config part.slots) None part.templates cost e) [
      | inl none ↦ absurd (cc)
      | inr made ↦
          let template : Template = made.element in
          let gives : cost_below config part.slots template task.slots ≡ Some cost = subst (λ n. cost_below config part.slots template n ≡ Some cost) (slots-same setting blocked part is) made.gives in
          let summed : IsSummed config part.slots template task.slots cost = cost-summed config part.slots template task.slots cost gives in
          record {
            needs = needed task template;
            internal = template.internal;
            template = record { number = made.number; template = template; found = made.found; needs_are = λ s. refl; internal_is = refl };
            priced =
                record {
                  prices = price_or config part.slots template;
                  each = λ s below.
                      given-least table s (needed task template s) (price_or config part.slots template s)
                      (sym (needed-given setting blocked part config is made.number template made.found s below) ∙ summed.each s below);
                  sum = summed.sum;
                };
            none_less = λ other above sum in_list priced.
                let rival : Template = in_list.template in
                let each : (s : ℕ) → s < task.slots → needed_price config part.slots rival s ≡ Some (priced.prices s) = λ s below.
                needed-given setting blocked part config is in_list.number rival in_list.found s below
                ∙ least-given table s (needed task rival s) (priced.prices s) (subst (λ (order : Order). IsLeastPrice table s order (priced.prices s)) (in_list.needs_are s) (priced.each s below)) in
                let costs : cost_below config part.slots rival task.slots ≡ Some (rival.internal + sum_below priced.prices task.slots) = summed-cost config part.slots rival priced.prices task.slots each in
                let own : template_cost config part.slots rival ≡ Some (rival.internal + sum_below priced.prices task.slots) =
                subst (λ n. cost_below config part.slots rival n ≡ Some (rival.internal + sum_below priced.prices task.slots)) (sym (slots-same setting blocked part is)) costs in
                let least = least-most (template_cost config part.slots) None part.templates in_list.number rival (rival.internal + sum_below priced.prices task.slots) in_list.found own in
                let same : least.number ≡ cost = cc in
                omega (arith, least.holds, same, priced.sum, in_list.internal_is);
          }
    ]

-- some template asks for nothing, and so there is a least cost
part-costs : (setting : TheSetting) (blocked : Blocked) (part : Part) (config : Config) → NamesBlock setting.cat blocked.block → (is : IsPart setting blocked part) → IsSome (λ n. 0 ≤ n) (least_cost part config)
part-costs setting blocked part config named is =
    let task : Task = is.task in
    let plain : SomeAsksNothing task part.templates = some-asks-nothing task part.templates is.decompose in
    let template : Template = plain.template in
    let table : OfferTable = offers setting.cat blocked.block setting.shapes config in
    let each : (s : ℕ) → s < task.slots → needed_price config part.slots template s ≡ Some (price_or config part.slots template s) = λ s below.
    let some : 0 < length (table s) = (tables-offered setting.cat blocked.block named setting.shapes config).some s (omega (arith, below, is.task_is.slots_are)) in
    let order : needed task template s ≡ [] = plain.asks_nothing s below in
    let given_is = needed-given setting blocked part config is plain.number template plain.found s below in
    elim (slice_get_cases (table s) 0).1 [
      | inl offer ↦
          let priced = least-most (given []) None (table s) 0 offer.0 offer.0.1 offer.2 (gives-given [] offer.0 (begins_nil offer.0.0)) in
          let there : needed_price config part.slots template s ≡ Some priced.number = given_is ∙ ap (λ (o : Order). least_given o (table s)) order ∙ priced.is in
          there ∙ ap Some (sym (price-is config part.slots template s priced.number there))
      | inr past ↦ absurd (omega (arith, some, past.0))
    ] in
    let costs : cost_below config part.slots template task.slots ≡ Some (template.internal + sum_below (price_or config part.slots template) task.slots) =
    summed-cost config part.slots template (price_or config part.slots template) task.slots each in
    let own : template_cost config part.slots template ≡ Some (template.internal + sum_below (price_or config part.slots template) task.slots) =
    subst (λ n. cost_below config part.slots template n ≡ Some (template.internal + sum_below (price_or config part.slots template) task.slots)) (sym (slots-same setting blocked part is)) costs in
    let least = least-most (template_cost config part.slots) None part.templates plain.number template (template.internal + sum_below (price_or config part.slots template) task.slots) plain.found own in
    record { number = least.number; is = least.is; holds = omega arith }

-- The cost of a part is that of a least plan of its block.
pub part-least : (setting : TheSetting) (blocked : Blocked) (part : Part) (config : Config) → NamesBlock setting.cat blocked.block → (is : IsPart setting blocked part) →
    Least is.task (offers setting.cat blocked.block setting.shapes config) (part_cost part config)
unfolding part_cost
part-least setting blocked part config named is =
    let table : OfferTable = offers setting.cat blocked.block setting.shapes config in
    let some = part-costs setting blocked part config named is in
    let cost : unwrap_or (least_cost part config) 0 ≡ some.number = ap (λ (o : Option ℕ). unwrap_or o 0) some.is in
    subst (Least is.task table) (sym cost)
    ((is.decompose table some.number (offers-limits setting.cat blocked.block setting.shapes config)).0 (part-cached setting blocked part config is some.number some.is))
