-- In a programme that stands for a setting, the cost of a part where candidates pay rents is that of a least plan of its
-- block with these rents.
use Rattle.std.proofs.Common.{◌≡◌, ◌∙◌, inl, inr, ℕ, zero, suc, ◌+◌, ◌<◌, ◌≤◌, Bool, true, false, List, [], ◌∷◌, ◌++◌, length, fold, map, take, drop, refl, sym, ap, subst, arith}
use Rattle.std.specs.Prelude.{Option, Some, None, if◌then◌else◌, filter, slice_get, slice_index_or, option_and_then, unwrap_or}
use Rattle.std.specs.Option.{option_map}
use Rattle.std.proofs.lemmas.Bool.{cases_lt}
use Rattle.std.proofs.lemmas.List.{drop-drop, get_or-map, length-map, map-append}
use Rattle.std.proofs.lemmas.List.Sums.{fold-append, sum_by-cons}
use Rattle.std.proofs.lemmas.Option.{slice_get_cases}
use Rattle.adv_base.specs.declared.catalogue.Catalogue.{Catalogue}
use Rattle.adv_base.specs.declared.catalogue.index.Index.{Index}
use Rattle.adv_base.specs.declared.catalogue.index.IndexShape.{IndexShape}
use Rattle.adv_base.specs.declared.catalogue.table.Table.{Table}
use Rattle.adv_base.specs.declared.setting.Config.{Config}
use Rattle.adv_base.specs.declared.workload.block.Block.{Block}
use Rattle.adv_base.specs.declared.workload.parts.Slot.{Slot}
use Rattle.adv_base.specs.Configs.{has_candidate}
use Rattle.adv_base.specs.Items.{Order, is_same_order}
use Rattle.adv_base.specs.Laws.{IsRent}
use Rattle.adv_base.specs.Lookups.{table_at}
use Rattle.adv_base.specs.Named.{NamesBlock}
use Rattle.adv_base.specs.Offers.{Offer, OfferTable, Path, Heap, Existing, candidate_path, numbered_on, path_offer, charged_path_offer, index_offer, offers, charged_offers_on, charged_offers_of, charged_offers}
use Rattle.adv_base.specs.Settings.{TheSetting}
use Rattle.adv_base.proofs.Begins.{begins_nil}
use Rattle.adv_base.proofs.OfferBounds.{charged-limits, tables-charged}
use Rattle.plan_model.specs.declared.task.Task.{Task}
use Rattle.plan_model.specs.declared.template.Template.{Template}
use Rattle.plan_model.specs.Combinations.{IsLeastPrice, CachedBy, needed, IsIn, SomeAsksNothing}
use Rattle.plan_model.specs.Exchange.{sum_below}
use Rattle.plan_model.specs.Least.{Least}
use Rattle.plan_model.specs.Orders.{interesting_orders}
use Rattle.plan_model.specs.Totals.{no_candidates}
use Rattle.plan_model.proofs.AsksNothing.{some-asks-nothing}
use Rattle.bip_model.specs.declared.grant.Grant.{Grant}
use Rattle.bip_model.specs.declared.slot_part.SlotPart.{SlotPart}
use Rattle.bip_model.specs.declared.part.Part.{Part}
use Rattle.bip_model.specs.Limits.Parts.{TemplateLimits}
use Rattle.bip_model.specs.Values.{lesser, plus, price_of, need}
use Rattle.bip_model.specs.StandsFor.{given, least_given, candidates_on, AreEach, IsGrant, IsSlotPart, Blocked, IsPart}
use Rattle.bip_model.proofs.Least.{IsSome, least-made, least-most, least-filter, least-map}
use Rattle.bip_model.proofs.Standing.{chosen-on, gives-given, given-least, least-given, offers-on, slots-same, none-on, plus-made}
use Rattle.bip_model.proofs.Lists.{map-same, append-none, All-some}
use Rattle.lagrange_bound.specs.Rented.{asked, least_asked, rented_price, grants_before, needed_price, cost_below, template_cost, least_cost, rented_cost}
use Rattle.lagrange_bound.proofs.RentPlaces.{RentsAre, SlotsAre}

-- ## Offers with rents: those of what exists, and those of candidates

-- the offer of a numbered candidate, with its rent
charged_index : (ℕ → ℕ → ℕ) → Catalogue → Block → ℕ → Slot → Table → ℕ × IndexShape → Offer
charged_index rent cat block s slot table numbered = charged_path_offer rent cat block s slot table (candidate_path numbered)

charged-on : (rent : ℕ → ℕ → ℕ) (cat : Catalogue) (block : Block) (shapes : List IndexShape) (config : Config) (s : ℕ) (slot : Slot) (table : Table) → slice_get block.slots s ≡ Some slot → table_at cat slot.table ≡ Some table →
    charged_offers rent cat block shapes config s ≡ charged_offers_on rent cat block shapes config s slot (Some table)
unfolding charged_offers
charged-on rent cat block shapes config s slot table slot_found table_found =
    ap (charged_offers_of rent cat block shapes config s) slot_found ∙ ap (charged_offers_on rent cat block shapes config s slot) table_found

-- what exists has no rent
existing-plain : (rent : ℕ → ℕ → ℕ) (cat : Catalogue) (block : Block) (s : ℕ) (slot : Slot) (table : Table) (indexes : List Index) →
    map (charged_path_offer rent cat block s slot table) (map Existing indexes) ≡ map (path_offer cat block s slot table) (map Existing indexes)
existing-plain rent cat block s slot table indexes =
    map-same Existing (charged_path_offer rent cat block s slot table) (λ index. path_offer cat block s slot table (Existing index)) (λ index. refl) indexes
    ∙ sym (map-same Existing (path_offer cat block s slot table) (λ index. path_offer cat block s slot table (Existing index)) (λ index. refl) indexes)

plain-on : (cat : Catalogue) (block : Block) (shapes : List IndexShape) (s : ℕ) (slot : Slot) (table : Table) → slice_get block.slots s ≡ Some slot → table_at cat slot.table ≡ Some table →
    offers cat block shapes no_candidates s ≡ map (path_offer cat block s slot table) (Heap ∷ map Existing table.indexes)
plain-on cat block shapes s slot table slot_found table_found =
    let offer : Path → Offer = path_offer cat block s slot table in
    let ns = numbered_on shapes no_candidates slot.table in
    let none : map candidate_path ns ≡ [] = ap (map candidate_path) (none-on shapes slot.table) in
    offers-on cat block shapes no_candidates s slot table slot_found table_found
    ∙ ap (map offer) (append-none (Heap ∷ map Existing table.indexes) (map candidate_path ns) none)

charged-split : (rent : ℕ → ℕ → ℕ) (cat : Catalogue) (block : Block) (shapes : List IndexShape) (config : Config) (s : ℕ) (slot : Slot) (table : Table) → slice_get block.slots s ≡ Some slot → table_at cat slot.table ≡ Some table →
    charged_offers rent cat block shapes config s ≡ offers cat block shapes no_candidates s ++ map (charged_index rent cat block s slot table) (numbered_on shapes config slot.table)
unfolding charged_index
charged-split rent cat block shapes config s slot table slot_found table_found =
    let charged : Path → Offer = charged_path_offer rent cat block s slot table in
    let ns = numbered_on shapes config slot.table in
    let front : map charged (Heap ∷ map Existing table.indexes) ≡ map (path_offer cat block s slot table) (Heap ∷ map Existing table.indexes) =
    ap (λ (os : List Offer). charged Heap ∷ os) (existing-plain rent cat block s slot table table.indexes) in
    charged-on rent cat block shapes config s slot table slot_found table_found
    ∙ map-append charged (Heap ∷ map Existing table.indexes) (map candidate_path ns)
    ∙ ap (λ (back : List Offer). map charged (Heap ∷ map Existing table.indexes) ++ back) (map-same candidate_path charged (charged_index rent cat block s slot table) (λ n. refl) ns)
    ∙ ap (λ (os : List Offer). os ++ map (charged_index rent cat block s slot table) ns) (front ∙ sym (plain-on cat block shapes s slot table slot_found table_found))

-- ## The price at a slot is the least at which an offer gives the order

-- a rent raises the price at which an offer gives an order
given-raised : (order own : Order) (price rent : ℕ) → given order (own, price + rent) ≡ option_map (λ p. p + rent) (given order (own, price))
given-raised order own price rent = choose (is_same_order (take (length order) own) order)
  where
    choose : (b : Bool) → (if b then Some (price + rent) else None) ≡ option_map (λ p. p + rent) (if b then Some price else None)
    choose true = refl
    choose false = refl

-- what a grant asks where it may not be used
asked-if : (b : Bool) (price : Option ℕ) (rent : ℕ) → option_map (λ p. p + rent) (if b then price else None) ≡ (if b then option_map (λ p. p + rent) price else None)
asked-if true price rent = refl
asked-if false price rent = refl

grants-same : (rent : ℕ → ℕ → ℕ) (setting : TheSetting) (block : Block) (task : Task) (s : ℕ) (slot : Slot) (table : Table) (config : Config) (o : ℕ) → o < length (interesting_orders task s) →
    (numbered : List (ℕ × IndexShape)) (grants : List Grant) (rents : List ℕ) (best : Option ℕ) → AreEach (IsGrant setting block task s slot table) numbered grants → RentsAre (rent s) grants rents →
    least_asked config o best grants rents
    ≡ fold (λ b n. lesser b (if has_candidate config n.0 then given (slice_index_or (interesting_orders task s) o []) (charged_index rent setting.cat block s slot table n) else None)) best numbered
unfolding charged_index
grants-same rent setting block task s slot table config o within [] [] rents best are rented = refl
grants-same rent setting block task s slot table config o within [] (g ∷ gs) rents best are rented = absurd are
grants-same rent setting block task s slot table config o within (n ∷ ns) [] rents best are rented = absurd are
grants-same rent setting block task s slot table config o within (n ∷ ns) (g ∷ gs) [] best are rented = absurd rented
grants-same rent setting block task s slot table config o within (n ∷ ns) (g ∷ gs) (r ∷ rs) best are rented =
    let orders = interesting_orders task s in
    let order : Order = slice_index_or orders o [] in
    let offer : Offer = index_offer setting.cat block s slot table n.1 in
    let is : IsGrant setting block task s slot table n g = are.0 in
    let priced : price_of g.prices o ≡ given order offer =
    ap (λ (ps : List (Option ℕ)). price_of ps o) is.prices_are ∙ get_or-map (λ (r : Order). given r offer) orders o [] None within in
    let own : r ≡ rent s n.0 = sym rented.0 ∙ ap (rent s) is.candidate_is in
    let same : asked config o g r ≡ (if has_candidate config n.0 then given order (charged_index rent setting.cat block s slot table n) else None) =
    ap (λ (a : ℕ). option_map (λ p. p + r) (if has_candidate config a then price_of g.prices o else None)) is.candidate_is
    ∙ ap (λ (p : Option ℕ). option_map (λ p. p + r) (if has_candidate config n.0 then p else None)) priced
    ∙ asked-if (has_candidate config n.0) (given order offer) r
    ∙ ap (λ (x : ℕ). if has_candidate config n.0 then option_map (λ p. p + x) (given order offer) else None) own
    ∙ ap (λ (p : Option ℕ). if has_candidate config n.0 then p else None) (sym (given-raised order offer.0 offer.1 (rent s n.0))) in
    ap (λ (p : Option ℕ). least_asked config o (lesser best p) gs rs) same
    ∙ grants-same rent setting block task s slot table config o within ns gs rs (lesser best (if has_candidate config n.0 then given order (charged_index rent setting.cat block s slot table n) else None)) are.1 rented.1

slot-given : (rent : ℕ → ℕ → ℕ) (setting : TheSetting) (block : Block) (task : Task) (s : ℕ) (slot : Slot) (own : SlotPart) (config : Config) (rents : List ℕ) (o : ℕ) →
    slice_get block.slots s ≡ Some slot → IsSlotPart setting block task s slot own → RentsAre (rent s) own.grants rents → o < length (interesting_orders task s) →
    rented_price config own rents o ≡ least_given (slice_index_or (interesting_orders task s) o []) (charged_offers rent setting.cat block setting.shapes config s)
slot-given rent setting block task s slot own config rents o found is rented within =
    let cat = setting.cat in
    let orders = interesting_orders task s in
    let order : Order = slice_index_or orders o [] in
    let table : Table = is.table in
    let read : ℕ × IndexShape → Offer = charged_index rent cat block s slot table in
    let plain : List Offer = offers cat block setting.shapes no_candidates s in
    let base : price_of own.base o ≡ least_given order plain =
    ap (λ (ps : List (Option ℕ)). price_of ps o) is.base_is ∙ get_or-map (λ (r : Order). least_given r plain) orders o [] None within in
    let first : rented_price config own rents o ≡ least_asked config o (least_given order plain) own.grants rents =
    ap (λ (b : Option ℕ). least_asked config o b own.grants rents) base in
    let second = grants-same rent setting block task s slot table config o within (candidates_on setting.shapes slot.table) own.grants rents (least_given order plain) is.grants_are rented in
    let third = least-filter (λ (n : ℕ × IndexShape). has_candidate config n.0) (λ n. given order (read n)) (least_given order plain) (candidates_on setting.shapes slot.table) in
    let fourth : fold (λ b n. lesser b (given order (read n))) (least_given order plain) (filter (λ n. has_candidate config n.0) (candidates_on setting.shapes slot.table))
    ≡ fold (λ b n. lesser b (given order (read n))) (least_given order plain) (numbered_on setting.shapes config slot.table) =
    ap (fold (λ b n. lesser b (given order (read n))) (least_given order plain)) (chosen-on setting.shapes config slot.table) in
    let fifth = least-map read (given order) (least_given order plain) (numbered_on setting.shapes config slot.table) in
    let sixth = fold-append (λ (b : Option ℕ) (offer : Offer). lesser b (given order offer)) None plain (map read (numbered_on setting.shapes config slot.table)) in
    let last = ap (least_given order) (charged-split rent cat block setting.shapes config s slot table found is.table_found) in
    first ∙ second ∙ third ∙ fourth ∙ fifth ∙ sym sixth ∙ sym last

-- ## The rents of a slot

-- they are the front of what the slots before leave
slot-rents-at : (rent : ℕ → ℕ → ℕ) (k : ℕ) (slots : List SlotPart) (rents : List ℕ) (s : ℕ) (own : SlotPart) → SlotsAre rent k slots rents → slice_get slots s ≡ Some own →
    RentsAre (rent (k + s)) own.grants (drop (grants_before slots s) rents)
slot-rents-at rent k [] rents s own are found = absurd (cc)
slot-rents-at rent k (slot ∷ slots) rents zero own are found =
    let same : slot ≡ own = cc in
    let here : k ≡ k + 0 = omega arith in
    subst (λ (x : SlotPart). RentsAre (rent (k + 0)) x.grants rents) same (subst (λ (n : ℕ). RentsAre (rent n) slot.grants rents) here are.0)
slot-rents-at rent k (slot ∷ slots) rents (suc s) own are found =
    let later = slot-rents-at rent (suc k) slots (drop (length slot.grants) rents) s own are.1 found in
    let next : suc k + s ≡ k + suc s = omega arith in
    let count : grants_before (slot ∷ slots) (suc s) ≡ length slot.grants + grants_before slots s = sum_by-cons (λ (x : SlotPart). length x.grants) slot (take s slots) in
    let left : drop (grants_before slots s) (drop (length slot.grants) rents) ≡ drop (grants_before (slot ∷ slots) (suc s)) rents =
    drop-drop (grants_before slots s) (length slot.grants) rents ∙ ap (λ (n : ℕ). drop n rents) (sym count) in
    subst (λ (rs : List ℕ). RentsAre (rent (k + suc s)) own.grants rs) left
    (subst (λ (n : ℕ). RentsAre (rent n) own.grants (drop (grants_before slots s) (drop (length slot.grants) rents))) next later)

-- ## What a template costs

-- what is there of a price
price_or : Config → List SlotPart → List ℕ → Template → ℕ → ℕ
price_or config slots rents template s = unwrap_or (needed_price config slots rents template s) 0

-- each slot gives what the template needs, and the cost is the sum
record IsSummed (config : Config) (slots : List SlotPart) (rents : List ℕ) (template : Template) (n c : ℕ) : Type 0 where
  each : (s : ℕ) → s < n → needed_price config slots rents template s ≡ Some (price_or config slots rents template s)
  sum : c ≡ template.internal + sum_below (price_or config slots rents template) n

cost-summed : (config : Config) (slots : List SlotPart) (rents : List ℕ) (template : Template) (n c : ℕ) → cost_below config slots rents template n ≡ Some c → IsSummed config slots rents template n c
unfolding cost_below price_or
cost-summed config slots rents template zero c e = let same : template.internal ≡ c = cc in record { each = λ s below. absurd (omega (arith, below)); sum = omega (arith, same) }
cost-summed config slots rents template (suc n) c e =
    let made = plus-made (cost_below config slots rents template n) (needed_price config slots rents template n) c e in
    let before : IsSummed config slots rents template n made.left = cost-summed config slots rents template n made.left made.left_is in
    let price : price_or config slots rents template n ≡ made.right = ap (λ (o : Option ℕ). unwrap_or o 0) made.right_is in
    let here : needed_price config slots rents template n ≡ Some (price_or config slots rents template n) = made.right_is ∙ ap Some (sym price) in
    record {
      each = λ s below.
          elim (cases_lt s n) [
            | inl earlier ↦ before.each s earlier
            | inr last ↦ let same : s ≡ n = omega (arith, last, below) in subst (λ k. needed_price config slots rents template k ≡ Some (price_or config slots rents template k)) (sym same) here
          ];
      sum = omega (arith, made.sum, before.sum, price);
    }

summed-cost : (config : Config) (slots : List SlotPart) (rents : List ℕ) (template : Template) (prices : ℕ → ℕ) (n : ℕ) → ((s : ℕ) → s < n → needed_price config slots rents template s ≡ Some (prices s)) →
    cost_below config slots rents template n ≡ Some (template.internal + sum_below prices n)
unfolding cost_below
summed-cost config slots rents template prices zero each = ap Some (omega arith)
summed-cost config slots rents template prices (suc n) each =
    let before : cost_below config slots rents template n ≡ Some (template.internal + sum_below prices n) = summed-cost config slots rents template prices n (λ s below. each s (omega (arith, below))) in
    let same : template.internal + sum_below prices n + prices n ≡ template.internal + (sum_below prices n + prices n) = omega arith in
    ap (λ (o : Option ℕ). plus o (needed_price config slots rents template n)) before
    ∙ ap (plus (Some (template.internal + sum_below prices n))) (each n (omega arith)) ∙ ap Some same

-- ## The least cost of a part

-- a slot gives what a template needs at the least price of an offer
needed-given : (rent : ℕ → ℕ → ℕ) (setting : TheSetting) (blocked : Blocked) (part : Part) (config : Config) (rents : List ℕ) (is : IsPart setting blocked part) → SlotsAre rent 0 part.slots rents →
    (i : ℕ) (template : Template) → slice_get part.templates i ≡ Some template → (s : ℕ) → s < is.task.slots →
    needed_price config part.slots rents template s ≡ least_given (needed is.task template s) (charged_offers rent setting.cat blocked.block setting.shapes config s)
needed-given rent setting blocked part config rents is rented i template template_found s below =
    let block : Block = blocked.block in
    let inside : s < length block.slots = omega (arith, below, is.task_is.slots_are) in
    elim (slice_get_cases block.slots s).1 [
      | inl slot ↦
          elim (slice_get_cases part.slots s).1 [
            | inl own ↦
                let slot_is : IsSlotPart setting block is.task s slot.0 own.0 = is.slots_are s slot.0 own.0 slot.2 own.2 in
                let limits : TemplateLimits part.slots template = All-some (TemplateLimits part.slots) part.templates i template part.limits.templates_limits template_found in
                let count : length own.0.base ≡ length (interesting_orders is.task s) =
                ap length slot_is.base_is ∙ length-map (interesting_orders is.task s) (λ (order : Order). least_given order (offers setting.cat block setting.shapes no_candidates s)) in
                let within : need template s < length (interesting_orders is.task s) = omega (arith, limits.needs_within s own.0 own.2, count) in
                let front : List ℕ = drop (grants_before part.slots s) rents in
                let none : 0 + s ≡ s = omega arith in
                let paid : RentsAre (rent s) own.0.grants front = subst (λ (n : ℕ). RentsAre (rent n) own.0.grants front) none (slot-rents-at rent 0 part.slots rents s own.0 rented own.2) in
                ap (option_and_then (λ (x : SlotPart). rented_price config x front (need template s))) own.2
                ∙ slot-given rent setting block is.task s slot.0 own.0 config front (need template s) slot.2 slot_is paid within
            | inr past ↦ absurd (omega (arith, past.0, inside, is.slots_count))
          ]
      | inr past ↦ absurd (omega (arith, past.0, inside))
    ]

part-cached : (rent : ℕ → ℕ → ℕ) (setting : TheSetting) (blocked : Blocked) (part : Part) (config : Config) (rents : List ℕ) (is : IsPart setting blocked part) → SlotsAre rent 0 part.slots rents → (cost : ℕ) → least_cost config part rents ≡ Some cost →
    CachedBy (IsIn is.task part.templates) is.task (charged_offers rent setting.cat blocked.block setting.shapes config) cost
part-cached rent setting blocked part config rents is rented cost e =
    let task : Task = is.task in
    let table : OfferTable = charged_offers rent setting.cat blocked.block setting.shapes config in
    elim (least-made (template_cost config part.slots rents) None part.templates cost e) [
      | inl none ↦ absurd (cc)
      | inr made ↦
          let template : Template = made.element in
          let gives : cost_below config part.slots rents template task.slots ≡ Some cost = subst (λ n. cost_below config part.slots rents template n ≡ Some cost) (slots-same setting blocked part is) made.gives in
          let summed : IsSummed config part.slots rents template task.slots cost = cost-summed config part.slots rents template task.slots cost gives in
          record {
            needs = needed task template;
            internal = template.internal;
            template = record { number = made.number; template = template; found = made.found; needs_are = λ s. refl; internal_is = refl };
            priced =
                record {
                  prices = price_or config part.slots rents template;
                  each = λ s below.
                      given-least table s (needed task template s) (price_or config part.slots rents template s)
                      (sym (needed-given rent setting blocked part config rents is rented made.number template made.found s below) ∙ summed.each s below);
                  sum = summed.sum;
                };
            none_less = λ other above sum in_list priced.
                let rival : Template = in_list.template in
                let each : (s : ℕ) → s < task.slots → needed_price config part.slots rents rival s ≡ Some (priced.prices s) = λ s below.
                needed-given rent setting blocked part config rents is rented in_list.number rival in_list.found s below
                ∙ least-given table s (needed task rival s) (priced.prices s) (subst (λ (order : Order). IsLeastPrice table s order (priced.prices s)) (in_list.needs_are s) (priced.each s below)) in
                let costs : cost_below config part.slots rents rival task.slots ≡ Some (rival.internal + sum_below priced.prices task.slots) = summed-cost config part.slots rents rival priced.prices task.slots each in
                let own : template_cost config part.slots rents rival ≡ Some (rival.internal + sum_below priced.prices task.slots) =
                subst (λ n. cost_below config part.slots rents rival n ≡ Some (rival.internal + sum_below priced.prices task.slots)) (sym (slots-same setting blocked part is)) costs in
                let least = least-most (template_cost config part.slots rents) None part.templates in_list.number rival (rival.internal + sum_below priced.prices task.slots) in_list.found own in
                let same : least.number ≡ cost = cc in
                omega (arith, least.holds, same, priced.sum, in_list.internal_is);
          }
    ]

-- some template asks for nothing, and so there is a least cost
part-costs : (rent : ℕ → ℕ → ℕ) (setting : TheSetting) (blocked : Blocked) (part : Part) (config : Config) (rents : List ℕ) → NamesBlock setting.cat blocked.block → (is : IsPart setting blocked part) → SlotsAre rent 0 part.slots rents →
    IsSome (λ n. 0 ≤ n) (least_cost config part rents)
unfolding price_or
part-costs rent setting blocked part config rents named is rented =
    let task : Task = is.task in
    let plain : SomeAsksNothing task part.templates = some-asks-nothing task part.templates is.decompose in
    let template : Template = plain.template in
    let table : OfferTable = charged_offers rent setting.cat blocked.block setting.shapes config in
    let each : (s : ℕ) → s < task.slots → needed_price config part.slots rents template s ≡ Some (price_or config part.slots rents template s) = λ s below.
    let some : 0 < length (table s) = (tables-charged rent setting.cat blocked.block named setting.shapes config).some s (omega (arith, below, is.task_is.slots_are)) in
    let order : needed task template s ≡ [] = plain.asks_nothing s below in
    let given_is = needed-given rent setting blocked part config rents is rented plain.number template plain.found s below in
    elim (slice_get_cases (table s) 0).1 [
      | inl offer ↦
          let priced = least-most (given []) None (table s) 0 offer.0 offer.0.1 offer.2 (gives-given [] offer.0 (begins_nil offer.0.0)) in
          let there : needed_price config part.slots rents template s ≡ Some priced.number = given_is ∙ ap (λ (o : Order). least_given o (table s)) order ∙ priced.is in
          let price : price_or config part.slots rents template s ≡ priced.number = ap (λ (o : Option ℕ). unwrap_or o 0) there in
          there ∙ ap Some (sym price)
      | inr past ↦ absurd (omega (arith, some, past.0))
    ] in
    let costs : cost_below config part.slots rents template task.slots ≡ Some (template.internal + sum_below (price_or config part.slots rents template) task.slots) =
    summed-cost config part.slots rents template (price_or config part.slots rents template) task.slots each in
    let own : template_cost config part.slots rents template ≡ Some (template.internal + sum_below (price_or config part.slots rents template) task.slots) =
    subst (λ n. cost_below config part.slots rents template n ≡ Some (template.internal + sum_below (price_or config part.slots rents template) task.slots)) (sym (slots-same setting blocked part is)) costs in
    let least = least-most (template_cost config part.slots rents) None part.templates plain.number template (template.internal + sum_below (price_or config part.slots rents template) task.slots) plain.found own in
    record { number = least.number; is = least.is; holds = omega arith }

-- The cost of a part with rents is that of a least plan of its block with them.
pub rented-least : (rent : ℕ → ℕ → ℕ) (setting : TheSetting) (blocked : Blocked) (part : Part) (config : Config) (rents : List ℕ) → IsRent rent → NamesBlock setting.cat blocked.block → (is : IsPart setting blocked part) → SlotsAre rent 0 part.slots rents →
    Least is.task (charged_offers rent setting.cat blocked.block setting.shapes config) (rented_cost config part rents)
unfolding rented_cost
rented-least rent setting blocked part config rents limit named is rented =
    let table : OfferTable = charged_offers rent setting.cat blocked.block setting.shapes config in
    let some = part-costs rent setting blocked part config rents named is rented in
    let cost : unwrap_or (least_cost config part rents) 0 ≡ some.number = ap (λ (o : Option ℕ). unwrap_or o 0) some.is in
    subst (Least is.task table) (sym cost)
    ((is.decompose table some.number (charged-limits rent limit setting.cat blocked.block setting.shapes config)).0 (part-cached rent setting blocked part config rents is rented some.number some.is))
