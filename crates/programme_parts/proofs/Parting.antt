-- The offers of a slot under every candidate: those of what exists, and behind them those of the candidates on its table.
use Rattle.std.proofs.Common.{◌≡◌, ◌∙◌, inl, inr, ℕ, zero, suc, ◌+◌, ◌<◌, ◌≤◌, ◌==◌, Bool, true, false, List, [], ◌∷◌, ◌++◌, length, get_or, All, map, refl, sym, ap, subst, arith}
use Rattle.std.specs.Prelude.{Some, None, filter, slice_get, option_and_then}
use Rattle.std.specs.List.{enumerate_from}
use Rattle.std.proofs.lemmas.List.{append-nil}
use Rattle.std.proofs.lemmas.List.Elements.{All-filter}
use Rattle.std.proofs.lemmas.List.FromFn.{length-enumerate_from, get_or-enumerate_from}
use Rattle.std.proofs.lemmas.Option.{slice_get_cases, slice_get_within, get_or_from_slice_get}
use Rattle.access_paths.specs.declared.slot_offers.SlotOffers.{SlotOffers}
use Rattle.access_paths.specs.ConfigOffers.{table_of, candidate_at}
use Rattle.adv_base.specs.declared.catalogue.Catalogue.{Catalogue}
use Rattle.adv_base.specs.declared.catalogue.index.Index.{Index}
use Rattle.adv_base.specs.declared.catalogue.index.IndexShape.{IndexShape}
use Rattle.adv_base.specs.declared.catalogue.table.Table.{Table}
use Rattle.adv_base.specs.declared.limits.TheConstants.{MOST_CANDIDATES}
use Rattle.adv_base.specs.declared.setting.Config.{Config}
use Rattle.adv_base.specs.declared.workload.block.Block.{Block}
use Rattle.adv_base.specs.declared.workload.parts.Slot.{Slot}
use Rattle.adv_base.specs.Configs.{chosen}
use Rattle.adv_base.specs.Lookups.{table_at}
use Rattle.adv_base.specs.Named.{NamesBlock, NamesSlot}
use Rattle.adv_base.specs.Offers.{Offer, OfferTable, Path, Heap, Existing, candidate_path, numbered_on, paths_in, paths_of, paths, path_candidate, path_candidate_at, index_offer, offers}
use Rattle.adv_base.proofs.OfferLaws.{offers-count}
use Rattle.plan_model.specs.Totals.{no_candidates}
use Rattle.access_paths.specs.declared.config_offers.ConfigOffers.{ConfigOffers}
use Rattle.adv_base.specs.Items.{Order}
use Rattle.bip_model.specs.declared.slot_part.SlotPart.{SlotPart}
use Rattle.bip_model.specs.StandsFor.{candidates_on}
use Rattle.bip_model.proofs.Standing.{offers-split, none-on}
use Rattle.bip_model.proofs.Lists.{front-of}
use Rattle.bip_model.proofs.Fixing.{mapped-at}
use Rattle.bip_model.proofs.Places.{filter-length}
use Rattle.programme_parts.specs.inner.Every.{IsEvery}
use Rattle.programme_parts.specs.inner.Every.{AreEvery}
use Rattle.programme_parts.specs.inner.Prices.{IsSlotPriced}
use Rattle.programme_parts.specs.inner.Offered.{AreParted, HasParted, IsPriced}
use Rattle.programme_parts.proofs.Reading.{back-get}

-- ## Every candidate

chosen-all : {X : Type 0} (flags : List Bool) (xs : List X) → ((a : ℕ) → a < length xs → get_or flags a false ≡ true) → chosen flags xs ≡ xs
chosen-all [] [] on = refl
chosen-all [] (x ∷ xs) on = let no : false ≡ true = on 0 (omega arith) in absurd (cc)
chosen-all (flag ∷ flags) [] on = refl
chosen-all (true ∷ flags) (x ∷ xs) on = ap (λ (ys : List _). x ∷ ys) (chosen-all flags xs (λ a h. on (suc a) (omega (arith, h))))
chosen-all (false ∷ flags) (x ∷ xs) on = let no : false ≡ true = on 0 (omega arith) in absurd (cc)

every-on : (shapes : List IndexShape) (every : Config) (t : ℕ) → IsEvery (length shapes) every → numbered_on shapes every t ≡ candidates_on shapes t
every-on shapes every t is =
    ap (filter (λ (n : ℕ × IndexShape). n.1.table == t))
    (chosen-all every.on (enumerate_from 1 shapes) (λ a h. is.on a (omega (arith, h, length-enumerate_from 1 shapes))))

-- ## Candidates on a table

pub candidates-few : (shapes : List IndexShape) (t : ℕ) → length (candidates_on shapes t) ≤ length shapes
candidates-few shapes t = omega (arith, filter-length (λ (n : ℕ × IndexShape). n.1.table == t) (enumerate_from 1 shapes), length-enumerate_from 1 shapes)

-- the number of one of the first n candidates
pub record IsBelow (n : ℕ) (numbered : ℕ × IndexShape) : Type 0 where
  pub least : 1 ≤ numbered.0
  pub most : numbered.0 ≤ n

pub candidates-numbered : (shapes : List IndexShape) (t : ℕ) → All (IsBelow (length shapes)) (candidates_on shapes t)
candidates-numbered shapes t =
    All-filter (λ (n : ℕ × IndexShape). n.1.table == t) (IsBelow (length shapes)) (enumerate_from 1 shapes)
    (λ k d h.
    let within : k < length shapes = omega (arith, h, length-enumerate_from 1 shapes) in
    let number : (get_or (enumerate_from 1 shapes) k d).0 ≡ 1 + k = ap (λ (n : ℕ × IndexShape). n.0) (get_or-enumerate_from 1 shapes k d within) in
    record { least = omega (arith, number); most = omega (arith, number, within) })

-- ## Paths

paths-parted : (cat : Catalogue) (block : Block) (shapes : List IndexShape) (config : Config) (s : ℕ) (slot : Slot) (table : Table) → slice_get block.slots s ≡ Some slot → table_at cat slot.table ≡ Some table →
    paths cat block shapes config s ≡ (Heap ∷ map Existing table.indexes) ++ map candidate_path (numbered_on shapes config slot.table)
unfolding paths
paths-parted cat block shapes config s slot table found table_found =
    ap (paths_of cat shapes config) found ∙ ap (paths_in shapes config slot.table) table_found

-- what exists is no candidate
existing-none : (indexes : List Index) (k : ℕ) (path : Path) → slice_get (map Existing indexes) k ≡ Some path → path_candidate path ≡ None
existing-none [] k path found = absurd (cc)
existing-none (index ∷ indexes) zero path found = let same : Existing index ≡ path = cc in ap path_candidate (sym same)
existing-none (index ∷ indexes) (suc k) path found = existing-none indexes k path found

front-none : (indexes : List Index) (k : ℕ) (path : Path) → slice_get (Heap ∷ map Existing indexes) k ≡ Some path → path_candidate path ≡ None
front-none indexes zero path found = let same : Heap ≡ path = cc in ap path_candidate (sym same)
front-none indexes (suc k) path found = existing-none indexes k path found

-- ## The offers in two

existing-count : (cat : Catalogue) (block : Block) (shapes : List IndexShape) (s : ℕ) (slot : Slot) (table : Table) → slice_get block.slots s ≡ Some slot → table_at cat slot.table ≡ Some table →
    length (offers cat block shapes no_candidates s) ≡ length (Heap ∷ map Existing table.indexes)
existing-count cat block shapes s slot table found table_found =
    offers-count cat block shapes no_candidates s ∙ ap length (paths-parted cat block shapes no_candidates s slot table found table_found)
    ∙ ap (λ (ns : List (ℕ × IndexShape)). length ((Heap ∷ map Existing table.indexes) ++ map candidate_path ns)) (none-on shapes slot.table)
    ∙ ap length (append-nil (Heap ∷ map Existing table.indexes))

pub parted : (cat : Catalogue) (block : Block) (shapes : List IndexShape) (every : Config) (slots : List SlotOffers) (s : ℕ) (slot : Slot) (table : Table) → IsEvery (length shapes) every →
    table_of slots ≡ offers cat block shapes every → ((s' k : ℕ) → candidate_at slots s' k ≡ path_candidate_at cat block shapes every s' k) →
    slice_get block.slots s ≡ Some slot → table_at cat slot.table ≡ Some table →
    AreParted slots s (offers cat block shapes no_candidates s) (candidates_on shapes slot.table) (index_offer cat block s slot table)
parted cat block shapes every slots s slot table is offers_are candidates_are found table_found =
    let front : List Path = Heap ∷ map Existing table.indexes in
    let numbered : List (ℕ × IndexShape) = candidates_on shapes slot.table in
    let read : ℕ × IndexShape → Offer = λ n. index_offer cat block s slot table n.1 in
    let existing : List Offer = offers cat block shapes no_candidates s in
    let count : length existing ≡ length front = existing-count cat block shapes s slot table found table_found in
    let paths_are : paths cat block shapes every s ≡ front ++ map candidate_path numbered =
    paths-parted cat block shapes every s slot table found table_found ∙ ap (λ (ns : List (ℕ × IndexShape)). front ++ map candidate_path ns) (every-on shapes every slot.table is) in
    let told : (k : ℕ) (path : Path) → slice_get (front ++ map candidate_path numbered) k ≡ Some path → candidate_at slots s k ≡ path_candidate path = λ k path there.
    candidates_are s k ∙ ap (λ (ps : List Path). option_and_then path_candidate (slice_get ps k)) paths_are ∙ ap (option_and_then path_candidate) there in
    record {
      offers_are =
          ap (λ (f : OfferTable). f s) offers_are ∙ offers-split cat block shapes every s slot table found table_found
          ∙ ap (λ (ns : List (ℕ × IndexShape)). existing ++ map read ns) (every-on shapes every slot.table is);
      none = λ k below.
          elim (slice_get_cases front k).1 [
            | inl there ↦ told k there.0 (front-of front (map candidate_path numbered) k there.0 there.2) ∙ front-none table.indexes k there.0 there.2
            | inr past ↦ absurd (omega (arith, past.0, below, count))
          ];
      each = λ k n there.
          let at : slice_get (front ++ map candidate_path numbered) (length front + k) ≡ Some (candidate_path n) = back-get front (map candidate_path numbered) k ∙ mapped-at candidate_path numbered k n there in
          ap (λ (m : ℕ). candidate_at slots s (m + k)) count ∙ told (length front + k) (candidate_path n) at;
    }

-- ## Slots of a block

-- a slot of a block with its table
pub record HasTable (cat : Catalogue) (block : Block) (s : ℕ) : Type 0 where
  pub slot : Slot
  pub found : slice_get block.slots s ≡ Some slot
  pub table : Table
  pub table_found : table_at cat slot.table ≡ Some table

pub slot-table : (cat : Catalogue) (block : Block) (s : ℕ) (slot : Slot) → NamesBlock cat block → slice_get block.slots s ≡ Some slot → (table : Table) × (table_at cat slot.table ≡ Some table)
slot-table cat block s slot named found =
    let within : s < length block.slots = slice_get_within block.slots s slot found in
    let at : get_or block.slots s slot ≡ slot = get_or_from_slice_get block.slots s slot slot found in
    let own : NamesSlot cat slot = subst (NamesSlot cat) at (named.slots s slot within) in
    elim (slice_get_cases cat.tables slot.table).1 [
      | inl there ↦ (there.0, there.2)
      | inr past ↦ absurd (omega (arith, past.0, own.table))
    ]

pub has-table : (cat : Catalogue) (block : Block) (s : ℕ) → NamesBlock cat block → s < length block.slots → HasTable cat block s
has-table cat block s named below =
    elim (slice_get_cases block.slots s).1 [
      | inl there ↦
          let table = slot-table cat block s there.0 named there.2 in
          record { slot = there.0; found = there.2; table = table.0; table_found = table.1 }
      | inr past ↦ absurd (omega (arith, past.0, below))
    ]

pub has-parted : (cat : Catalogue) (block : Block) (shapes : List IndexShape) (every : Config) (slots : List SlotOffers) (s : ℕ) → NamesBlock cat block → length shapes ≤ MOST_CANDIDATES → IsEvery (length shapes) every →
    table_of slots ≡ offers cat block shapes every → ((s' k : ℕ) → candidate_at slots s' k ≡ path_candidate_at cat block shapes every s' k) → s < length block.slots → HasParted slots s
has-parted cat block shapes every slots s named few is offers_are candidates_are below =
    let has = has-table cat block s named below in
    record {
      existing = offers cat block shapes no_candidates s;
      numbered = candidates_on shapes has.slot.table;
      read = index_offer cat block s has.slot has.table;
      parted = parted cat block shapes every slots s has.slot has.table is offers_are candidates_are has.found has.table_found;
      few = omega (arith, few, candidates-few shapes has.slot.table);
      numbers = λ k d h.
          let own = candidates-numbered shapes has.slot.table k d h in
          record { least = own.least; most = omega (arith, own.most, few) };
    }

-- the prices of a slot, whichever way its offers are parted, are those of what exists and of the candidates on its table
pub slot-priced : (cat : Catalogue) (block : Block) (shapes : List IndexShape) (all : ConfigOffers) (s : ℕ) (orders : List Order) (own : SlotPart) → NamesBlock cat block → AreEvery cat block shapes all → s < length block.slots → IsPriced all.slots.items s orders own → IsSlotPriced cat block shapes s orders own
slot-priced cat block shapes all s orders own named every below priced =
    let has = has-table cat block s named below in
    let existing : List Offer = offers cat block shapes no_candidates s in
    let numbered : List (ℕ × IndexShape) = candidates_on shapes has.slot.table in
    let read : IndexShape → Offer = index_offer cat block s has.slot has.table in
    let two : AreParted all.slots.items s existing numbered read =
    parted cat block shapes every.every all.slots.items s has.slot has.table every.is_every every.offers_are every.candidates_are has.found has.table_found in
    record {
      slot = has.slot;
      slot_found = has.found;
      table = has.table;
      table_found = has.table_found;
      base_is = priced.base.are existing numbered read two;
      grants_are = priced.grants.are existing numbered read two;
    }
