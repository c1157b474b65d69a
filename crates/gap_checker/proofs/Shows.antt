-- What is shown of the offers under all candidates are the offers of what is available, with rents.
use Rattle.std.proofs.Common.{◌≡◌, ◌∙◌, inl, inr, ℕ, zero, suc, ◌+◌, ◌<◌, ◌≤◌, Bool, true, false, List, [], ◌∷◌, ◌++◌, length, get_or, drop, drop-cons, append_assoc, length-append, map, filter, replicate, refl, sym, ap, arith}
use Rattle.std.specs.Prelude.{Option, Some, None, slice_get, option_and_then, if◌then◌else◌, ◌==◌}
use Rattle.std.specs.Option.{option_map_or}
use Rattle.std.specs.List.{enumerate_from}
use Rattle.std.proofs.lemmas.Bool.{cases_lt}
use Rattle.std.proofs.lemmas.Option.{slice_get_past, slice_get-get_or}
use Rattle.std.proofs.lemmas.List.{length-map}
use Rattle.std.proofs.Math.Path.{fun_ext}
use Rattle.access_paths.specs.declared.slot_offers.SlotOffers.{SlotOffers}
use Rattle.access_paths.specs.ConfigOffers.{AreOffersOf, candidate_at}
use Rattle.access_paths.specs.ConfigOffers as paths_kept
use Rattle.access_paths.specs.inner.SlotOffers.{pairs_of, offer_of as offer_kept}
use Rattle.adv_base.specs.declared.catalogue.Catalogue.{Catalogue}
use Rattle.adv_base.specs.declared.catalogue.index.Index.{Index}
use Rattle.adv_base.specs.declared.catalogue.index.IndexShape.{IndexShape}
use Rattle.adv_base.specs.declared.catalogue.table.Table.{Table}
use Rattle.adv_base.specs.declared.limits.TheConstants.{MOST_CANDIDATES, MOST_OFFERS}
use Rattle.adv_base.specs.declared.setting.Config.{Config}
use Rattle.adv_base.specs.declared.workload.block.Block.{Block}
use Rattle.adv_base.specs.declared.workload.parts.Slot.{Slot}
use Rattle.adv_base.specs.Configs.{has_candidate, chosen}
use Rattle.adv_base.specs.Lookups.{table_at}
use Rattle.adv_base.specs.Offers.{Offer, OfferTable, Path, Heap, Existing, Candidate, candidate_path, numbered_on, paths_on, paths_in, paths_of, paths, path_candidate, path_offer, charged_path_offer, offers, offers_of, offers_on, charged_offers, charged_offers_of, charged_offers_on}
use Rattle.bip_model.specs.StandsFor.{candidates_on}
use Rattle.bip_model.proofs.Standing.{chosen-on}
use Rattle.bip_model.proofs.Places.{enumerate-length}
use Rattle.gap_checker.specs.declared.row.Row.{Row}
use Rattle.gap_checker.specs.inner.Parts.{every_candidate}
use Rattle.gap_checker.specs.inner.Rows.{table_of, IsRowsOf, offers_of as row_offers, shown_of, shown_from}

-- a path that is there under the configuration
abbrev stays : Config → Path → Bool
stays config path = option_map_or (has_candidate config) (path_candidate path) true

-- ## Candidates

all-chosen : {X : Type 0} (n : ℕ) (xs : List X) → length xs ≤ n → chosen (replicate n true) xs ≡ xs
all-chosen zero [] few = refl
all-chosen zero (x ∷ xs) few = absurd (omega (arith, few))
all-chosen (suc n) [] few = refl
all-chosen (suc n) (x ∷ xs) few = ap (λ (ys : List _). x ∷ ys) (all-chosen n xs (omega (arith, few)))

every-on : (shapes : List IndexShape) (t : ℕ) → length shapes ≤ MOST_CANDIDATES → numbered_on shapes every_candidate t ≡ candidates_on shapes t
every-on shapes t few =
    ap (filter (λ (n : ℕ × IndexShape). n.1.table == t)) (all-chosen MOST_CANDIDATES (enumerate_from 1 shapes) (omega (arith, enumerate-length 1 shapes, few)))

-- ## Paths

kept-if : {X Y : Type 0} (f : X → Y) (b : Bool) (x : X) (xs : List X) (ys : List Y) → ys ≡ map f xs → (if b then f x ∷ [] else []) ++ ys ≡ map f (if b then x ∷ xs else xs)
kept-if f true x xs ys same = ap (λ (zs : List _). f x ∷ zs) same
kept-if f false x xs ys same = same

moved-if : {X Y : Type 0} (f : X → Y) (b : Bool) (x : X) (xs : List X) (ys : List Y) → ys ≡ map f xs → (if b then f x ∷ ys else ys) ≡ map f (if b then x ∷ xs else xs)
moved-if f true x xs ys same = ap (λ (zs : List _). f x ∷ zs) same
moved-if f false x xs ys same = same

filter-candidates : (config : Config) (ns : List (ℕ × IndexShape)) → filter (stays config) (map candidate_path ns) ≡ map candidate_path (filter (λ n. has_candidate config n.0) ns)
filter-candidates config [] = refl
filter-candidates config (n ∷ ns) =
    moved-if candidate_path (has_candidate config n.0) n (filter (λ n. has_candidate config n.0) ns) (filter (stays config) (map candidate_path ns)) (filter-candidates config ns)

filter-existing : (config : Config) (indexes : List Index) (rest : List Path) → filter (stays config) (map Existing indexes ++ rest) ≡ map Existing indexes ++ filter (stays config) rest
filter-existing config [] rest = refl
filter-existing config (index ∷ indexes) rest = ap (λ (ps : List Path). Existing index ∷ ps) (filter-existing config indexes rest)

filter-paths : (shapes : List IndexShape) (config : Config) (t : ℕ) (table : Table) → length shapes ≤ MOST_CANDIDATES →
    filter (stays config) (paths_on shapes every_candidate t table) ≡ paths_on shapes config t table
filter-paths shapes config t table few =
    let candidates : filter (stays config) (map candidate_path (numbered_on shapes every_candidate t)) ≡ map candidate_path (numbered_on shapes config t) =
    filter-candidates config (numbered_on shapes every_candidate t)
    ∙ ap (λ (ns : List (ℕ × IndexShape)). map candidate_path (filter (λ n. has_candidate config n.0) ns)) (every-on shapes t few)
    ∙ ap (map candidate_path) (chosen-on shapes config t) in
    ap (λ (ps : List Path). Heap ∷ ps)
    (filter-existing config table.indexes (map candidate_path (numbered_on shapes every_candidate t)) ∙ ap (λ (ps : List Path). map Existing table.indexes ++ ps) candidates)

-- ## Offers

shown-paths : (cat : Catalogue) (block : Block) (s : ℕ) (slot : Slot) (table : Table) (config : Config) (charge : ℕ → ℕ → ℕ) (candidate : ℕ → Option ℕ) (i : ℕ) (ps : List Path) →
    ((k : ℕ) → candidate (i + k) ≡ option_and_then path_candidate (slice_get ps k)) →
    shown_from config (charge s) candidate i (map (path_offer cat block s slot table) ps) ≡ map (charged_path_offer charge cat block s slot table) (filter (stays config) ps)
shown-paths cat block s slot table config charge candidate i [] are = refl
shown-paths cat block s slot table config charge candidate i (Heap ∷ ps) are =
    let here : candidate i ≡ None = ap candidate (omega arith) ∙ are 0 in
    let rest = shown-paths cat block s slot table config charge candidate (suc i) ps (λ k. ap candidate (omega arith) ∙ are (suc k)) in
    let offer : Offer = path_offer cat block s slot table Heap in
    ap (λ (c : Option ℕ). shown_of config (charge s) c offer ++ shown_from config (charge s) candidate (suc i) (map (path_offer cat block s slot table) ps)) here
    ∙ ap (λ (os : List Offer). offer ∷ os) rest
shown-paths cat block s slot table config charge candidate i (Existing index ∷ ps) are =
    let here : candidate i ≡ None = ap candidate (omega arith) ∙ are 0 in
    let rest = shown-paths cat block s slot table config charge candidate (suc i) ps (λ k. ap candidate (omega arith) ∙ are (suc k)) in
    let offer : Offer = path_offer cat block s slot table (Existing index) in
    ap (λ (c : Option ℕ). shown_of config (charge s) c offer ++ shown_from config (charge s) candidate (suc i) (map (path_offer cat block s slot table) ps)) here
    ∙ ap (λ (os : List Offer). offer ∷ os) rest
shown-paths cat block s slot table config charge candidate i (Candidate number shape ∷ ps) are =
    let here : candidate i ≡ Some number = ap candidate (omega arith) ∙ are 0 in
    let rest = shown-paths cat block s slot table config charge candidate (suc i) ps (λ k. ap candidate (omega arith) ∙ are (suc k)) in
    let offer : Offer = path_offer cat block s slot table (Candidate number shape) in
    ap (λ (c : Option ℕ). shown_of config (charge s) c offer ++ shown_from config (charge s) candidate (suc i) (map (path_offer cat block s slot table) ps)) here
    ∙ kept-if (charged_path_offer charge cat block s slot table) (has_candidate config number) (Candidate number shape) (filter (stays config) ps)
    (shown_from config (charge s) candidate (suc i) (map (path_offer cat block s slot table) ps)) rest

shown-table : (cat : Catalogue) (block : Block) (shapes : List IndexShape) (s : ℕ) (slot : Slot) (table : Option Table) (config : Config) (charge : ℕ → ℕ → ℕ) (candidate : ℕ → Option ℕ) → length shapes ≤ MOST_CANDIDATES →
    ((k : ℕ) → candidate (0 + k) ≡ option_and_then path_candidate (slice_get (paths_in shapes every_candidate slot.table table) k)) →
    shown_from config (charge s) candidate 0 (offers_on cat block shapes every_candidate s slot table) ≡ charged_offers_on charge cat block shapes config s slot table
shown-table cat block shapes s slot None config charge candidate few are = refl
shown-table cat block shapes s slot (Some table) config charge candidate few are =
    shown-paths cat block s slot table config charge candidate 0 (paths_on shapes every_candidate slot.table table) are
    ∙ ap (map (charged_path_offer charge cat block s slot table)) (filter-paths shapes config slot.table table few)

shown-slot : (cat : Catalogue) (block : Block) (shapes : List IndexShape) (s : ℕ) (slot : Option Slot) (config : Config) (charge : ℕ → ℕ → ℕ) (candidate : ℕ → Option ℕ) → length shapes ≤ MOST_CANDIDATES →
    ((k : ℕ) → candidate (0 + k) ≡ option_and_then path_candidate (slice_get (paths_of cat shapes every_candidate slot) k)) →
    shown_from config (charge s) candidate 0 (offers_of cat block shapes every_candidate s slot) ≡ charged_offers_of charge cat block shapes config s slot
shown-slot cat block shapes s None config charge candidate few are = refl
shown-slot cat block shapes s (Some slot) config charge candidate few are = shown-table cat block shapes s slot (table_at cat slot.table) config charge candidate few are

-- what is shown of a slot's offers
pub shown-charged : (cat : Catalogue) (block : Block) (shapes : List IndexShape) (config : Config) (charge : ℕ → ℕ → ℕ) (slots : List SlotOffers) (s : ℕ) → length shapes ≤ MOST_CANDIDATES →
    AreOffersOf cat block shapes every_candidate slots →
    shown_from config (charge s) (candidate_at slots s) 0 (paths_kept.table_of slots s) ≡ charged_offers charge cat block shapes config s
unfolding offers charged_offers paths
shown-charged cat block shapes config charge slots s few are =
    ap (λ (table : OfferTable). shown_from config (charge s) (candidate_at slots s) 0 (table s)) are.offers_are
    ∙ shown-slot cat block shapes s (slice_get block.slots s) config charge (candidate_at slots s) few (λ k. ap (candidate_at slots s) (omega arith) ∙ are.candidates_are s k)

charged-past : (cat : Catalogue) (block : Block) (shapes : List IndexShape) (config : Config) (charge : ℕ → ℕ → ℕ) (s : ℕ) → slice_get block.slots s ≡ None → charged_offers charge cat block shapes config s ≡ []
unfolding charged_offers
charged-past cat block shapes config charge s past = ap (charged_offers_of charge cat block shapes config s) past

-- and of all slots
pub all-shown : (cat : Catalogue) (block : Block) (shapes : List IndexShape) (config : Config) (charge : ℕ → ℕ → ℕ) (rows : List Row) → length rows ≡ length block.slots →
    ((s : ℕ) → s < length block.slots → table_of rows s ≡ charged_offers charge cat block shapes config s) → table_of rows ≡ charged_offers charge cat block shapes config
all-shown cat block shapes config charge rows count pairs =
    fun_ext (λ (s : ℕ). elim (cases_lt s (length block.slots)) [
      | inl below ↦ pairs s below
      | inr past ↦
          let past-kept : length rows ≤ s = omega (arith, count, past) in
          let none : slice_get rows s ≡ None = slice_get_past rows s past-kept in
          ap (λ (o : Option Row). option_map_or (λ row. row_offers row.shown.items) o []) none
          ∙ sym (charged-past cat block shapes config charge s (slice_get_past block.slots s past))
    ])

-- a slot has at most MOST_OFFERS offers
pub offers-few : (slots : List SlotOffers) (s : ℕ) → length (paths_kept.table_of slots s) ≤ MOST_OFFERS
offers-few slots s = few (slice_get slots s)
  where
    few : (o : Option SlotOffers) → length (option_map_or (λ o. pairs_of o.offers.items) o []) ≤ MOST_OFFERS
    few None = omega arith
    few (Some o) = omega (arith, o.few, length-map o.offers.items offer_kept)

-- ## One more

pub show-step : (config : Config) (rent : ℕ → ℕ) (candidate : ℕ → Option ℕ) (offered : List Offer) (i : ℕ) (old new whole : List Offer) → i < length offered →
    new ≡ old ++ shown_of config rent (candidate i) (option_map_or (λ (o : Offer). o.0) (slice_get offered i) [], option_map_or (λ (o : Offer). o.1) (slice_get offered i) 0) →
    old ++ shown_from config rent candidate i (drop i offered) ≡ whole → new ++ shown_from config rent candidate (i + 1) (drop (i + 1) offered) ≡ whole
show-step config rent candidate offered i old new whole within is before =
    let nothing : Offer = ([], 0) in
    let offer : Offer = get_or offered i nothing in
    let found : slice_get offered i ≡ Some offer = slice_get-get_or offered i nothing within in
    let next : i + 1 ≡ suc i = omega arith in
    let rest : List Offer = shown_from config rent candidate (suc i) (drop (suc i) offered) in
    let made : new ≡ old ++ shown_of config rent (candidate i) offer =
    is ∙ ap (λ (o : Option Offer). old ++ shown_of config rent (candidate i) (option_map_or (λ (o : Offer). o.0) o [], option_map_or (λ (o : Offer). o.1) o 0)) found in
    let cut : drop i offered ≡ offer ∷ drop (suc i) offered = drop-cons offered i nothing within in
    rw next
    (ap (λ (front : List Offer). front ++ rest) made ∙ append_assoc old (shown_of config rent (candidate i) offer) rest
    ∙ ap (λ (list : List Offer). old ++ shown_from config rent candidate i list) (sym cut) ∙ before)

get-front : {X : Type 0} (xs ys : List X) (i : ℕ) → i < length xs → slice_get (xs ++ ys) i ≡ slice_get xs i
get-front [] ys i within = absurd (omega (arith, within))
get-front (x ∷ xs) ys zero within = refl
get-front (x ∷ xs) ys (suc i) within = get-front xs ys i (omega (arith, within))

get-last : {X : Type 0} (xs : List X) (x : X) → slice_get (xs ++ x ∷ []) (length xs) ≡ Some x
get-last [] x = refl
get-last (y ∷ xs) x = get-last xs x

-- the rows of one slot more
pub rows-more : (rows : List Row) (row : Row) (n : ℕ) (table : OfferTable) → (count : length rows ≡ n) → ((s : ℕ) → s < n → table_of rows s ≡ table s) → row_offers row.shown.items ≡ table n →
    IsRowsOf (rows ++ row ∷ []) (n + 1) table
rows-more rows row n table count before last =
    record {
      count = length-append rows (row ∷ []) ∙ ap (λ (k : ℕ). k + 1) count;
      rows_are = λ s below.
          elim (cases_lt s n) [
            | inl less ↦ ap (λ (o : Option Row). option_map_or (λ (r : Row). row_offers r.shown.items) o []) (get-front rows (row ∷ []) s (omega (arith, less, count))) ∙ before s less
            | inr past ↦
                let same : s ≡ length rows = omega (arith, past, below, count) in
                let here : s ≡ n = omega (arith, past, below) in
                ap (λ (k : ℕ). table_of (rows ++ row ∷ []) k) same ∙ ap (λ (o : Option Row). option_map_or (λ (r : Row). row_offers r.shown.items) o []) (get-last rows row) ∙ last ∙ ap table (sym here)
          ];
    }
