-- Laws of access paths and offers.
use Rattle.std.proofs.Common.{◌≡◌, ◌∙◌, ℕ, ◌+◌, List, [], ◌∷◌, length, map, refl, ap, arith}
use Rattle.std.specs.Prelude.{slice_get, Option, Some, None}
use Rattle.std.proofs.lemmas.List.{length-map}
use Rattle.adv_base.specs.declared.catalogue.Catalogue.{Catalogue}
use Rattle.adv_base.specs.declared.catalogue.index.IndexShape.{IndexShape}
use Rattle.adv_base.specs.declared.catalogue.table.Table.{Table}
use Rattle.adv_base.specs.declared.setting.Config.{Config}
use Rattle.adv_base.specs.declared.workload.block.Block.{Block}
use Rattle.adv_base.specs.declared.workload.parts.Slot.{Slot}
use Rattle.adv_base.specs.Lookups.{table_at}
use Rattle.adv_base.specs.Access.{index_price}
use Rattle.adv_base.specs.Offers.{Path, Heap, Existing, Candidate, paths_on, paths_in, paths_of, paths, index_offer, path_offer, charged_path_offer, offers_on, offers_of, offers, charged_offers_on, charged_offers_of, charged_offers}

-- ## Charges

map-same : {A B : Type 0} (f g : A → B) → ((x : A) → f x ≡ g x) → (xs : List A) → map f xs ≡ map g xs
map-same f g same [] = refl
map-same f g same (x ∷ xs) = ap (λ (y : _). y ∷ map f xs) (same x) ∙ ap (λ (ys : List _). g x ∷ ys) (map-same f g same xs)

uncharged-path : (cat : Catalogue) (block : Block) (s : ℕ) (slot : Slot) (table : Table) (path : Path) → charged_path_offer (λ s a. 0) cat block s slot table path ≡ path_offer cat block s slot table path
uncharged-path cat block s slot table Heap = refl
uncharged-path cat block s slot table (Existing index) = refl
uncharged-path cat block s slot table (Candidate number shape) =
    let same : index_price cat block s slot table shape + 0 ≡ index_price cat block s slot table shape = omega arith in
    ap (λ (price : ℕ). ((index_offer cat block s slot table shape).0, price)) same

uncharged-on : (cat : Catalogue) (block : Block) (shapes : List IndexShape) (config : Config) (s : ℕ) (slot : Slot) (table : Option Table) →
    charged_offers_on (λ s a. 0) cat block shapes config s slot table ≡ offers_on cat block shapes config s slot table
uncharged-on cat block shapes config s slot (Some table) =
    map-same (charged_path_offer (λ s a. 0) cat block s slot table) (path_offer cat block s slot table) (uncharged-path cat block s slot table) (paths_on shapes config slot.table table)
uncharged-on cat block shapes config s slot None = refl

uncharged-of : (cat : Catalogue) (block : Block) (shapes : List IndexShape) (config : Config) (s : ℕ) (slot : Option Slot) →
    charged_offers_of (λ s a. 0) cat block shapes config s slot ≡ offers_of cat block shapes config s slot
uncharged-of cat block shapes config s (Some slot) = uncharged-on cat block shapes config s slot (table_at cat slot.table)
uncharged-of cat block shapes config s None = refl

-- without charges they are the offers themselves
pub uncharged : (cat : Catalogue) (block : Block) (shapes : List IndexShape) (config : Config) (s : ℕ) →
    charged_offers (λ s a. 0) cat block shapes config s ≡ offers cat block shapes config s
unfolding charged_offers offers
uncharged cat block shapes config s = uncharged-of cat block shapes config s (slice_get block.slots s)

-- ## One offer a path

count-on : (cat : Catalogue) (block : Block) (shapes : List IndexShape) (config : Config) (s : ℕ) (slot : Option Slot) →
    length (offers_of cat block shapes config s slot) ≡ length (paths_of cat shapes config slot)
count-on cat block shapes config s None = refl
count-on cat block shapes config s (Some slot) = counted (table_at cat slot.table)
  where
    counted : (table : Option Table) → length (offers_on cat block shapes config s slot table) ≡ length (paths_in shapes config slot.table table)
    counted None = refl
    counted (Some table) = length-map (paths_on shapes config slot.table table) (path_offer cat block s slot table)

-- each path has one offer
pub offers-count : (cat : Catalogue) (block : Block) (shapes : List IndexShape) (config : Config) (s : ℕ) →
    length (offers cat block shapes config s) ≡ length (paths cat block shapes config s)
unfolding offers paths
offers-count cat block shapes config s = count-on cat block shapes config s (slice_get block.slots s)
