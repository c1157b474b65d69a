-- Laws of spaces and of the states of candidates.
use Rattle.std.proofs.Common.{◌≡◌, ◌∙◌, ℕ, zero, suc, ◌+◌, ◌-◌, ◌<◌, Bool, false, List, length, get_or, map, refl, sym, ap, arith}
use Rattle.std.proofs.lemmas.List.{ext_get_or, get_or-map, length-map}
use Rattle.std.specs.Prelude.{Option, Some, slice_get}
use Rattle.std.specs.Option.{option_map_or}
use Rattle.adv_base.specs.declared.catalogue.Catalogue.{Catalogue}
use Rattle.adv_base.specs.declared.catalogue.index.IndexShape.{IndexShape}
use Rattle.adv_base.specs.Configs.{has_candidate, candidate_pages}
use Rattle.adv_base.specs.Nodes.{flags_from, config_of}
use Rattle.adv_base.specs.Sizes.{shape_pages}
use Rattle.adv_base.proofs.ConfigLaws.{config_of-has, size-by-shape}
use Rattle.plan_model.proofs.Renting.{flag-of}
use Rattle.bip_model.specs.declared.fix.State.{State}
use Rattle.bip_model.specs.declared.fix.State.TheVariants.{Free}

-- the pages of a candidate whose shape is found
pub size-found : (cat : Catalogue) (shapes : List IndexShape) (a : ℕ) (shape : IndexShape) → slice_get shapes (a - 1) ≡ Some shape → candidate_pages cat shapes a ≡ shape_pages cat shape
size-found cat shapes a shape found = size-by-shape cat shapes a ∙ ap (λ (o : Option IndexShape). option_map_or (shape_pages cat) o 0) found

-- flags that are written state by state
pub flags-are : (f : State → Bool) (states : List State) (on : List Bool) → length on ≡ length states → ((k : ℕ) → k < length states → get_or on k false ≡ f (get_or states k Free)) → on ≡ map f states
flags-are f states on count each =
    ext_get_or false on (map f states) (count ∙ sym (length-map states f))
    (λ k within. let below : k < length states = omega (arith, within, count) in each k below ∙ sym (get_or-map f states k Free false below))

length-flags_from : (has : ℕ → Bool) (a n : ℕ) → length (flags_from has a n) ≡ n
unfolding flags_from
length-flags_from has a zero = refl
length-flags_from has a (suc n) = ap suc (length-flags_from has (suc a) n)

length-config_of : (has : ℕ → Bool) → length (config_of has).on ≡ 256
unfolding config_of
length-config_of has = length-flags_from has 1 256

-- flags that are written by a test of each candidate
pub config-is : (has : ℕ → Bool) (on : List Bool) → length on ≡ 256 → ((k : ℕ) → k < 256 → get_or on k false ≡ has (k + 1)) → on ≡ (config_of has).on
config-is has on count each =
    ext_get_or false on (config_of has).on (count ∙ sym (length-config_of has))
    (λ k within.
    let below : k < 256 = omega (arith, within, count) in
    let next : k + 1 ≡ suc k = omega arith in
    let there : has_candidate (config_of has) (suc k) ≡ has (suc k) = config_of-has has (suc k) (omega arith) (omega (arith, below)) in
    each k below ∙ ap has next ∙ sym there ∙ flag-of (config_of has) k)
