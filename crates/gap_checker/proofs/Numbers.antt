-- Numbers of a configuration.
use Rattle.std.proofs.Common.{◌≡◌, ◌∙◌, inl, inr, ℕ, zero, suc, ◌+◌, ◌-◌, ◌<◌, ◌≤◌, Bool, true, false, List, [], ◌∷◌, length, get_or, refl, sym, ap, subst, arith}
use Rattle.std.specs.Prelude.{All, Some, None, slice_get, slice_set, fold}
use Rattle.std.proofs.lemmas.Bool.{cases_lt, false≢true}
use Rattle.std.proofs.lemmas.List.{length-replicate}
use Rattle.std.proofs.lemmas.Option.{slice_get-get_or, get_or_from_slice_get, same_Some}
use Rattle.adv_base.specs.declared.catalogue.index.IndexShape.{IndexShape}
use Rattle.adv_base.specs.declared.limits.TheConstants.{MOST_CANDIDATES}
use Rattle.adv_base.specs.declared.setting.Config.{Config}
use Rattle.adv_base.specs.Configs.{has_candidate, IsConfigOf}
use Rattle.bip_model.specs.Trees.{with_candidate}
use Rattle.bip_model.proofs.Showing.{with_candidate-has, with_candidate-keeps, none-off}
use Rattle.plan_model.specs.Totals.{no_candidates}
use Rattle.plan_model.proofs.Renting.{flag-of}
use Rattle.adv_base.specs.Settings.{TheSetting}
use Rattle.bip_model.proofs.Counting.{with_candidate-on}
use Rattle.certificate.specs.declared.cert.Cert.{Cert}
use Rattle.certificate.specs.Limits.{Rise}
use Rattle.gap_checker.specs.Faults.{IsBadConfig}
use Rattle.gap_checker.specs.Views.{config_with}
use Rattle.gap_checker.specs.inner.Claims.{IsFirstPast}

pub rise-within : (least : ℕ) (numbers : List ℕ) (i d : ℕ) → Rise least numbers → i < length numbers → (least ≤ get_or numbers i d) × (get_or numbers i d ≤ MOST_CANDIDATES)
rise-within least [] i d rise within = absurd (omega (arith, within))
rise-within least (n ∷ ns) zero d rise within = (rise.0, rise.1)
rise-within least (n ∷ ns) (suc i) d rise within =
    let rest = rise-within (n + 1) ns i d rise.2 (omega (arith, within)) in
    (omega (arith, rise.0, rest.0), rest.1)

-- one number more that isn't past
pub few-more : (numbers : List ℕ) (count i d : ℕ) → i < length numbers → get_or numbers i d ≤ count →
    ((k n : ℕ) → k < i → slice_get numbers k ≡ Some n → n ≤ count) → (k n : ℕ) → k < i + 1 → slice_get numbers k ≡ Some n → n ≤ count
few-more numbers count i d within here before k n below there =
    elim (cases_lt k i) [
      | inl less ↦ before k n less there
      | inr past ↦
          let same : k ≡ i = omega (arith, past, below) in
          let is : get_or numbers k d ≡ n = get_or_from_slice_get numbers k n d there in
          omega (arith, here, is, ap (λ (j : ℕ). get_or numbers j d) same)
    ]

pub all-few : (numbers : List ℕ) (count i : ℕ) → length numbers ≤ i → ((k n : ℕ) → k < i → slice_get numbers k ≡ Some n → n ≤ count) → All (λ n. n ≤ count) numbers
all-few numbers count i end before = λ k d within. before k (get_or numbers k d) (omega (arith, end, within)) (slice_get-get_or numbers k d within)

-- ## The configuration of numbers

-- a flag that is on is that of a candidate that the configuration has
flag-has : (config : Config) (i : ℕ) → slice_get config.on i ≡ Some true → has_candidate config (suc i) ≡ true
flag-has config i on = flag-of config i ∙ get_or_from_slice_get config.on i true false on

pub has-flag : (config : Config) (i : ℕ) → has_candidate config (suc i) ≡ true → i < length config.on → slice_get config.on i ≡ Some true
has-flag config i has within = slice_get-get_or config.on i false within ∙ ap Some (sym (flag-of config i) ∙ has)

-- what a configuration with some numbers more has: what it had, or one of the numbers
members-from : (count : ℕ) (config : Config) (numbers : List ℕ) (least : ℕ) → 1 ≤ least → Rise least numbers → All (λ n. n ≤ count) numbers →
    ((a : ℕ) → has_candidate config a ≡ true → a ≤ count) → (a : ℕ) → has_candidate (fold with_candidate config numbers) a ≡ true → a ≤ count
members-from count config [] least some rise few before a has = before a has
members-from count config (n ∷ ns) least some rise few before a has =
    members-from count (with_candidate config n) ns (n + 1) (omega arith) rise.2 (λ k d within. few (suc k) d (omega (arith, within)))
    (λ b on. elim (with_candidate-has config n b (omega (arith, some, rise.0)) on) [
      | inl old ↦ before b old
      | inr new ↦ let first : n ≤ count = few 0 n (omega arith) in omega (arith, first, new)
    ]) a has

pub config-members : (shapes : List IndexShape) (numbers : List ℕ) → Rise 1 numbers → All (λ n. n ≤ length shapes) numbers → IsConfigOf shapes (config_with numbers)
config-members shapes numbers rise few = λ a on.
    let most : suc a ≤ length shapes =
    members-from (length shapes) no_candidates numbers 1 (omega arith) rise few (λ b there. absurd (false≢true (sym (none-off b) ∙ there))) (suc a) (flag-has (config_with numbers) a on) in
    omega (arith, most)

-- what is there stays there
pub keeps-from : (config : Config) (numbers : List ℕ) (a : ℕ) → has_candidate config a ≡ true → has_candidate (fold with_candidate config numbers) a ≡ true
keeps-from config [] a has = has
keeps-from config (n ∷ ns) a has = keeps-from (with_candidate config n) ns a (with_candidate-keeps config n a has)

set-count : (flags : List Bool) (i : ℕ) → length (slice_set flags i true) ≡ length flags
set-count [] i = refl
set-count (flag ∷ flags) zero = refl
set-count (flag ∷ flags) (suc i) = ap suc (set-count flags i)

length-none : length no_candidates.on ≡ MOST_CANDIDATES
length-none = length-replicate MOST_CANDIDATES false

count-from : (config : Config) (numbers : List ℕ) → length (fold with_candidate config numbers).on ≡ length config.on
count-from config [] = refl
count-from config (n ∷ ns) = count-from (with_candidate config n) ns ∙ set-count config.on (n - 1)

pub config-count : (numbers : List ℕ) → length (config_with numbers).on ≡ MOST_CANDIDATES
config-count numbers = count-from no_candidates numbers ∙ length-none

-- a number of a rising list is a candidate that the configuration has
pub number-has : (least : ℕ) (numbers : List ℕ) (place number : ℕ) → 1 ≤ least → Rise least numbers → slice_get numbers place ≡ Some number →
    (has_candidate (config_with numbers) number ≡ true) × (number ≤ MOST_CANDIDATES)
number-has least numbers place number some rise there = from least no_candidates numbers place length-none some rise there
  where
    same_Some : (x y : ℕ) → Some x ≡ Some y → x ≡ y
    same_Some x y e = cc

    no-number : (x : ℕ) → None ≡ Some x → ⊥
    no-number x e = cc

    from : (least : ℕ) (config : Config) (numbers : List ℕ) (place : ℕ) → length config.on ≡ MOST_CANDIDATES → 1 ≤ least → Rise least numbers → slice_get numbers place ≡ Some number →
        (has_candidate (fold with_candidate config numbers) number ≡ true) × (number ≤ MOST_CANDIDATES)
    from least config [] place count some rise there = absurd (no-number number there)
    from least config (n ∷ ns) zero count some rise there =
        let same : n ≡ number = same_Some n number there in
        let most : number ≤ MOST_CANDIDATES = omega (arith, rise.1, same) in
        (keeps-from (with_candidate config n) ns number (ap (λ (k : ℕ). has_candidate (with_candidate config k) number) same ∙ with_candidate-on config number (omega (arith, some, rise.0, same)) (omega (arith, count, most))), most)
    from least config (n ∷ ns) (suc place) count some rise there =
        from (n + 1) (with_candidate config n) ns place (set-count config.on (n - 1) ∙ count) (omega arith) rise.2 there

pub first-past : (numbers : List ℕ) (count i number : ℕ) → i < length numbers → count < get_or numbers i 0 →
    ((k n : ℕ) → k < i → slice_get numbers k ≡ Some n → n ≤ count) → Some (get_or numbers i 0) ≡ Some number → IsFirstPast numbers count number
first-past numbers count i number within past before is =
    record { place = i; found = slice_get-get_or numbers i 0 within ∙ is; past = omega (arith, past, same_Some (get_or numbers i 0) number is); before = before }

pub past-bad : (setting : TheSetting) (cert : Cert) (numbers : List ℕ) (number : ℕ) → numbers ≡ cert.config → IsFirstPast numbers (length setting.shapes) number → IsBadConfig setting cert number
past-bad setting cert numbers number same first =
    let moved = subst (λ (ns : List ℕ). IsFirstPast ns (length setting.shapes) number) same first in
    record { place = moved.place; found = moved.found; past = moved.past; before = moved.before }
