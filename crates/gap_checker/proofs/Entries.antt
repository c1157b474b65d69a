-- Entries in order, and the rents that they give.
use Rattle.std.proofs.Common.{◌≡◌, ◌∙◌, inl, inr, ℕ, zero, suc, ◌+◌, ◌*◌, ◌<◌, ◌≤◌, true, List, [], ◌∷◌, length, get_or, refl, ap, arith}
use Rattle.std.specs.Prelude.{Some, slice_get, ◌==◌, ◌&&◌}
use Rattle.std.proofs.lemmas.Option.{get_or_from_slice_get, slice_get_within}
use Rattle.std.proofs.lemmas.Bool.{cases_Bool, eqb-true, and_parts}
use Rattle.adv_base.specs.declared.limits.TheConstants.{MOST_RENT}
use Rattle.certificate.specs.declared.cert.Entry.{Entry}
use Rattle.certificate.specs.Limits.{EntriesFrom, entry_place}
use Rattle.gap_checker.specs.Views.{is_entry_of, rent_in}
use Rattle.gap_checker.specs.inner.Searches.{IsCut, rent_of}

-- where a use stands
abbrev pub use_place : ℕ → ℕ → ℕ → ℕ
use_place q s a = q * 2048 + suc s * 256 + a

pub entry-of : (entry : Entry) (q s a : ℕ) → is_entry_of entry q s a ≡ true → (entry.statement ≡ q) × (entry.slot ≡ suc s) × (entry.candidate ≡ a)
entry-of entry q s a is =
    let parts = and_parts (entry.statement == q) ((entry.slot == suc s) && (entry.candidate == a)) is in
    let rest = and_parts (entry.slot == suc s) (entry.candidate == a) parts.1 in
    (eqb-true entry.statement q parts.0, eqb-true entry.slot (suc s) rest.0, eqb-true entry.candidate a rest.1)

pub entry-place : (entry : Entry) (q s a : ℕ) → is_entry_of entry q s a ≡ true → entry_place entry ≡ use_place q s a
entry-place entry q s a is =
    let e = entry-of entry q s a is in
    omega (arith, e.0, e.1, e.2)

pub rent-other : (entry : Entry) (entries : List Entry) (q s a : ℕ) → ¬ (entry_place entry ≡ use_place q s a) → rent_in (entry ∷ entries) q s a ≡ rent_in entries q s a
rent-other entry entries q s a other =
    elim (cases_Bool (is_entry_of entry q s a)) [
      | inl is ↦ absurd (other (entry-place entry q s a is))
      | inr not ↦ rw not refl
    ]

-- where all entries stand behind a use, it has none
pub rent-behind : (entries : List Entry) (least q s a : ℕ) → EntriesFrom least entries → use_place q s a < least → rent_in entries q s a ≡ 0
rent-behind [] least q s a rise before = refl
rent-behind (entry ∷ entries) least q s a rise before =
    rent-other entry entries q s a (λ e. omega (arith, e, rise.1, before))
    ∙ rent-behind entries (entry_place entry + 1) q s a rise.2 (omega (arith, rise.1, before))

-- the rent is that of the first entry that doesn't stand before the use
pub rent-at : (entries : List Entry) (least q s a at : ℕ) → EntriesFrom least entries →
    ((k : ℕ) (entry : Entry) → k < at → slice_get entries k ≡ Some entry → entry_place entry < use_place q s a) →
    ((k : ℕ) (entry : Entry) → at ≤ k → slice_get entries k ≡ Some entry → use_place q s a ≤ entry_place entry) →
    rent_in entries q s a ≡ rent_of (slice_get entries at) q s a
rent-at [] least q s a at rise before behind = refl
rent-at (entry ∷ entries) least q s a zero rise before behind =
    elim (cases_Bool (is_entry_of entry q s a)) [
      | inl is ↦ rw is refl
      | inr not ↦
          rw not
          (rent-behind entries (entry_place entry + 1) q s a rise.2 (let first : use_place q s a ≤ entry_place entry = behind 0 entry (omega arith) refl in omega (arith, first)))
    ]
rent-at (entry ∷ entries) least q s a (suc at) rise before behind =
    let first : entry_place entry < use_place q s a = before 0 entry (omega arith) refl in
    rent-other entry entries q s a (λ e. omega (arith, e, first))
    ∙ rent-at entries (entry_place entry + 1) q s a at rise.2 (λ k e below there. before (suc k) e (omega (arith, below)) there) (λ k e past there. behind (suc k) e (omega (arith, past)) there)

-- a rent is within its limit
pub rent-most : (entries : List Entry) (least q s a : ℕ) → EntriesFrom least entries → rent_in entries q s a ≤ MOST_RENT
rent-most [] least q s a rise = omega arith
rent-most (entry ∷ entries) least q s a rise =
    elim (cases_Bool (is_entry_of entry q s a)) [
      | inl is ↦ rw is (rise.0.lambda_most)
      | inr not ↦ rw not (rent-most entries (entry_place entry + 1) q s a rise.2)
    ]

-- places never fall
pub places-rise : (entries : List Entry) (least i j : ℕ) (d : Entry) → EntriesFrom least entries → i ≤ j → j < length entries → entry_place (get_or entries i d) ≤ entry_place (get_or entries j d)
places-rise [] least i j d rise less within = absurd (omega (arith, within))
places-rise (entry ∷ entries) least zero zero d rise less within = omega arith
places-rise (entry ∷ entries) least zero (suc j) d rise less within =
    omega (arith, places-least entries (entry_place entry + 1) j d rise.2 (omega (arith, within)))
  where
    places-least : (entries : List Entry) (least j : ℕ) (d : Entry) → EntriesFrom least entries → j < length entries → least ≤ entry_place (get_or entries j d)
    places-least [] least j d rise within = absurd (omega (arith, within))
    places-least (entry ∷ entries) least zero d rise within = rise.1
    places-least (entry ∷ entries) least (suc j) d rise within = omega (arith, rise.1, places-least entries (entry_place entry + 1) j d rise.2 (omega (arith, within)))
places-rise (entry ∷ entries) least (suc i) zero d rise less within = absurd (omega (arith, less))
places-rise (entry ∷ entries) least (suc i) (suc j) d rise less within = places-rise entries (entry_place entry + 1) i j d rise.2 (omega (arith, less)) (omega (arith, within))

-- ## Halving

places-at : (entries : List Entry) (i j : ℕ) (d e : Entry) → EntriesFrom 0 entries → i ≤ j → j < length entries → slice_get entries i ≡ Some d → slice_get entries j ≡ Some e → entry_place d ≤ entry_place e
places-at entries i j d e rise less within here there =
    let first : get_or entries i d ≡ d = get_or_from_slice_get entries i d d here in
    let second : get_or entries j d ≡ e = get_or_from_slice_get entries j e d there in
    omega (arith, places-rise entries 0 i j d rise less within, ap entry_place first, ap entry_place second)

pub cut-above : (entries : List Entry) (place from to middle : ℕ) (entry : Entry) → EntriesFrom 0 entries → IsCut entries place from to → middle < to → slice_get entries middle ≡ Some entry → entry_place entry < place →
    IsCut entries place (middle + 1) to
cut-above entries place from to middle entry rise cut below there before =
    record {
      before = λ k e less here. omega (arith, before, places-at entries k middle e entry rise (omega (arith, less)) (omega (arith, below, cut.within)) here there);
      behind = cut.behind;
      order = omega (arith, below);
      within = cut.within;
    }

pub cut-below : (entries : List Entry) (place from to middle : ℕ) (entry : Entry) → EntriesFrom 0 entries → IsCut entries place from to → from ≤ middle → middle < to → slice_get entries middle ≡ Some entry → place ≤ entry_place entry →
    IsCut entries place from middle
cut-below entries place from to middle entry rise cut above below there behind =
    record {
      before = cut.before;
      behind = λ k e less here. omega (arith, behind, places-at entries middle k entry e rise less (slice_get_within entries k e here) there here);
      order = above;
      within = omega (arith, below, cut.within);
    }

pub rent-cut : (entries : List Entry) (q s a at : ℕ) → EntriesFrom 0 entries → IsCut entries (use_place q s a) at at → rent_in entries q s a ≡ rent_of (slice_get entries at) q s a
rent-cut entries q s a at rise cut = rent-at entries 0 q s a at rise cut.before cut.behind
