-- Uses that entries name.
use Rattle.std.proofs.Common.{◌≡◌, ◌∙◌, inl, inr, ℕ, zero, suc, ◌+◌, ◌-◌, ◌<◌, ◌≤◌, Bool, true, false, List, [], ◌∷◌, length, get_or, refl, sym, ap, subst, arith}
use Rattle.std.specs.Prelude.{All, Option, Some, None, slice_get, option_and_then, not, ◌==◌}
use Rattle.std.specs.List.{AllByRecursion}
use Rattle.std.specs.Option.{option_map_or}
use Rattle.std.proofs.lemmas.Bool.{cases_Bool, cases_lt, not-true, eqb-true, eq-eqb, false≢true, not-false}
use Rattle.std.proofs.lemmas.Option.{slice_get-get_or, none-some}
use Rattle.std.proofs.lemmas.List.Elements.{All-head, All-tail, All-map}
use Rattle.adv_base.specs.declared.catalogue.index.IndexShape.{IndexShape}
use Rattle.adv_base.specs.declared.workload.Statement.{Statement}
use Rattle.adv_base.specs.declared.workload.block.Block.{Block}
use Rattle.adv_base.specs.declared.workload.parts.Slot.{Slot}
use Rattle.adv_base.specs.Settings.{TheSetting}
use Rattle.plan_model.specs.Totals.{block_of}
use Rattle.plan_model.proofs.Sums.{total, sum-total}
use Rattle.bip_model.specs.Proves.{NamesUse, RentsUses}
use Rattle.certificate.specs.declared.cert.Cert.{Cert}
use Rattle.certificate.specs.declared.cert.Entry.{Entry}
use Rattle.certificate.specs.declared.cert.SparseSet.{SparseSet}
use Rattle.certificate.specs.Limits.{EntryLimits, EntriesFrom, SetLimits, entry_count, entry_place}
use Rattle.gap_checker.specs.Faults.{NamesPair}
use Rattle.gap_checker.specs.Views.{is_entry_of, rent_in, multipliers_of, sets_of}
use Rattle.gap_checker.specs.inner.Uses.{slot_of, is_on, names_use, IsBadAt, IsNamedAt, IsBadEntry, IsFirstBad}
use Rattle.gap_checker.proofs.Entries.{entry-of}

false-true : false ≡ true → ⊥
false-true e = false≢true e

-- ## The test

record HasSlot (o : Option Statement) (s : ℕ) (slot : Slot) : Type 0 where
  statement : Statement
  statement_found : o ≡ Some statement
  block : Block
  block_is : block_of statement.work ≡ Some block
  slot_found : slice_get block.slots s ≡ Some slot

slot-parts : (o : Option Statement) (s : ℕ) (slot : Slot) → option_and_then (λ statement. option_and_then (λ block. slice_get block.slots s) (block_of statement.work)) o ≡ Some slot → HasSlot o s slot
slot-parts None s slot is = absurd (none-some slot is)
slot-parts (Some statement) s slot is = within (block_of statement.work) refl is
  where
    within : (b : Option Block) → block_of statement.work ≡ b → option_and_then (λ block. slice_get block.slots s) b ≡ Some slot → HasSlot (Some statement) s slot
    within None block_is is = absurd (none-some slot is)
    within (Some block) block_is is = record { statement = statement; statement_found = refl; block = block; block_is = block_is; slot_found = is }

slot-named : (setting : TheSetting) (q s a : ℕ) → (named : NamesUse setting q s a) → slot_of setting q s ≡ Some named.slot
slot-named setting q s a named =
    ap (option_and_then (λ statement. option_and_then (λ block. slice_get block.slots s) (block_of statement.work))) named.statement_found
    ∙ ap (option_and_then (λ block. slice_get block.slots s)) named.block_is ∙ named.slot_found

pub uses-named : (setting : TheSetting) (q s a : ℕ) → 0 < q → 0 < a → names_use setting q s a ≡ true → NamesUse setting q s a
uses-named setting q s a some_statement some_candidate is = at-slot (slot_of setting q s) refl is
  where
    at-shape : (slot : Slot) → HasSlot (slice_get setting.statements (q - 1)) s slot → (o : Option IndexShape) → slice_get setting.shapes (a - 1) ≡ o → option_map_or (λ shape. shape.table == slot.table) o false ≡ true → NamesUse setting q s a
    at-shape slot has None found on = absurd (false-true on)
    at-shape slot has (Some shape) found on =
        record {
          some_statement = some_statement;
          statement = has.statement;
          statement_found = has.statement_found;
          block = has.block;
          block_is = has.block_is;
          slot = slot;
          slot_found = has.slot_found;
          some_candidate = some_candidate;
          shape = shape;
          shape_found = found;
          on_table = eqb-true shape.table slot.table on;
        }

    at-slot : (o : Option Slot) → slot_of setting q s ≡ o → option_map_or (λ slot. is_on setting slot a) o false ≡ true → NamesUse setting q s a
    at-slot None found on = absurd (false-true on)
    at-slot (Some slot) found on = at-shape slot (slot-parts (slice_get setting.statements (q - 1)) s slot found) (slice_get setting.shapes (a - 1)) refl on

pub uses-unnamed : (setting : TheSetting) (q s a : ℕ) → names_use setting q s a ≡ false → ¬ (NamesUse setting q s a)
uses-unnamed setting q s a misses = λ named.
    let on : names_use setting q s a ≡ true =
    ap (λ (o : Option Slot). option_map_or (λ slot. is_on setting slot a) o false) (slot-named setting q s a named)
    ∙ ap (λ (o : Option IndexShape). option_map_or (λ shape. shape.table == named.slot.table) o false) named.shape_found
    ∙ eq-eqb named.shape.table named.slot.table named.on_table in
    false-true (sym misses ∙ on)

-- ## Rents

rents-named : (setting : TheSetting) (entries : List Entry) (least : ℕ) → EntriesFrom least entries → All (NamesPair setting) entries → (q s a : ℕ) → 0 < rent_in entries q s a → NamesUse setting q s a
rents-named setting [] least rise all q s a some = absurd (omega (arith, some))
rents-named setting (entry ∷ entries) least rise all q s a some =
    elim (cases_Bool (is_entry_of entry q s a)) [
      | inl is ↦
          let e = entry-of entry q s a is in
          let slot : entry.slot - 1 ≡ s = omega (arith, e.1) in
          let named : NamesUse setting entry.statement (entry.slot - 1) entry.candidate = All-head (NamesPair setting) entry entries all in
          subst (λ (n : ℕ). NamesUse setting q s n) e.2 (subst (λ (n : ℕ). NamesUse setting q n entry.candidate) slot (subst (λ (n : ℕ). NamesUse setting n (entry.slot - 1) entry.candidate) e.0 named))
      | inr other ↦ rents-named setting entries (entry_place entry + 1) rise.2 (All-tail (NamesPair setting) entry entries all) q s a (rw other at some)
    ]

pub all-named : (setting : TheSetting) (cert : Cert) → ((j : ℕ) (set : SparseSet) → slice_get cert.sets j ≡ Some set → EntriesFrom 0 set.entries) →
    ((j : ℕ) (set : SparseSet) → slice_get cert.sets j ≡ Some set → All (NamesPair setting) set.entries) → All (RentsUses setting) (sets_of cert)
all-named setting cert rise right =
    All-map (RentsUses setting) multipliers_of cert.sets
    (λ j d within.
    let found = slice_get-get_or cert.sets j d within in
    rents-named setting (get_or cert.sets j d).entries 0 (rise j (get_or cert.sets j d) found) (right j (get_or cert.sets j d) found))

same-entry : (x y : Entry) → Some x ≡ Some y → x ≡ y
same-entry x y e = cc

-- an entry that is listed gives its use a rent
itself : (e : Entry) → 1 ≤ e.slot → is_entry_of e e.statement (e.slot - 1) e.candidate ≡ true
itself e some =
    let slot : e.slot ≡ suc (e.slot - 1) = omega (arith, some) in
    rw (eq-eqb e.statement e.statement refl, eq-eqb e.slot (suc (e.slot - 1)) slot, eq-eqb e.candidate e.candidate refl) refl

pub entry-rent : (entries : List Entry) (least k : ℕ) (entry : Entry) → EntriesFrom least entries → slice_get entries k ≡ Some entry → 0 < rent_in entries entry.statement (entry.slot - 1) entry.candidate
entry-rent [] least k entry rise there = absurd (none-some entry there)
entry-rent (first ∷ entries) least zero entry rise there =
    let same : first ≡ entry = same-entry first entry there in
    let own : is_entry_of first entry.statement (entry.slot - 1) entry.candidate ≡ true =
    subst (λ (e : Entry). is_entry_of first e.statement (e.slot - 1) e.candidate ≡ true) same (itself first rise.0.slot_least) in
    rw own (omega (arith, rise.0.lambda_least))
entry-rent (first ∷ entries) least (suc k) entry rise there =
    let later : 0 < rent_in entries entry.statement (entry.slot - 1) entry.candidate = entry-rent entries (entry_place first + 1) k entry rise.2 there in
    elim (cases_Bool (is_entry_of first entry.statement (entry.slot - 1) entry.candidate)) [
      | inl is ↦ rw is (omega (arith, rise.0.lambda_least))
      | inr other ↦ rw other later
    ]

-- ## The first that names none

pub named-more : (setting : TheSetting) (set : SparseSet) (i : ℕ) → IsNamedAt setting set i →
    ((k : ℕ) (earlier : Entry) → k < i → slice_get set.entries k ≡ Some earlier → NamesPair setting earlier) →
    (k : ℕ) (earlier : Entry) → k < i + 1 → slice_get set.entries k ≡ Some earlier → NamesPair setting earlier
named-more setting set i named before k earlier below there =
    elim (cases_lt k i) [
      | inl less ↦ before k earlier less there
      | inr past ↦
          let same : k ≡ i = omega (arith, past, below) in
          let is : named.entry ≡ earlier = same-entry named.entry earlier (sym named.found ∙ ap (slice_get set.entries) (sym same) ∙ there) in
          subst (NamesPair setting) is named.names
    ]

pub named-all : (setting : TheSetting) (set : SparseSet) (i : ℕ) → length set.entries ≤ i →
    ((k : ℕ) (earlier : Entry) → k < i → slice_get set.entries k ≡ Some earlier → NamesPair setting earlier) → All (NamesPair setting) set.entries
named-all setting set i end before = λ k d within. before k (get_or set.entries k d) (omega (arith, end, within)) (slice_get-get_or set.entries k d within)

pub bad-first : (setting : TheSetting) (set : SparseSet) (i place : ℕ) → place ≡ i + 1 → IsBadAt setting set i →
    ((k : ℕ) (earlier : Entry) → k < i → slice_get set.entries k ≡ Some earlier → NamesPair setting earlier) → IsBadEntry setting set place
bad-first setting set i place is bad before =
    let same : place - 1 ≡ i = omega (arith, is) in
    record {
      some = omega (arith, is);
      entry = bad.entry;
      found = ap (slice_get set.entries) same ∙ bad.found;
      none = bad.none;
      before = λ k earlier below there. before k earlier (omega (arith, below, same)) there;
    }

same-set : (x y : SparseSet) → Some x ≡ Some y → x ≡ y
same-set x y e = cc

pub sets-more : (setting : TheSetting) (sets : List SparseSet) (j : ℕ) (set : SparseSet) → slice_get sets j ≡ Some set → All (NamesPair setting) set.entries →
    ((k : ℕ) (earlier : SparseSet) → k < j → slice_get sets k ≡ Some earlier → All (NamesPair setting) earlier.entries) →
    (k : ℕ) (earlier : SparseSet) → k < j + 1 → slice_get sets k ≡ Some earlier → All (NamesPair setting) earlier.entries
sets-more setting sets j set here named before k earlier below there =
    elim (cases_lt k j) [
      | inl less ↦ before k earlier less there
      | inr past ↦
          let same : k ≡ j = omega (arith, past, below) in
          let is : set ≡ earlier = same-set set earlier (sym here ∙ ap (slice_get sets) (sym same) ∙ there) in
          subst (λ (s : SparseSet). All (NamesPair setting) s.entries) is named
    ]

pub limits-at : (entries : List Entry) (least k : ℕ) (entry : Entry) → EntriesFrom least entries → slice_get entries k ≡ Some entry → EntryLimits entry
limits-at [] least k entry rise there = absurd (none-some entry there)
limits-at (first ∷ entries) least zero entry rise there = subst EntryLimits (same-entry first entry there) rise.0
limits-at (first ∷ entries) least (suc k) entry rise there = limits-at entries (entry_place first + 1) k entry rise.2 there

pub bad-at : (setting : TheSetting) (set : SparseSet) (place : ℕ) (entry : Entry) (b : Bool) → slice_get set.entries place ≡ Some entry → b ≡ names_use setting entry.statement (entry.slot - 1) entry.candidate →
    not b ≡ true → IsBadAt setting set place
bad-at setting set place entry b found is misses =
    record { entry = entry; found = found; none = uses-unnamed setting entry.statement (entry.slot - 1) entry.candidate (sym is ∙ not-true b misses) }

pub named-at : (setting : TheSetting) (set : SparseSet) (place : ℕ) (entry : Entry) (b : Bool) → EntriesFrom 0 set.entries → slice_get set.entries place ≡ Some entry → b ≡ names_use setting entry.statement (entry.slot - 1) entry.candidate →
    not b ≡ false → IsNamedAt setting set place
named-at setting set place entry b rise found is names =
    let limits = limits-at set.entries 0 place entry rise found in
    record { entry = entry; found = found; names = uses-named setting entry.statement (entry.slot - 1) entry.candidate (omega (arith, limits.statement_least)) (omega (arith, limits.candidate_least)) (sym is ∙ not-false b names) }

pub set-limits : (sets : List SparseSet) (j : ℕ) (set : SparseSet) → AllByRecursion SetLimits sets → slice_get sets j ≡ Some set → SetLimits set
set-limits [] j set limits there = absurd (none-some set there)
set-limits (first ∷ sets) zero set limits there = subst SetLimits (same-set first set there) limits.0
set-limits (first ∷ sets) (suc j) set limits there = set-limits sets j set limits.1 there

total-at : (sets : List SparseSet) (j : ℕ) (set : SparseSet) → slice_get sets j ≡ Some set → length set.entries ≤ total (λ (s : SparseSet). length s.entries) sets
total-at [] j set there = absurd (none-some set there)
total-at (first ∷ sets) zero set there = omega (arith, ap (λ (s : SparseSet). length s.entries) (same-set first set there))
total-at (first ∷ sets) (suc j) set there = omega (arith, total-at sets j set there)

pub count-at : (sets : List SparseSet) (j : ℕ) (set : SparseSet) → slice_get sets j ≡ Some set → length set.entries ≤ entry_count sets
count-at sets j set there = omega (arith, total-at sets j set there, sum-total (λ (s : SparseSet). length s.entries) sets)

pub pair-first : (setting : TheSetting) (sets : List SparseSet) (j number place : ℕ) (set : SparseSet) → number ≡ j + 1 → slice_get sets j ≡ Some set → IsBadEntry setting set place →
    ((k : ℕ) (earlier : SparseSet) → k < j → slice_get sets k ≡ Some earlier → All (NamesPair setting) earlier.entries) → IsFirstBad setting sets number place
pair-first setting sets j number place set is found bad before =
    let same : number - 1 ≡ j = omega (arith, is) in
    record {
      some = omega (arith, is);
      set = set;
      found = ap (slice_get sets) same ∙ found;
      entry = bad;
      before = λ k earlier below there. before k earlier (omega (arith, below, same)) there;
    }

pub place-is : (x place : ℕ) → Some x ≡ Some place → place ≡ x
place-is x place e = cc
