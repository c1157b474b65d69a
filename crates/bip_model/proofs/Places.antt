-- A rent stands only where a candidate may be used; and how many rents there may be.
use Rattle.std.proofs.Common.{◌≡◌, ◌∙◌, inl, inr, ℕ, suc, ◌+◌, ◌-◌, ◌*◌, ◌<◌, ◌≤◌, ◌==◌, Bool, true, false, cond, not, ◌&&◌, List, [], ◌∷◌, length, map, refl, sym, ap, subst, arith}
use Rattle.std.specs.Prelude.{Some, filter, if◌then◌else◌, slice_get}
use Rattle.std.specs.List.{enumerate_from}
use Rattle.std.proofs.lemmas.Bool.{cases_Bool, eqb-true, and_parts}
use Rattle.std.proofs.lemmas.List.{length-append, length-map}
use Rattle.adv_base.specs.declared.catalogue.index.IndexShape.{IndexShape}
use Rattle.adv_base.specs.declared.limits.TheConstants.{MOST_ENTRIES}
use Rattle.adv_base.specs.declared.workload.Statement.{Statement}
use Rattle.adv_base.specs.declared.workload.Work.{Work}
use Rattle.adv_base.specs.declared.workload.Work.TheVariants.{Select, Update, Delete, Insert}
use Rattle.adv_base.specs.declared.workload.parts.Slot.{Slot}
use Rattle.adv_base.specs.Limits.Settings.{slot_count}
use Rattle.adv_base.specs.Settings.{TheSetting, KeepsLimits}
use Rattle.plan_model.specs.Totals.{block_of}
use Rattle.plan_model.proofs.Sums.{total, sum-total}
use Rattle.bip_model.specs.declared.multipliers.Multipliers.{Multipliers}
use Rattle.bip_model.specs.Best.{entry_count}
use Rattle.bip_model.specs.Proves.{NamesUse, RentsUses}
use Rattle.bip_model.specs.StandsFor.{candidates_on, Blocked, blocked_in, blocked_from}
use Rattle.bip_model.specs.Uses.{slot_uses, blocked_uses, uses, multipliers_in, AreMultipliersIn}
use Rattle.bip_model.specs.Views.{Place, is_place, rent_at}
use Rattle.bip_model.proofs.Deciding.{blocked-from}
use Rattle.bip_model.proofs.Fixing.{Has, image-of}
use Rattle.bip_model.proofs.Lists.{either-of}
use Rattle.bip_model.proofs.Useless.{filter-test, numbered-is}

-- ## A rent has its place

record IsPlaceOf (list : List Place) (q s a : ℕ) : Type 0 where
  number : ℕ
  place : Place
  found : slice_get list number ≡ Some place
  statement_is : place.statement ≡ q
  slot_is : place.slot ≡ s
  candidate_is : place.candidate ≡ a

place-parts : (place : Place) (q s a : ℕ) → is_place place q s a ≡ true → (place.statement ≡ q) × (place.slot ≡ s) × (place.candidate ≡ a)
place-parts place q s a e =
    let outer = and_parts (place.statement == q) ((place.slot == s) && (place.candidate == a)) e in
    let inner = and_parts (place.slot == s) (place.candidate == a) outer.1 in
    (eqb-true place.statement q outer.0, eqb-true place.slot s inner.0, eqb-true place.candidate a inner.1)

rent-place : (list : List Place) (rents : List ℕ) (q s a : ℕ) → 0 < rent_at list rents q s a → IsPlaceOf list q s a
rent-place [] rents q s a some = absurd (omega (arith, some))
rent-place (place ∷ list) [] q s a some = absurd (omega (arith, some))
rent-place (place ∷ list) (rent ∷ rents) q s a some =
    elim (cases_Bool (is_place place q s a)) [
      | inl here ↦
          let parts = place-parts place q s a here in
          record { number = 0; place = place; found = refl; statement_is = parts.0; slot_is = parts.1; candidate_is = parts.2 }
      | inr other ↦
          let rest = rent-place list rents q s a (subst (λ (b : Bool). 0 < (if b then rent else rent_at list rents q s a)) other some) in
          record { number = suc rest.number; place = rest.place; found = rest.found; statement_is = rest.statement_is; slot_is = rest.slot_is; candidate_is = rest.candidate_is }
    ]

-- ## A place is a use

record IsSlotUse (shapes : List IndexShape) (q s : ℕ) (slots : List Slot) (place : Place) : Type 0 where
  number : ℕ
  slot : Slot
  found : slice_get slots number ≡ Some slot
  numbered : ℕ × IndexShape
  has : Has (candidates_on shapes slot.table) numbered
  statement_is : place.statement ≡ q
  slot_is : place.slot ≡ s + number
  candidate_is : place.candidate ≡ numbered.0

slot-use : (shapes : List IndexShape) (q s : ℕ) (slots : List Slot) (i : ℕ) (place : Place) → slice_get (slot_uses shapes q s slots) i ≡ Some place → IsSlotUse shapes q s slots place
slot-use shapes q s [] i place found = absurd (cc)
slot-use shapes q s (slot ∷ slots) i place found =
    let here : ℕ × IndexShape → Place = λ n. record { statement = q; slot = s; candidate = n.0 } in
    elim (either-of (map here (candidates_on shapes slot.table)) (slot_uses shapes q (suc s) slots) i place found) [
      | inl front ↦
          let image = image-of here (candidates_on shapes slot.table) i place front in
          record {
            number = 0;
            slot = slot;
            found = refl;
            numbered = image.element;
            has = image.has;
            statement_is = ap (λ (p : Place). p.statement) (sym image.is);
            slot_is = let same = ap (λ (p : Place). p.slot) (sym image.is) in omega (arith, same);
            candidate_is = ap (λ (p : Place). p.candidate) (sym image.is);
          }
      | inr back ↦
          let rest = slot-use shapes q (suc s) slots back.number place back.found in
          record {
            number = suc rest.number;
            slot = rest.slot;
            found = rest.found;
            numbered = rest.numbered;
            has = rest.has;
            statement_is = rest.statement_is;
            slot_is = omega (arith, rest.slot_is);
            candidate_is = rest.candidate_is;
          }
    ]

record IsBlockedUse (shapes : List IndexShape) (list : List Blocked) (place : Place) : Type 0 where
  number : ℕ
  blocked : Blocked
  found : slice_get list number ≡ Some blocked
  use' : IsSlotUse shapes blocked.number 0 blocked.block.slots place

blocked-use : (shapes : List IndexShape) (list : List Blocked) (i : ℕ) (place : Place) → slice_get (blocked_uses shapes list) i ≡ Some place → IsBlockedUse shapes list place
blocked-use shapes [] i place found = absurd (cc)
blocked-use shapes (blocked ∷ list) i place found =
    elim (either-of (slot_uses shapes blocked.number 0 blocked.block.slots) (blocked_uses shapes list) i place found) [
      | inl front ↦ record { number = 0; blocked = blocked; found = refl; use' = slot-use shapes blocked.number 0 blocked.block.slots i place front }
      | inr back ↦
          let rest = blocked-use shapes list back.number place back.found in
          record { number = suc rest.number; blocked = rest.blocked; found = rest.found; use' = rest.use' }
    ]

pub place-use : (setting : TheSetting) (i : ℕ) (place : Place) → slice_get (uses setting) i ≡ Some place → NamesUse setting place.statement place.slot place.candidate
place-use setting i place found =
    let in_block = blocked-use setting.shapes (blocked_from 1 setting.statements) i place found in
    let of' = blocked-from 1 setting.statements in_block.number in_block.blocked in_block.found in
    let own = in_block.use' in
    let listed = filter-test (λ (m : ℕ × IndexShape). m.1.table == own.slot.table) (enumerate_from 1 setting.shapes) own.numbered own.has in
    let numbered = numbered-is 1 setting.shapes listed.0.number own.numbered listed.0.found in
    let statement_at : of'.place ≡ place.statement - 1 = omega (arith, own.statement_is, of'.number_is) in
    let slot_at : own.number ≡ place.slot = omega (arith, own.slot_is) in
    record {
      some_statement = omega (arith, own.statement_is, of'.number_is);
      statement = of'.statement;
      statement_found = ap (slice_get setting.statements) (sym statement_at) ∙ of'.found;
      block = in_block.blocked.block;
      block_is = of'.block_is;
      slot = own.slot;
      slot_found = ap (slice_get in_block.blocked.block.slots) (sym slot_at) ∙ own.found;
      some_candidate = omega (arith, own.candidate_is, numbered.least);
      shape = own.numbered.1;
      shape_found = ap (λ (k : ℕ). slice_get setting.shapes (k - 1)) own.candidate_is ∙ numbered.found;
      on_table = eqb-true own.numbered.1.table own.slot.table listed.1;
    }

listed-use : (setting : TheSetting) (rents : List ℕ) (q s a : ℕ) → 0 < rent_at (uses setting) rents q s a → NamesUse setting q s a
listed-use setting rents q s a some =
    let at' = rent-place (uses setting) rents q s a some in
    subst (λ (k : ℕ). NamesUse setting k s a) at'.statement_is
    (subst (λ (k : ℕ). NamesUse setting at'.place.statement k a) at'.slot_is
    (subst (λ (k : ℕ). NamesUse setting at'.place.statement at'.place.slot k) at'.candidate_is
    (place-use setting at'.number at'.place at'.found)))

-- so an answer's sets say rents of uses alone
pub rents-use : (setting : TheSetting) (multipliers : Multipliers) → RentsUses setting (multipliers_in setting multipliers)
rents-use setting multipliers = λ q s a some. listed-use setting multipliers.lambda q s a some

-- ## How many uses there may be

pub filter-length : {X : Type 0} (test : X → Bool) (xs : List X) → length (filter test xs) ≤ length xs
filter-length test [] = omega arith
filter-length {X} test (x ∷ xs) = one (test x) (filter-length test xs)
  where
    one : (b : Bool) → length (filter test xs) ≤ length xs → length (cond b (x ∷ filter test xs) (filter test xs)) ≤ length (x ∷ xs)
    one true rest = omega (arith, rest)
    one false rest = omega (arith, rest)

pub enumerate-length : (k : ℕ) (xs : List IndexShape) → length (enumerate_from k xs) ≡ length xs
enumerate-length k [] = refl
enumerate-length k (x ∷ xs) = let rest = enumerate-length (k + 1) xs in omega (arith, rest)

slot-uses-most : (shapes : List IndexShape) (q s : ℕ) (slots : List Slot) → length shapes ≤ 256 → length (slot_uses shapes q s slots) ≤ 256 * length slots
slot-uses-most shapes q s [] few = omega arith
slot-uses-most shapes q s (slot ∷ slots) few =
    let here : ℕ × IndexShape → Place = λ n. record { statement = q; slot = s; candidate = n.0 } in
    let rest = slot-uses-most shapes q (suc s) slots few in
    let both = length-append (map here (candidates_on shapes slot.table)) (slot_uses shapes q (suc s) slots) in
    let mapped = length-map (candidates_on shapes slot.table) here in
    let kept = filter-length (λ (m : ℕ × IndexShape). m.1.table == slot.table) (enumerate_from 1 shapes) in
    let listed = enumerate-length 1 shapes in
    omega (arith, rest, both, mapped, kept, listed, few)

blocked-uses-most : (shapes : List IndexShape) (list : List Blocked) → length shapes ≤ 256 → length (blocked_uses shapes list) ≤ 256 * total (λ (b : Blocked). length b.block.slots) list
blocked-uses-most shapes [] few = omega arith
blocked-uses-most shapes (blocked ∷ list) few =
    let rest = blocked-uses-most shapes list few in
    let here = slot-uses-most shapes blocked.number 0 blocked.block.slots few in
    let both = length-append (slot_uses shapes blocked.number 0 blocked.block.slots) (blocked_uses shapes list) in
    omega (arith, rest, here, both)

-- a block has the slots of its statement
blocked-slots : (q weight : ℕ) (work : Work) (rest : List Blocked) → total (λ (b : Blocked). length b.block.slots) (blocked_in q weight (block_of work) rest) ≡ slot_count work + total (λ (b : Blocked). length b.block.slots) rest
blocked-slots q weight (Select block) rest = refl
blocked-slots q weight (Update block columns) rest = refl
blocked-slots q weight (Delete block) rest = refl
blocked-slots q weight (Insert table rows) rest = omega arith

all-slots : (q : ℕ) (statements : List Statement) → total (λ (b : Blocked). length b.block.slots) (blocked_from q statements) ≡ total (λ (s : Statement). slot_count s.work) statements
all-slots q [] = refl
all-slots q (statement ∷ statements) =
    let here = blocked-slots q statement.weight statement.work (blocked_from (suc q) statements) in
    let rest = all-slots (suc q) statements in
    omega (arith, here, rest)

pub uses-most : (setting : TheSetting) → KeepsLimits setting → length (uses setting) ≤ 512000
uses-most setting limits =
    let most = blocked-uses-most setting.shapes (blocked_from 1 setting.statements) limits.shapes_most in
    let slots = all-slots 1 setting.statements in
    let summed = sum-total (λ (s : Statement). slot_count s.work) setting.statements in
    omega (arith, most, slots, summed, limits.slots_most)

-- ## How many rents aren't 0

count-length : (rents : List ℕ) → total (λ (rent : ℕ). cond (not (rent == 0)) 1 0) rents ≤ length rents
count-length [] = omega arith
count-length (rent ∷ rents) = let rest = count-length rents in one (not (rent == 0)) rest
  where
    one : (b : Bool) → total (λ (r : ℕ). cond (not (r == 0)) 1 0) rents ≤ length rents → cond b 1 0 + total (λ (r : ℕ). cond (not (r == 0)) 1 0) rents ≤ length (rent ∷ rents)
    one true rest = omega (arith, rest)
    one false rest = omega (arith, rest)

pub entries-most : (setting : TheSetting) (multipliers : Multipliers) → KeepsLimits setting → AreMultipliersIn setting multipliers → entry_count (multipliers ∷ []) ≤ MOST_ENTRIES
entries-most setting multipliers limits are =
    let rent_count = sum-total (λ (rent : ℕ). cond (not (rent == 0)) 1 0) multipliers.lambda in
    let most = count-length multipliers.lambda in
    omega (arith, rent_count, most, are.one_each, uses-most setting limits)
