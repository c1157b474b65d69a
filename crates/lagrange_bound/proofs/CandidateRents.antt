-- The rents of a candidate in a programme that stands for a setting are those of its uses there.
use Rattle.std.proofs.Common.{◌≡◌, ◌∙◌, inl, inr, ℕ, zero, suc, ◌+◌, ◌-◌, ◌*◌, ◌<◌, ◌==◌, Bool, true, false, List, [], ◌∷◌, length, drop, refl, sym, ap, subst, arith}
use Rattle.std.specs.Prelude.{Option, Some, None, if◌then◌else◌, filter, slice_get}
use Rattle.std.specs.List.{enumerate_from}
use Rattle.std.specs.Option.{option_map_or}
use Rattle.std.proofs.lemmas.Bool.{cases_eq, eq-eqb, ne_eqb}
use Rattle.adv_base.specs.declared.catalogue.index.IndexShape.{IndexShape}
use Rattle.adv_base.specs.declared.workload.Statement.{Statement}
use Rattle.adv_base.specs.declared.workload.block.Block.{Block}
use Rattle.adv_base.specs.declared.workload.parts.Slot.{Slot}
use Rattle.adv_base.specs.Settings.{TheSetting}
use Rattle.plan_model.specs.Lagrangian as plain
use Rattle.plan_model.specs.Totals.{block_of}
use Rattle.bip_model.specs.declared.grant.Grant.{Grant}
use Rattle.bip_model.specs.declared.slot_part.SlotPart.{SlotPart}
use Rattle.bip_model.specs.declared.part.Part.{Part}
use Rattle.bip_model.specs.Values.{part_grants}
use Rattle.bip_model.specs.StandsFor.{candidates_on, AreEach, IsGrant, IsSlotPart, Blocked, IsPart, blocked_in, blocked_from}
use Rattle.bip_model.proofs.Lists.{each-map}
use Rattle.lagrange_bound.specs.Bounds.{grant_rents, slot_rents, part_rents}
use Rattle.lagrange_bound.proofs.RentPlaces.{RentsAre, SlotsAre, PartsAre, Ascending, SlotsAscending, PartsAscending, ascending-below, parts-below}

-- ## Grants are numbered

-- a grant is of the candidate of a number
abbrev IsOf : ℕ × IndexShape → Grant → Type 0
IsOf numbered grant = grant.candidate ≡ numbered.0

each-from : {A B : Type 0} (P : A → B → Type 0) (xs : List A) (ys : List B) → length ys ≡ length xs → ((k : ℕ) (x : A) (y : B) → slice_get xs k ≡ Some x → slice_get ys k ≡ Some y → P x y) → AreEach P xs ys
each-from P [] [] same at = tt
each-from P [] (y ∷ ys) same at = absurd (omega (arith, same))
each-from P (x ∷ xs) [] same at = absurd (omega (arith, same))
each-from P (x ∷ xs) (y ∷ ys) same at = (at 0 x y refl refl, each-from P xs ys (omega (arith, same)) (λ k a b. at (suc k) a b))

-- those at a slot are of the candidates on its table
abbrev AreOf : List IndexShape → Slot → SlotPart → Type 0
AreOf shapes slot own = AreEach IsOf (candidates_on shapes slot.table) own.grants

slots-of : (setting : TheSetting) (blocked : Blocked) (part : Part) → IsPart setting blocked part → AreEach (AreOf setting.shapes) blocked.block.slots part.slots
slots-of setting blocked part is =
    each-from (AreOf setting.shapes) blocked.block.slots part.slots is.slots_count
    (λ s slot own slot_found own_found.
    let there : IsSlotPart setting blocked.block is.task s slot own = is.slots_are s slot own slot_found own_found in
    each-map (IsGrant setting blocked.block is.task s slot there.table) IsOf (λ n g grant. grant.candidate_is) (candidates_on setting.shapes slot.table) own.grants there.grants_are)

-- so their numbers rise
grants-ascending : (t k : ℕ) (shapes : List IndexShape) (grants : List Grant) → AreEach IsOf (filter (λ n. n.1.table == t) (enumerate_from k shapes)) grants → Ascending k grants
grants-ascending t k [] [] are = tt
grants-ascending t k [] (grant ∷ grants) are = absurd are
grants-ascending t k (shape ∷ shapes) grants are = one (shape.table == t) grants (λ gs each. grants-ascending t (k + 1) shapes gs each) are
  where
    one : (b : Bool) (grants : List Grant) → ((gs : List Grant) → AreEach IsOf (filter (λ n. n.1.table == t) (enumerate_from (k + 1) shapes)) gs → Ascending (k + 1) gs) →
        AreEach IsOf (if b then (k, shape) ∷ (filter (λ n. n.1.table == t) (enumerate_from (k + 1) shapes)) else (filter (λ n. n.1.table == t) (enumerate_from (k + 1) shapes))) grants → Ascending k grants
    one true [] more are = tt
    one true (grant ∷ grants) more are =
        let next : k + 1 ≡ suc grant.candidate = omega (arith, are.0) in
        (omega (arith, are.0), subst (λ n. Ascending n grants) next (more grants are.1))
    one false grants more are = ascending-below (k + 1) k grants (omega arith) (more grants are)

slots-ascending : (shapes : List IndexShape) (slots : List Slot) (owns : List SlotPart) → AreEach (AreOf shapes) slots owns → SlotsAscending owns
slots-ascending shapes [] [] are = tt
slots-ascending shapes [] (own ∷ owns) are = absurd are
slots-ascending shapes (slot ∷ slots) [] are = absurd are
slots-ascending shapes (slot ∷ slots) (own ∷ owns) are =
    (ascending-below 1 0 own.grants (omega arith) (grants-ascending slot.table 1 shapes own.grants are.0), slots-ascending shapes slots owns are.1)

pub parts-ascending : (setting : TheSetting) (q : ℕ) (statements : List Statement) (parts : List Part) → AreEach (IsPart setting) (blocked_from q statements) parts → PartsAscending q parts
parts-ascending setting q [] [] are = tt
parts-ascending setting q [] (part ∷ parts) are = absurd are
parts-ascending setting q (statement ∷ statements) parts are = one (block_of statement.work) parts (λ ps each. parts-ascending setting (suc q) statements ps each) are
  where
    one : (there : Option Block) (parts : List Part) → ((ps : List Part) → AreEach (IsPart setting) (blocked_from (suc q) statements) ps → PartsAscending (suc q) ps) →
        AreEach (IsPart setting) (blocked_in q statement.weight there (blocked_from (suc q) statements)) parts → PartsAscending q parts
    one None parts more are = parts-below (suc q) q parts (omega arith) (more parts are)
    one (Some block) [] more are = tt
    one (Some block) (part ∷ parts) more are =
        let blocked : Blocked = record { number = q; weight = statement.weight; block = block } in
        let number : part.statement ≡ q = are.0.statement_is in (
          omega (arith, number),
          slots-ascending setting.shapes block.slots part.slots (slots-of setting blocked part are.0),
          subst (λ n. PartsAscending n parts) (ap suc (sym number)) (more parts are.1),
        )

-- ## The rents of a candidate

eqb-sym : (a b : ℕ) → (a == b) ≡ (b == a)
eqb-sym a b =
    elim (cases_eq a b) [
      | inl same ↦ eq-eqb a b same ∙ sym (eq-eqb b a (sym same))
      | inr other ↦ ne_eqb a b other ∙ sym (ne_eqb b a (λ e. other (sym e)))
    ]

-- none of a candidate below all
grants-past : (a k : ℕ) (grants : List Grant) (rents : List ℕ) → a < k → Ascending k grants → grant_rents a grants rents ≡ 0
grants-past a k [] rents below asc = refl
grants-past a k (grant ∷ grants) [] below asc = refl
grants-past a k (grant ∷ grants) (rent ∷ rents) below asc =
    let test : (grant.candidate == a) ≡ false = ne_eqb grant.candidate a (λ e. omega (arith, e, below, asc.0)) in
    let rest : grant_rents a grants rents ≡ 0 = grants-past a (suc grant.candidate) grants rents (omega (arith, below, asc.0)) asc.1 in
    let none : 0 + grant_rents a grants rents ≡ 0 = omega (arith, rest) in
    ap (λ (b : Bool). (if b then rent else 0) + grant_rents a grants rents) test ∙ none

-- at a slot it has one grant, where it is on the slot's table
grants-one : (f : ℕ → ℕ) (t k i : ℕ) (shape : IndexShape) (shapes : List IndexShape) (grants : List Grant) (rents : List ℕ) → slice_get shapes i ≡ Some shape →
    AreEach IsOf (filter (λ n. n.1.table == t) (enumerate_from k shapes)) grants → RentsAre f grants rents →
    grant_rents (k + i) grants rents ≡ (if shape.table == t then f (k + i) else 0)
grants-one f t k i shape [] grants rents found are rented = absurd (cc)
grants-one f t k zero shape (x ∷ shapes) grants rents found are rented =
    let same : x ≡ shape = cc in
    one (x.table == t) grants rents are rented ∙ ap (λ (y : IndexShape). if y.table == t then f (k + 0) else 0) same
  where
    one : (b : Bool) (grants : List Grant) (rents : List ℕ) → AreEach IsOf (if b then (k, x) ∷ (filter (λ n. n.1.table == t) (enumerate_from (k + 1) shapes)) else (filter (λ n. n.1.table == t) (enumerate_from (k + 1) shapes))) grants → RentsAre f grants rents →
        grant_rents (k + 0) grants rents ≡ (if b then f (k + 0) else 0)
    one true [] rents are rented = absurd are
    one true (grant ∷ grants) [] are rented = absurd rented
    one true (grant ∷ grants) (rent ∷ rents) are rented =
        let test : (grant.candidate == (k + 0)) ≡ true = eq-eqb grant.candidate (k + 0) (omega (arith, are.0)) in
        let own : rent ≡ f (k + 0) = sym rented.0 ∙ ap f (omega (arith, are.0)) in
        let none : grant_rents (k + 0) grants rents ≡ 0 = grants-past (k + 0) (k + 1) grants rents (omega arith) (grants-ascending t (k + 1) shapes grants are.1) in
        let sum : rent + grant_rents (k + 0) grants rents ≡ rent = omega (arith, none) in
        ap (λ (b : Bool). (if b then rent else 0) + grant_rents (k + 0) grants rents) test ∙ sum ∙ own
    one false grants rents are rented = grants-past (k + 0) (k + 1) grants rents (omega arith) (grants-ascending t (k + 1) shapes grants are)
grants-one f t k (suc i) shape (x ∷ shapes) grants rents found are rented =
    let next : k + 1 + i ≡ k + suc i = omega arith in
    one (x.table == t) grants rents
    (λ gs rs each own. subst (λ (n : ℕ). grant_rents n gs rs ≡ (if shape.table == t then f n else 0)) next (grants-one f t (k + 1) i shape shapes gs rs found each own))
    are rented
  where
    one : (b : Bool) (grants : List Grant) (rents : List ℕ) →
        ((gs : List Grant) (rs : List ℕ) → AreEach IsOf (filter (λ n. n.1.table == t) (enumerate_from (k + 1) shapes)) gs → RentsAre f gs rs → grant_rents (k + suc i) gs rs ≡ (if shape.table == t then f (k + suc i) else 0)) →
        AreEach IsOf (if b then (k, x) ∷ (filter (λ n. n.1.table == t) (enumerate_from (k + 1) shapes)) else (filter (λ n. n.1.table == t) (enumerate_from (k + 1) shapes))) grants → RentsAre f grants rents →
        grant_rents (k + suc i) grants rents ≡ (if shape.table == t then f (k + suc i) else 0)
    one true [] rents later are rented = absurd are
    one true (grant ∷ grants) [] later are rented = absurd rented
    one true (grant ∷ grants) (rent ∷ rents) later are rented =
        let test : (grant.candidate == (k + suc i)) ≡ false = ne_eqb grant.candidate (k + suc i) (λ e. omega (arith, e, are.0)) in
        let none : 0 + grant_rents (k + suc i) grants rents ≡ grant_rents (k + suc i) grants rents = omega arith in
        ap (λ (b : Bool). (if b then rent else 0) + grant_rents (k + suc i) grants rents) test ∙ none ∙ later grants rents are.1 rented.1
    one false grants rents later are rented = later grants rents are rented

slots-one : (f : ℕ → ℕ → ℕ) (i : ℕ) (shape : IndexShape) (shapes : List IndexShape) (s : ℕ) (slots : List Slot) (owns : List SlotPart) (rents : List ℕ) → slice_get shapes i ≡ Some shape →
    AreEach (AreOf shapes) slots owns → SlotsAre f s owns rents → slot_rents (suc i) owns rents ≡ plain.slot_rents (λ t. f t (suc i)) shape.table s slots
slots-one f i shape shapes s [] [] rents found are rented = refl
slots-one f i shape shapes s [] (own ∷ owns) rents found are rented = absurd are
slots-one f i shape shapes s (slot ∷ slots) [] rents found are rented = absurd are
slots-one f i shape shapes s (slot ∷ slots) (own ∷ owns) rents found are rented =
    let number : 1 + i ≡ suc i = omega arith in
    let one : grant_rents (1 + i) own.grants rents ≡ (if shape.table == slot.table then f s (1 + i) else 0) = grants-one (f s) slot.table 1 i shape shapes own.grants rents found are.0 rented.0 in
    let here : grant_rents (suc i) own.grants rents ≡ (if slot.table == shape.table then f s (suc i) else 0) =
    subst (λ (n : ℕ). grant_rents n own.grants rents ≡ (if shape.table == slot.table then f s n else 0)) number one
    ∙ ap (λ (b : Bool). if b then f s (suc i) else 0) (eqb-sym shape.table slot.table) in
    let rest = slots-one f i shape shapes (suc s) slots owns (drop (length own.grants) rents) found are.1 rented.1 in
    omega (arith, here, rest)

pub parts-one : (f : ℕ → ℕ → ℕ → ℕ) (setting : TheSetting) (i : ℕ) (shape : IndexShape) (q : ℕ) (statements : List Statement) (parts : List Part) (rents : List ℕ) → slice_get setting.shapes i ≡ Some shape →
    AreEach (IsPart setting) (blocked_from q statements) parts → PartsAre f parts rents → part_rents (suc i) parts rents ≡ plain.weighted_rents (λ r s. f r s (suc i)) shape.table q statements
parts-one f setting i shape q [] [] rents found are rented = refl
parts-one f setting i shape q [] (part ∷ parts) rents found are rented = absurd are
parts-one f setting i shape q (statement ∷ statements) parts rents found are rented =
    one (block_of statement.work) parts rents (λ ps rs each own. parts-one f setting i shape (suc q) statements ps rs found each own) are rented
  where
    one : (there : Option Block) (parts : List Part) (rents : List ℕ) →
        ((ps : List Part) (rs : List ℕ) → AreEach (IsPart setting) (blocked_from (suc q) statements) ps → PartsAre f ps rs → part_rents (suc i) ps rs ≡ plain.weighted_rents (λ r s. f r s (suc i)) shape.table (suc q) statements) →
        AreEach (IsPart setting) (blocked_in q statement.weight there (blocked_from (suc q) statements)) parts → PartsAre f parts rents →
        part_rents (suc i) parts rents
        ≡ statement.weight * option_map_or (λ block. plain.slot_rents (λ s. f q s (suc i)) shape.table 0 block.slots) there 0 + plain.weighted_rents (λ r s. f r s (suc i)) shape.table (suc q) statements
    one None parts rents more are rented = let rest = more parts rents are rented in omega (arith, rest)
    one (Some block) [] rents more are rented = absurd are
    one (Some block) (part ∷ parts) rents more are rented =
        let blocked : Blocked = record { number = q; weight = statement.weight; block = block } in
        let rest = more parts (drop (part_grants part) rents) are.1 rented.1 in
        let own : slot_rents (suc i) part.slots rents ≡ plain.slot_rents (λ s. f part.statement s (suc i)) shape.table 0 block.slots =
        slots-one (f part.statement) i shape setting.shapes 0 block.slots part.slots rents found (slots-of setting blocked part are.0) rented.0 in
        let here : slot_rents (suc i) part.slots rents ≡ plain.slot_rents (λ s. f q s (suc i)) shape.table 0 block.slots =
        own ∙ ap (λ (r : ℕ). plain.slot_rents (λ s. f r s (suc i)) shape.table 0 block.slots) are.0.statement_is in
        let weighted : part.weight * slot_rents (suc i) part.slots rents ≡ statement.weight * plain.slot_rents (λ s. f q s (suc i)) shape.table 0 block.slots =
        ap (λ (w : ℕ). w * slot_rents (suc i) part.slots rents) are.0.weight_is ∙ ap (λ (n : ℕ). statement.weight * n) here in
        omega (arith, weighted, rest)
