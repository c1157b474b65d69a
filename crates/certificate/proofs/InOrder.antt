-- The parts and grants of a programme that stands for a setting are in order.
use Rattle.std.proofs.Common.{◌≡◌, ◌∙◌, inl, inr, ℕ, suc, ◌+◌, ◌≤◌, ◌==◌, Bool, true, false, cond, List, [], ◌∷◌, sym, subst, refl, arith}
use Rattle.std.specs.Prelude.{Option, Some, None, filter, slice_get}
use Rattle.std.specs.List.{AllByRecursion, enumerate_from}
use Rattle.std.proofs.lemmas.Option.{slice_get_cases}
use Rattle.adv_base.specs.declared.catalogue.index.IndexShape.{IndexShape}
use Rattle.adv_base.specs.declared.catalogue.table.Table.{Table}
use Rattle.adv_base.specs.declared.workload.Statement.{Statement}
use Rattle.adv_base.specs.declared.workload.block.Block.{Block}
use Rattle.adv_base.specs.declared.workload.parts.Slot.{Slot}
use Rattle.adv_base.specs.Settings.{TheSetting}
use Rattle.plan_model.specs.declared.task.Task.{Task}
use Rattle.plan_model.specs.Totals.{block_of}
use Rattle.bip_model.specs.declared.grant.Grant.{Grant}
use Rattle.bip_model.specs.declared.part.Part.{Part}
use Rattle.bip_model.specs.declared.slot_part.SlotPart.{SlotPart}
use Rattle.bip_model.specs.StandsFor.{AreEach, IsGrant, IsPart, Blocked, blocked_in, blocked_from}
use Rattle.certificate.specs.Answers.{GrantsRise, PartsRise, StandingInOrder}

grants-low : (m least : ℕ) (grants : List Grant) → GrantsRise m grants → least ≤ m → GrantsRise least grants
grants-low m least [] h low = tt
grants-low m least (grant ∷ grants) h low = (omega (arith, h.0), h.1)

-- grants of numbered things that pass a test
grants-next : (setting : TheSetting) (block : Block) (task : Task) (s : ℕ) (slot : Slot) (table : Table) (n : ℕ) (shape : IndexShape) (rest : List (ℕ × IndexShape)) (passes : Bool) (grants : List Grant) →
    ((gs : List Grant) → AreEach (IsGrant setting block task s slot table) rest gs → GrantsRise (n + 1) gs) →
    AreEach (IsGrant setting block task s slot table) (cond passes ((n, shape) ∷ rest) rest) grants → GrantsRise n grants
grants-next setting block task s slot table n shape rest true [] next h = absurd h
grants-next setting block task s slot table n shape rest true (grant ∷ grants) next h =
    let own : grant.candidate ≡ n = h.0.candidate_is in
    let after : n + 1 ≡ suc grant.candidate = omega arith in
    (omega arith, subst (λ (k : ℕ). GrantsRise k grants) after (next grants h.1))
grants-next setting block task s slot table n shape rest false grants next h = grants-low (n + 1) n grants (next grants h) (omega arith)

grants-rise : (setting : TheSetting) (block : Block) (task : Task) (s : ℕ) (slot : Slot) (table : Table) (test : ℕ × IndexShape → Bool) (n : ℕ) (shapes : List IndexShape) (grants : List Grant) →
    AreEach (IsGrant setting block task s slot table) (filter test (enumerate_from n shapes)) grants → GrantsRise n grants
grants-rise setting block task s slot table test n [] [] h = tt
grants-rise setting block task s slot table test n [] (grant ∷ grants) h = absurd h
grants-rise setting block task s slot table test n (shape ∷ shapes) grants h =
    grants-next setting block task s slot table n shape (filter test (enumerate_from (n + 1) shapes)) (test (n, shape)) grants
    (λ gs g. grants-rise setting block task s slot table test (n + 1) shapes gs g) h

-- what holds at each place holds of all
all-at : (P : SlotPart → Type 0) (xs : List SlotPart) → ((s : ℕ) (x : SlotPart) → slice_get xs s ≡ Some x → P x) → AllByRecursion P xs
all-at P [] h = tt
all-at P (x ∷ xs) h = (h 0 x refl, all-at P xs (λ s y found. h (suc s) y found))

part-rises : (setting : TheSetting) (blocked : Blocked) (part : Part) → IsPart setting blocked part → AllByRecursion (λ (slot : SlotPart). GrantsRise 1 slot.grants) part.slots
part-rises setting blocked part is = all-at (λ (slot : SlotPart). GrantsRise 1 slot.grants) part.slots (λ s own found.
    elim (slice_get_cases blocked.block.slots s).1 [
      | inl slot ↦
          let slot_is = is.slots_are s slot.0 own slot.2 found in
          grants-rise setting blocked.block is.task s slot.0 slot_is.table (λ (numbered : ℕ × IndexShape). numbered.1.table == slot.0.table) 1 setting.shapes own.grants slot_is.grants_are
      | inr past ↦
          elim (slice_get_cases part.slots s).1 [
            | inl there ↦ absurd (omega (arith, past.0, there.1, is.slots_count))
            | inr none ↦ absurd (let no : None ≡ Some own = sym none.1 ∙ found in cc)
          ]
    ])

parts-low : (m least : ℕ) (parts : List Part) → PartsRise m parts → least ≤ m → PartsRise least parts
parts-low m least [] h low = tt
parts-low m least (part ∷ parts) h low = (omega (arith, h.0), h.1, h.2)

parts-next : (setting : TheSetting) (q weight : ℕ) (found : Option Block) (rest : List Blocked) (parts : List Part) → ((ps : List Part) → AreEach (IsPart setting) rest ps → PartsRise (suc q) ps) →
    AreEach (IsPart setting) (blocked_in q weight found rest) parts → PartsRise q parts
parts-next setting q weight None rest parts next h = parts-low (suc q) q parts (next parts h) (omega arith)
parts-next setting q weight (Some block) rest [] next h = absurd h
parts-next setting q weight (Some block) rest (part ∷ parts) next h =
    let own : part.statement ≡ q = h.0.statement_is in
    let after : suc q ≡ suc part.statement = omega arith in
    (omega arith, part-rises setting (record { number = q; weight = weight; block = block }) part h.0, subst (λ (k : ℕ). PartsRise k parts) after (next parts h.1))

parts-rise : (setting : TheSetting) (q : ℕ) (statements : List Statement) (parts : List Part) → AreEach (IsPart setting) (blocked_from q statements) parts → PartsRise q parts
parts-rise setting q [] [] h = tt
parts-rise setting q [] (part ∷ parts) h = absurd h
parts-rise setting q (statement ∷ statements) parts h =
    parts-next setting q statement.weight (block_of statement.work) (blocked_from (suc q) statements) parts (λ ps g. parts-rise setting (suc q) statements ps g) h

pub standing-in-order : StandingInOrder
standing-in-order = λ setting programme h. parts-rise setting 1 setting.statements programme.parts h.parts_are
