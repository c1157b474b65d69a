-- The grants of a programme that stands for a setting are the uses of its candidates.
use Rattle.std.proofs.Common.{◌≡◌, ◌∙◌, ℕ, suc, ◌+◌, List, [], ◌∷◌, ◌++◌, length, map, refl, sym, ap, subst, arith}
use Rattle.std.specs.Prelude.{Some, slice_get}
use Rattle.std.proofs.lemmas.List.{length-map, length-append}
use Rattle.adv_base.specs.declared.catalogue.index.IndexShape.{IndexShape}
use Rattle.adv_base.specs.declared.catalogue.table.Table.{Table}
use Rattle.adv_base.specs.declared.workload.block.Block.{Block}
use Rattle.adv_base.specs.declared.workload.parts.Slot.{Slot}
use Rattle.adv_base.specs.Settings.{TheSetting}
use Rattle.plan_model.specs.declared.task.Task.{Task}
use Rattle.plan_model.specs.Lagrangian.{TheMultipliers}
use Rattle.plan_model.proofs.Sums.{total, sum-total}
use Rattle.bip_model.specs.declared.grant.Grant.{Grant}
use Rattle.bip_model.specs.declared.slot_part.SlotPart.{SlotPart}
use Rattle.bip_model.specs.declared.part.Part.{Part}
use Rattle.bip_model.specs.declared.programme.Programme.{Programme}
use Rattle.bip_model.specs.declared.multipliers.Multipliers.{Multipliers}
use Rattle.bip_model.specs.StandsFor.{candidates_on, AreEach, IsGrant, IsSlotPart, Blocked, IsPart, blocked_from, StandsFor}
use Rattle.bip_model.specs.Values.{part_grants, grant_count}
use Rattle.bip_model.specs.Views.{Place, slot_places, part_places, places, rent_at, multipliers_of, AreMultipliers}
use Rattle.bip_model.specs.Uses.{slot_uses, blocked_uses, uses, multipliers_in, AreMultipliersIn}

-- ## Places are uses

-- the place of a candidate's use
abbrev at : ℕ → ℕ → ℕ → Place
at q s a = record { statement = q; slot = s; candidate = a }

grants-used : (setting : TheSetting) (block : Block) (task : Task) (s : ℕ) (slot : Slot) (table : Table) (q t : ℕ) (numbered : List (ℕ × IndexShape)) (grants : List Grant) →
    AreEach (IsGrant setting block task s slot table) numbered grants →
    map (λ (grant : Grant). at q t grant.candidate) grants ≡ map (λ (n : ℕ × IndexShape). at q t n.0) numbered
grants-used setting block task s slot table q t [] [] are = refl
grants-used setting block task s slot table q t [] (g ∷ gs) are = absurd are
grants-used setting block task s slot table q t (n ∷ ns) [] are = absurd are
grants-used setting block task s slot table q t (n ∷ ns) (g ∷ gs) are =
    ap (λ (a : ℕ). at q t a ∷ map (λ (grant : Grant). at q t grant.candidate) gs) are.0.candidate_is
    ∙ ap (λ (rest : List Place). at q t n.0 ∷ rest) (grants-used setting block task s slot table q t ns gs are.1)

slots-used : (setting : TheSetting) (block : Block) (task : Task) (q s : ℕ) (slots : List Slot) (owns : List SlotPart) → length owns ≡ length slots →
    ((i : ℕ) (slot : Slot) (own : SlotPart) → slice_get slots i ≡ Some slot → slice_get owns i ≡ Some own → IsSlotPart setting block task (s + i) slot own) →
    slot_places q s owns ≡ slot_uses setting.shapes q s slots
slots-used setting block task q s [] [] same each = refl
slots-used setting block task q s [] (own ∷ owns) same each = absurd (omega (arith, same))
slots-used setting block task q s (slot ∷ slots) [] same each = absurd (omega (arith, same))
slots-used setting block task q s (slot ∷ slots) (own ∷ owns) same each =
    let here : IsSlotPart setting block task (s + 0) slot own = each 0 slot own refl refl in
    let first : map (λ (grant : Grant). at q s grant.candidate) own.grants ≡ map (λ (n : ℕ × IndexShape). at q s n.0) (candidates_on setting.shapes slot.table) =
    grants-used setting block task (s + 0) slot here.table q s (candidates_on setting.shapes slot.table) own.grants here.grants_are in
    let rest : slot_places q (suc s) owns ≡ slot_uses setting.shapes q (suc s) slots =
    slots-used setting block task q (suc s) slots owns (omega (arith, same))
    (λ i x o found own_found. subst (λ (k : ℕ). IsSlotPart setting block task k x o) (omega arith) (each (suc i) x o found own_found)) in
    ap (λ (front : List Place). front ++ slot_places q (suc s) owns) first
    ∙ ap (λ (back : List Place). map (λ (n : ℕ × IndexShape). at q s n.0) (candidates_on setting.shapes slot.table) ++ back) rest

parts-used : (setting : TheSetting) (blocked : List Blocked) (parts : List Part) → AreEach (IsPart setting) blocked parts → part_places parts ≡ blocked_uses setting.shapes blocked
parts-used setting [] [] are = refl
parts-used setting [] (part ∷ parts) are = absurd are
parts-used setting (b ∷ bs) [] are = absurd are
parts-used setting (b ∷ bs) (part ∷ parts) are =
    let is : IsPart setting b part = are.0 in
    let first : slot_places b.number 0 part.slots ≡ slot_uses setting.shapes b.number 0 b.block.slots =
    slots-used setting b.block is.task b.number 0 b.block.slots part.slots is.slots_count
    (λ i slot own found own_found. subst (λ (k : ℕ). IsSlotPart setting b.block is.task k slot own) (omega arith) (is.slots_are i slot own found own_found)) in
    ap (λ (q : ℕ). slot_places q 0 part.slots ++ part_places parts) is.statement_is
    ∙ ap (λ (front : List Place). front ++ part_places parts) first
    ∙ ap (λ (back : List Place). slot_uses setting.shapes b.number 0 b.block.slots ++ back) (parts-used setting bs parts are.1)

pub places-used : (setting : TheSetting) (programme : Programme) → StandsFor setting programme → places programme ≡ uses setting
places-used setting programme stands = parts-used setting (blocked_from 1 setting.statements) programme.parts stands.parts_are

-- ## So multipliers of the programme are multipliers of the setting

pub multipliers-used : (setting : TheSetting) (programme : Programme) (multipliers : Multipliers) → StandsFor setting programme → multipliers_of programme multipliers ≡ multipliers_in setting multipliers
multipliers-used setting programme multipliers stands =
    ap (λ (list : List Place). told list) (places-used setting programme stands)
  where
    told : List Place → TheMultipliers
    told list = record { rent = λ q s a. rent_at list multipliers.lambda q s a; page = multipliers.mu }

-- ## There are as many

slots-counted : (q s : ℕ) (owns : List SlotPart) → length (slot_places q s owns) ≡ total (λ (own : SlotPart). length own.grants) owns
slots-counted q s [] = refl
slots-counted q s (own ∷ owns) =
    let front : List Place = map (λ (grant : Grant). at q s grant.candidate) own.grants in
    let rest = slots-counted q (suc s) owns in
    let both : length (front ++ slot_places q (suc s) owns) ≡ length front + length (slot_places q (suc s) owns) = length-append front (slot_places q (suc s) owns) in
    let mapped : length front ≡ length own.grants = length-map own.grants (λ (grant : Grant). at q s grant.candidate) in
    omega (arith, rest, both, mapped)

parts-counted : (parts : List Part) → length (part_places parts) ≡ total part_grants parts
parts-counted [] = refl
parts-counted (part ∷ parts) =
    let front : List Place = slot_places part.statement 0 part.slots in
    let rest = parts-counted parts in
    let both : length (front ++ part_places parts) ≡ length front + length (part_places parts) = length-append front (part_places parts) in
    let slots = slots-counted part.statement 0 part.slots in
    let summed : part_grants part ≡ total (λ (own : SlotPart). length own.grants) part.slots = sum-total (λ (own : SlotPart). length own.grants) part.slots in
    omega (arith, rest, both, slots, summed)

pub places-counted : (programme : Programme) → length (places programme) ≡ grant_count programme
unfolding grant_count
places-counted programme = parts-counted programme.parts ∙ sym (sum-total part_grants programme.parts)

pub multipliers-kept : (setting : TheSetting) (programme : Programme) (multipliers : Multipliers) → StandsFor setting programme → AreMultipliers programme multipliers → AreMultipliersIn setting multipliers
multipliers-kept setting programme multipliers stands are =
    record {
      one_each = are.one_each ∙ sym (places-counted programme) ∙ ap length (places-used setting programme stands);
      page_most = are.page_most;
      rents_most = are.rents_most;
    }
