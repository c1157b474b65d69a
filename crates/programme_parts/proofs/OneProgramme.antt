-- A setting has one programme: its definitions say each number of it.
use Rattle.std.proofs.Common.{◌≡◌, ◌≢◌, ◌∙◌, inl, inr, ℕ, ◌<◌, ◌≤◌, List, [], ◌∷◌, length, get_or, All, Option, Some, refl, sym, ap, subst, arith}
use Rattle.std.specs.Prelude.{AllPairs, slice_get}
use Rattle.std.proofs.lemmas.Bool.{cases_lt, cases_order}
use Rattle.std.proofs.lemmas.List.{ext_get_or, length-map}
use Rattle.std.proofs.lemmas.Option.{slice_get_cases, slice_get_within}
use denote.Struct.Props.{props}
use mathlib.Core.HLevel.{is_prop→PathP}
use Rattle.adv_base.specs.declared.catalogue.index.IndexShape.{IndexShape}
use Rattle.adv_base.specs.declared.catalogue.table.Table.{Table}
use Rattle.adv_base.specs.declared.limits.TheConstants.{MOST_SLOTS}
use Rattle.adv_base.specs.declared.workload.block.Block.{Block}
use Rattle.adv_base.specs.declared.workload.parts.Slot.{Slot}
use Rattle.adv_base.specs.Items.{Order}
use Rattle.adv_base.specs.Offers.{offers}
use Rattle.adv_base.specs.Settings.{TheSetting}
use Rattle.plan_model.specs.declared.task.Task.{Task}
use Rattle.plan_model.specs.declared.template.Template.{Template}
use Rattle.plan_model.specs.Combinations.{needed, IsIn, AreKept}
use Rattle.plan_model.specs.Orders.{interesting_orders}
use Rattle.plan_model.specs.Totals.{no_candidates}
use Rattle.plan_model.proofs.Unique.{one-task}
use Rattle.interesting_orders.proofs.OrderLemmas.{interesting_orders-differ}
use Rattle.bip_model.specs.declared.grant.Grant.{Grant}
use Rattle.bip_model.specs.declared.slot_part.SlotPart.{SlotPart}
use Rattle.bip_model.specs.declared.part.Part.{Part}
use Rattle.bip_model.specs.declared.programme.Programme.{Programme}
use Rattle.bip_model.specs.Limits.Grants.{GrantLimits}
use Rattle.bip_model.specs.Limits.SlotParts.{SlotLimits}
use Rattle.bip_model.specs.Limits.Parts.{TemplateLimits, PartLimits}
use Rattle.bip_model.specs.Limits.Programmes.{ProgrammeLimits}
use Rattle.bip_model.specs.StandsFor.{least_given, candidates_on, AreEach, IsGrant, IsSlotPart, Blocked, IsPart, blocked_from}
use Rattle.bip_model.specs.Values.{need}
use Rattle.bip_model.proofs.Lists.{All-some}
use Rattle.bip_model.proofs.Standing.{slots-same}
use Rattle.inum_cache.specs.Templates.{StandsBefore, AreInOrder}
use Rattle.programme_parts.specs.Kept.{AsksNothingPast, HasAllPlaces, HasKept}
use Rattle.programme_parts.specs.Laws.{IsProgrammeOf}
use Rattle.programme_parts.proofs.SameLists.{same-elements, same-each, same-in-order, OneWay, StandsIn}

-- ## What has limits is the same where its numbers are

grant_prop : (candidate : ℕ) (prices : List (Option ℕ)) → IsProp (GrantLimits candidate prices)
grant_prop candidate prices = hlevel props

same-grant : (x y : Grant) → x.candidate ≡ y.candidate → x.prices ≡ y.prices → x ≡ y
same-grant x y candidate prices =
    let limits = is_prop→PathP (λ i. GrantLimits (candidate i) (prices i)) (λ i. grant_prop (candidate i) (prices i)) x.limits y.limits in
    λ i. record { candidate = candidate i; prices = prices i; limits = limits i }

slot_prop : (base : List (Option ℕ)) (grants : List Grant) → IsProp (SlotLimits base grants)
slot_prop base grants = hlevel props

same-slot : (x y : SlotPart) → x.base ≡ y.base → x.grants ≡ y.grants → x ≡ y
same-slot x y base grants =
    let limits = is_prop→PathP (λ i. SlotLimits (base i) (grants i)) (λ i. slot_prop (base i) (grants i)) x.limits y.limits in
    λ i. record { base = base i; grants = grants i; limits = limits i }

part_prop : (statement weight : ℕ) (templates : List Template) (slots : List SlotPart) → IsProp (PartLimits statement weight templates slots)
part_prop statement weight templates slots = hlevel props

same-part : (x y : Part) → x.statement ≡ y.statement → x.weight ≡ y.weight → x.templates ≡ y.templates → x.slots ≡ y.slots → x ≡ y
same-part x y statement weight templates slots =
    let limits = is_prop→PathP (λ i. PartLimits (statement i) (weight i) (templates i) (slots i)) (λ i. part_prop (statement i) (weight i) (templates i) (slots i)) x.limits y.limits in
    λ i. record { statement = statement i; weight = weight i; templates = templates i; slots = slots i; limits = limits i }

programme_prop : (sizes upkeep : List ℕ) (kept : ℕ) (parts : List Part) → IsProp (ProgrammeLimits sizes upkeep kept parts)
programme_prop sizes upkeep kept parts = hlevel props

same-programme : (x y : Programme) → x.sizes ≡ y.sizes → x.upkeep ≡ y.upkeep → x.kept ≡ y.kept → x.parts ≡ y.parts → x ≡ y
same-programme x y sizes upkeep kept parts =
    let limits = is_prop→PathP (λ i. ProgrammeLimits (sizes i) (upkeep i) (kept i) (parts i)) (λ i. programme_prop (sizes i) (upkeep i) (kept i) (parts i)) x.limits y.limits in
    λ i. record { sizes = sizes i; upkeep = upkeep i; kept = kept i; parts = parts i; limits = limits i }

-- ## Templates

-- no order of a slot stands at two places
one-place : (orders : List Order) (i j : ℕ) → AllPairs (λ x y. x ≢ y) orders → i < length orders → j < length orders → get_or orders i [] ≡ get_or orders j [] → i ≡ j
one-place orders i j differ first second same =
    elim (cases_order i j) [
      | inl one ↦ one
      | inr (inl less) ↦ absurd (differ i j [] less second same)
      | inr (inr less) ↦ absurd (differ j i [] less first (sym same))
    ]

one-way : OneWay StandsBefore
one-way x y a b =
    elim (cases_order a.slot b.slot) [
      | inl one ↦
          let less : need y a.slot < need x a.slot = subst (λ s. need y s < need x s) (sym one) b.less in
          omega (arith, less, a.less)
      | inr (inl less) ↦ let same = b.same a.slot less in omega (arith, same, a.less)
      | inr (inr less) ↦ let same = a.same b.slot less in omega (arith, same, b.less)
    ]

-- a template needs one of the orders of each slot, and the first past the slots
record IsPlaced (task : Task) (template : Template) : Type 0 where
  within : (s : ℕ) → s < task.slots → need template s < length (interesting_orders task s)
  past : (s : ℕ) → task.slots ≤ s → need template s ≡ 0
  places : length template.needs ≡ MOST_SLOTS

same-template : (task : Task) (x y : Template) → IsPlaced task x → IsPlaced task y → ((s : ℕ) → needed task x s ≡ needed task y s) → x.internal ≡ y.internal → x ≡ y
same-template task x y a b needs internal =
    let each : (s : ℕ) → s < length x.needs → get_or x.needs s 0 ≡ get_or y.needs s 0 = λ s _.
    elim (cases_lt s task.slots) [
      | inl below ↦ one-place (interesting_orders task s) (need x s) (need y s) (interesting_orders-differ task s) (a.within s below) (b.within s below) (needs s)
      | inr past ↦ a.past s past ∙ sym (b.past s past)
    ] in
    let places : x.needs ≡ y.needs = ext_get_or 0 x.needs y.needs (a.places ∙ sym b.places) each in
    λ i. record { internal = internal i; needs = places i }

-- what the definitions say of the templates of a part
record AreListed (task : Task) (templates : List Template) : Type 0 where
  kept : AreKept task templates
  in_order : AreInOrder templates
  placed : (i : ℕ) (template : Template) → slice_get templates i ≡ Some template → IsPlaced task template

-- what stands in one list stands in the other
stands-there : (task : Task) (xs ys : List Template) → AreListed task xs → AreListed task ys → (x : Template) → StandsIn xs x → StandsIn ys x
stands-there task xs ys a b x stands =
    let own : IsIn task xs (needed task x) x.internal = record { number = stands.0; template = x; found = stands.1; needs_are = λ s. refl; internal_is = refl } in
    let other : IsIn task ys (needed task x) x.internal = b.kept.all (needed task x) x.internal (a.kept.kept (needed task x) x.internal own) in
    let same : x ≡ other.template = same-template task x other.template (a.placed stands.0 x stands.1) (b.placed other.number other.template other.found) other.needs_are other.internal_is in
    (other.number, other.found ∙ ap Some (sym same))

same-templates : (task : Task) (xs ys : List Template) → AreListed task xs → AreListed task ys → xs ≡ ys
same-templates task xs ys a b = same-in-order StandsBefore one-way xs ys a.in_order b.in_order (stands-there task xs ys a b) (stands-there task ys xs b a)

-- ## Slots

one-grant : (setting : TheSetting) (block : Block) (task : Task) (s : ℕ) (slot : Slot) (table : Table) (numbered : ℕ × IndexShape) (x y : Grant) →
    IsGrant setting block task s slot table numbered x → IsGrant setting block task s slot table numbered y → x ≡ y
one-grant setting block task s slot table numbered x y a b =
    same-grant x y (a.candidate_is ∙ sym b.candidate_is) (a.prices_are ∙ sym b.prices_are)

one-slot : (setting : TheSetting) (block : Block) (task : Task) (s : ℕ) (slot : Slot) (x y : SlotPart) → IsSlotPart setting block task s slot x → IsSlotPart setting block task s slot y → x ≡ y
one-slot setting block task s slot x y a b =
    let found : Some a.table ≡ Some b.table = sym a.table_found ∙ b.table_found in
    let table : a.table ≡ b.table = cc in
    let candidates : List (ℕ × IndexShape) = candidates_on setting.shapes slot.table in
    let grants : AreEach (IsGrant setting block task s slot b.table) candidates x.grants = subst (λ t. AreEach (IsGrant setting block task s slot t) candidates x.grants) table a.grants_are in
    same-slot x y (a.base_is ∙ sym b.base_is)
    (same-each (IsGrant setting block task s slot b.table) (one-grant setting block task s slot b.table) candidates x.grants y.grants grants b.grants_are)

-- ## Parts

-- a template of a part needs one of the orders of each slot
needs-within : (setting : TheSetting) (blocked : Blocked) (part : Part) (is : IsPart setting blocked part) (i : ℕ) (template : Template) → slice_get part.templates i ≡ Some template →
    (s : ℕ) → s < is.task.slots → need template s < length (interesting_orders is.task s)
needs-within setting blocked part is i template found s below =
    let block : Block = blocked.block in
    let limits : TemplateLimits part.slots template = All-some (TemplateLimits part.slots) part.templates i template part.limits.templates_limits found in
    elim (slice_get_cases block.slots s).1 [
      | inl slot ↦
          elim (slice_get_cases part.slots s).1 [
            | inl own ↦
                let slot_is : IsSlotPart setting block is.task s slot.0 own.0 = is.slots_are s slot.0 own.0 slot.2 own.2 in
                let count : length own.0.base ≡ length (interesting_orders is.task s) =
                ap length slot_is.base_is ∙ length-map (interesting_orders is.task s) (λ (order : Order). least_given order (offers setting.cat block setting.shapes no_candidates s)) in
                omega (arith, limits.needs_within s own.0 own.2, count)
            | inr past ↦ absurd (omega (arith, past.0, below, slots-same setting blocked part is))
          ]
      | inr past ↦ absurd (omega (arith, past.0, below, is.task_is.slots_are))
    ]

listed : (setting : TheSetting) (blocked : Blocked) (part : Part) (is : IsPart setting blocked part) → HasKept setting.cat blocked part → AreListed is.task part.templates
listed setting blocked part is has =
    let same : has.task ≡ is.task = one-task setting.cat blocked.block has.task is.task has.task_is is.task_is in
    let past : All (AsksNothingPast is.task.slots) part.templates = subst (λ (t : Task). All (AsksNothingPast t.slots) part.templates) same has.past in
    record {
      kept = subst (λ t. AreKept t part.templates) same has.kept;
      in_order = has.in_order;
      placed = λ i template found.
          record {
            within = needs-within setting blocked part is i template found;
            past = All-some (AsksNothingPast is.task.slots) part.templates i template past found;
            places = All-some HasAllPlaces part.templates i template has.places found;
          };
    }

-- what the definitions say of a part of a programme
record IsPartOf (setting : TheSetting) (blocked : Blocked) (part : Part) : Type 0 where
  is : IsPart setting blocked part
  kept : HasKept setting.cat blocked part

one-part : (setting : TheSetting) (blocked : Blocked) (x y : Part) → IsPartOf setting blocked x → IsPartOf setting blocked y → x ≡ y
one-part setting blocked x y a b =
    let task : b.is.task ≡ a.is.task = one-task setting.cat blocked.block b.is.task a.is.task b.is.task_is a.is.task_is in
    let other : AreListed a.is.task y.templates = subst (λ t. AreListed t y.templates) task (listed setting blocked y b.is b.kept) in
    let templates : x.templates ≡ y.templates = same-templates a.is.task x.templates y.templates (listed setting blocked x a.is a.kept) other in
    let slot-at : (s : ℕ) (p q : SlotPart) → slice_get x.slots s ≡ Some p → slice_get y.slots s ≡ Some q → p ≡ q = λ s p q p_found q_found.
    elim (slice_get_cases blocked.block.slots s).1 [
      | inl slot ↦
          let mine : IsSlotPart setting blocked.block a.is.task s slot.0 p = a.is.slots_are s slot.0 p slot.2 p_found in
          let yours : IsSlotPart setting blocked.block a.is.task s slot.0 q = subst (λ t. IsSlotPart setting blocked.block t s slot.0 q) task (b.is.slots_are s slot.0 q slot.2 q_found) in
          one-slot setting blocked.block a.is.task s slot.0 p q mine yours
      | inr past ↦ absurd (omega (arith, past.0, slice_get_within x.slots s p p_found, a.is.slots_count))
    ] in
    same-part x y (a.is.statement_is ∙ sym b.is.statement_is) (a.is.weight_is ∙ sym b.is.weight_is) templates
    (same-elements x.slots y.slots (a.is.slots_count ∙ sym b.is.slots_count) slot-at)

parts-of : (setting : TheSetting) (list : List Blocked) (parts : List Part) → AreEach (IsPart setting) list parts → AreEach (HasKept setting.cat) list parts →
    AreEach (IsPartOf setting) list parts
parts-of setting [] [] are kept = tt
parts-of setting [] (part ∷ parts) are kept = absurd are
parts-of setting (blocked ∷ list) [] are kept = absurd are
parts-of setting (blocked ∷ list) (part ∷ parts) are kept = (
  record { is = are.0; kept = kept.0 },
  parts-of setting list parts are.1 kept.1,
)

-- ## Programmes

pub one-programme : (setting : TheSetting) (x y : Programme) → IsProgrammeOf setting x → IsProgrammeOf setting y → x ≡ y
one-programme setting x y a b =
    let list : List Blocked = blocked_from 1 setting.statements in
    let parts : x.parts ≡ y.parts = same-each (IsPartOf setting) (one-part setting) list x.parts y.parts
    (parts-of setting list x.parts a.stands.parts_are a.kept) (parts-of setting list y.parts b.stands.parts_are b.kept) in
    same-programme x y (a.stands.sizes_are ∙ sym b.stands.sizes_are) (a.stands.upkeep_is ∙ sym b.stands.upkeep_is) (a.stands.kept_is ∙ sym b.stands.kept_is) parts
