-- Parts on whose tables no candidate comes.
use Rattle.std.proofs.Common.{◌≡◌, ◌∙◌, inl, inr, ℕ, suc, ◌+◌, ◌==◌, Bool, List, [], ◌∷◌, ◌++◌, length, map, filter, All, sym, ap, refl, subst, arith}
use Rattle.std.specs.Prelude.{Some, slice_get}
use Rattle.std.specs.List.{enumerate_from}
use Rattle.std.proofs.lemmas.Bool.{cases_Bool}
use Rattle.std.proofs.lemmas.List.{append-nil}
use Rattle.std.proofs.lemmas.List.Elements.{filter-append}
use Rattle.adv_base.specs.declared.catalogue.Catalogue.{Catalogue}
use Rattle.adv_base.specs.declared.catalogue.index.IndexShape.{IndexShape}
use Rattle.adv_base.specs.declared.catalogue.table.Table.{Table}
use Rattle.adv_base.specs.declared.workload.Statement.{Statement}
use Rattle.adv_base.specs.declared.workload.block.Block.{Block}
use Rattle.adv_base.specs.declared.workload.parts.Slot.{Slot}
use Rattle.adv_base.specs.Items.{Order}
use Rattle.adv_base.specs.Lookups.{table_at}
use Rattle.adv_base.specs.Offers.{Offer, Heap, Existing, candidate_path, offers, path_offer}
use Rattle.adv_base.specs.Settings.{TheSetting}
use Rattle.plan_model.specs.declared.task.Task.{Task}
use Rattle.plan_model.specs.Orders.{interesting_orders}
use Rattle.plan_model.specs.Totals.{no_candidates}
use Rattle.bip_model.specs.declared.slot_part.SlotPart.{SlotPart}
use Rattle.bip_model.specs.declared.part.Part.{Part}
use Rattle.bip_model.specs.StandsFor.{AreEach, Blocked, IsGrant, IsSlotPart, IsPart, candidates_on, least_given}
use Rattle.bip_model.proofs.Lists.{All-some, each-map}
use Rattle.bip_model.proofs.Standing.{none-on, offers-on}

-- ## Candidates on a table

abbrev pub is_on : ℕ → ℕ × IndexShape → Bool
is_on t numbered = numbered.1.table == t

pub enumerate-append : (k : ℕ) (xs ys : List IndexShape) → enumerate_from k (xs ++ ys) ≡ enumerate_from k xs ++ enumerate_from (k + length xs) ys
enumerate-append k [] ys = let same : k ≡ k + 0 = omega arith in ap (λ (n : ℕ). enumerate_from n ys) same
enumerate-append k (x ∷ xs) ys =
    let same : (k + 1) + length xs ≡ k + suc (length xs) = omega arith in
    ap (λ (rest : List (ℕ × IndexShape)). (k, x) ∷ rest)
    (enumerate-append (k + 1) xs ys ∙ ap (λ (n : ℕ). enumerate_from (k + 1) xs ++ enumerate_from n ys) same)

-- whether some are on it doesn't depend on their numbers
none-numbered : (t a b : ℕ) (shapes : List IndexShape) → filter (is_on t) (enumerate_from a shapes) ≡ [] → filter (is_on t) (enumerate_from b shapes) ≡ []
none-numbered t a b [] none = refl
none-numbered t a b (shape ∷ shapes) none =
    elim (cases_Bool (shape.table == t)) [
      | inl on ↦ let some : (a, shape) ∷ filter (is_on t) (enumerate_from (a + 1) shapes) ≡ [] = rw on at none in absurd cc
      | inr off ↦ rw off (none-numbered t (a + 1) (b + 1) shapes (rw off at none))
    ]

-- where none of some more is, they are the same
pub candidates-same : (t : ℕ) (shapes fresh : List IndexShape) → candidates_on fresh t ≡ [] → candidates_on (shapes ++ fresh) t ≡ candidates_on shapes t
candidates-same t shapes fresh none =
    ap (filter (is_on t)) (enumerate-append 1 shapes fresh)
    ∙ filter-append (is_on t) (enumerate_from 1 shapes) (enumerate_from (1 + length shapes) fresh)
    ∙ ap (λ (back : List (ℕ × IndexShape)). candidates_on shapes t ++ back) (none-numbered t 1 (1 + length shapes) fresh none)
    ∙ append-nil (candidates_on shapes t)

-- ## What exists

-- what exists offers the same, whatever the candidates are
pub offers-apart : (cat : Catalogue) (block : Block) (xs ys : List IndexShape) (s : ℕ) (slot : Slot) (table : Table) → slice_get block.slots s ≡ Some slot → table_at cat slot.table ≡ Some table →
    offers cat block xs no_candidates s ≡ offers cat block ys no_candidates s
offers-apart cat block xs ys s slot table slot_found table_found =
    offers-on cat block xs no_candidates s slot table slot_found table_found
    ∙ ap (λ (ns : List (ℕ × IndexShape)). map (path_offer cat block s slot table) (Heap ∷ (map Existing table.indexes ++ map candidate_path ns))) (none-on xs slot.table ∙ sym (none-on ys slot.table))
    ∙ sym (offers-on cat block ys no_candidates s slot table slot_found table_found)

-- ## Parts

-- other statements, and more candidates
abbrev pub grown : TheSetting → List Statement → List IndexShape → TheSetting
grown setting statements fresh = record { cat = setting.cat; statements = statements; shapes = setting.shapes ++ fresh }

slot-apart : (setting : TheSetting) (statements : List Statement) (fresh : List IndexShape) (block : Block) (task : Task) (s : ℕ) (slot : Slot) (own : SlotPart) → slice_get block.slots s ≡ Some slot → candidates_on fresh slot.table ≡ [] →
    IsSlotPart setting block task s slot own → IsSlotPart (grown setting statements fresh) block task s slot own
slot-apart setting statements fresh block task s slot own found none is =
    let grants : AreEach (IsGrant (grown setting statements fresh) block task s slot is.table) (candidates_on setting.shapes slot.table) own.grants =
    each-map (IsGrant setting block task s slot is.table) (IsGrant (grown setting statements fresh) block task s slot is.table)
    (λ n grant one. record { candidate_is = one.candidate_is; prices_are = one.prices_are }) (candidates_on setting.shapes slot.table) own.grants is.grants_are in
    record {
      table = is.table;
      table_found = is.table_found;
      base_is = is.base_is ∙ ap (λ (list : List Offer). map (λ (order : Order). least_given order list) (interesting_orders task s))
          (offers-apart setting.cat block setting.shapes (setting.shapes ++ fresh) s slot is.table found is.table_found);
      grants_are = subst (λ (numbered : List (ℕ × IndexShape)). AreEach (IsGrant (grown setting statements fresh) block task s slot is.table) numbered own.grants)
          (sym (candidates-same slot.table setting.shapes fresh none)) grants;
    }

-- a part on none of whose tables a candidate comes is the same
pub part-apart : (setting : TheSetting) (statements : List Statement) (fresh : List IndexShape) (b : Blocked) (part : Part) → All (λ slot. candidates_on fresh slot.table ≡ []) b.block.slots →
    IsPart setting b part → IsPart (grown setting statements fresh) b part
part-apart setting statements fresh b part none is =
    record {
      statement_is = is.statement_is;
      weight_is = is.weight_is;
      task = is.task;
      task_is = is.task_is;
      decompose = is.decompose;
      slots_count = is.slots_count;
      slots_are = λ s slot own found there.
          slot-apart setting statements fresh b.block is.task s slot own found
          (All-some (λ (slot : Slot). candidates_on fresh slot.table ≡ []) b.block.slots s slot none found) (is.slots_are s slot own found there);
    }
