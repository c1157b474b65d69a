-- Parts whose statements and candidates get other numbers.
use Rattle.std.proofs.Common.{◌≡◌, ◌∙◌, ℕ, zero, suc, List, [], ◌∷◌, length, map, All, refl, sym, ap, subst}
use Rattle.std.specs.Prelude.{Some, slice_get}
use Rattle.adv_base.specs.declared.catalogue.Catalogue.{Catalogue}
use Rattle.adv_base.specs.declared.catalogue.index.IndexShape.{IndexShape}
use Rattle.adv_base.specs.declared.catalogue.table.Table.{Table}
use Rattle.adv_base.specs.declared.workload.Statement.{Statement}
use Rattle.adv_base.specs.declared.workload.block.Block.{Block}
use Rattle.adv_base.specs.declared.workload.parts.Slot.{Slot}
use Rattle.adv_base.specs.Items.{Order}
use Rattle.adv_base.specs.Offers.{Offer}
use Rattle.adv_base.specs.Settings.{TheSetting}
use Rattle.plan_model.specs.declared.task.Task.{Task}
use Rattle.plan_model.specs.declared.template.Template.{Template}
use Rattle.plan_model.specs.Combinations.{Decompose, AreKept}
use Rattle.plan_model.specs.Orders.{interesting_orders}
use Rattle.bip_model.specs.declared.grant.Grant.{Grant}
use Rattle.bip_model.specs.declared.slot_part.SlotPart.{SlotPart}
use Rattle.bip_model.specs.declared.part.Part.{Part}
use Rattle.bip_model.specs.StandsFor.{AreEach, Blocked, IsGrant, IsSlotPart, IsPart, candidates_on, least_given}
use Rattle.bip_model.proofs.Lists.{All-some, each-length}
use Rattle.inum_cache.specs.Templates.{AreInOrder}
use Rattle.programme_parts.specs.Kept.{AsksNothingPast, HasAllPlaces, HasKept}
use Rattle.programme_parts.specs.Parts.{blocked}
use Rattle.retune.specs.inner.Renewing.{IsRenumbering, IsGrantBehind, IsSlotBehind, IsPartBehind}
use Rattle.retune.proofs.Untouched.{offers-apart}

-- other statements and other candidates
abbrev pub changed : TheSetting → List Statement → List IndexShape → TheSetting
changed setting statements shapes = record { cat = setting.cat; statements = statements; shapes = shapes }

-- what belongs to an element of the second list
pub each-found : {A B : Type 0} (P : A → B → Type 0) (xs : List A) (ys : List B) (k : ℕ) (y : B) → AreEach P xs ys → slice_get ys k ≡ Some y → (x : A) × ((slice_get xs k ≡ Some x) × P x y)
each-found P [] [] k y are found = absurd cc
each-found P [] (z ∷ ys) k y are found = absurd are
each-found P (x ∷ xs) [] k y are found = absurd are
each-found P (x ∷ xs) (z ∷ ys) zero y are found = let same : z ≡ y = cc in (x, (refl, subst (P x) same are.0))
each-found P (x ∷ xs) (z ∷ ys) (suc k) y are found = each-found P xs ys k y are.1 found

grants-behind : (setting : TheSetting) (statements : List Statement) (shapes : List IndexShape) (block : Block) (task : Task) (s : ℕ) (slot : Slot) (table : Table) (number : ℕ → ℕ) (ns : List (ℕ × IndexShape)) (olds news : List Grant) →
    AreEach (IsGrant setting block task s slot table) ns olds → AreEach (IsGrantBehind number) olds news →
    AreEach (IsGrant (changed setting statements shapes) block task s slot table) (map (λ (n : ℕ × IndexShape). (number n.0, n.1)) ns) news
grants-behind setting statements shapes block task s slot table number [] [] [] are behind = tt
grants-behind setting statements shapes block task s slot table number [] [] (new ∷ news) are behind = absurd behind
grants-behind setting statements shapes block task s slot table number [] (old ∷ olds) news are behind = absurd are
grants-behind setting statements shapes block task s slot table number (n ∷ ns) [] news are behind = absurd are
grants-behind setting statements shapes block task s slot table number (n ∷ ns) (old ∷ olds) [] are behind = absurd behind
grants-behind setting statements shapes block task s slot table number (n ∷ ns) (old ∷ olds) (new ∷ news) are behind = (
  record { candidate_is = behind.0.candidate_is ∙ ap number are.0.candidate_is; prices_are = behind.0.prices_are ∙ are.0.prices_are },
  grants-behind setting statements shapes block task s slot table number ns olds news are.1 behind.1,
)

slot-behind : (setting : TheSetting) (statements : List Statement) (shapes : List IndexShape) (block : Block) (task : Task) (s : ℕ) (slot : Slot) (number : ℕ → ℕ) (old new : SlotPart) → slice_get block.slots s ≡ Some slot →
    IsRenumbering number setting.shapes shapes slot.table → IsSlotPart setting block task s slot old → IsSlotBehind number old new → IsSlotPart (changed setting statements shapes) block task s slot new
slot-behind setting statements shapes block task s slot number old new found numbers is behind =
    record {
      table = is.table;
      table_found = is.table_found;
      base_is = behind.base_is ∙ is.base_is ∙ ap (λ (list : List Offer). map (λ (order : Order). least_given order list) (interesting_orders task s))
          (offers-apart setting.cat block setting.shapes shapes s slot is.table found is.table_found);
      grants_are = subst (λ (ns : List (ℕ × IndexShape)). AreEach (IsGrant (changed setting statements shapes) block task s slot is.table) ns new.grants) numbers
          (grants-behind setting statements shapes block task s slot is.table number (candidates_on setting.shapes slot.table) old.grants new.grants is.grants_are behind.grants_are);
    }

-- a part whose statement has another number, and whose tables have the same candidates with other numbers
pub part-behind : (setting : TheSetting) (statements : List Statement) (shapes : List IndexShape) (b : Blocked) (statement : ℕ) (number : ℕ → ℕ) (old new : Part) →
    All (λ slot. IsRenumbering number setting.shapes shapes slot.table) b.block.slots → IsPart setting b old → IsPartBehind statement number old new →
    IsPart (changed setting statements shapes) (blocked statement b.weight b.block) new
part-behind setting statements shapes b statement number old new numbers is behind =
    let long : length new.slots ≡ length old.slots = each-length (IsSlotBehind number) old.slots new.slots behind.slots_are in
    record {
      statement_is = behind.statement_is;
      weight_is = behind.weight_is ∙ is.weight_is;
      task = is.task;
      task_is = is.task_is;
      decompose = subst (Decompose is.task) (sym behind.templates_are) is.decompose;
      slots_count = long ∙ is.slots_count;
      slots_are = λ s slot own found there.
          let before = each-found (IsSlotBehind number) old.slots new.slots s own behind.slots_are there in
          slot-behind setting statements shapes b.block is.task s slot number before.0 own found
          (All-some (λ (slot : Slot). IsRenumbering number setting.shapes shapes slot.table) b.block.slots s slot numbers found)
          (is.slots_are s slot before.0 found before.1.0) before.1.1;
    }

pub kept-behind : (cat : Catalogue) (b : Blocked) (statement : ℕ) (number : ℕ → ℕ) (old new : Part) → HasKept cat b old → IsPartBehind statement number old new → HasKept cat (blocked statement b.weight b.block) new
kept-behind cat b statement number old new has behind =
    record {
      task = has.task;
      task_is = has.task_is;
      kept = subst (AreKept has.task) (sym behind.templates_are) has.kept;
      in_order = subst AreInOrder (sym behind.templates_are) has.in_order;
      past = subst (λ (templates : List Template). All (AsksNothingPast has.task.slots) templates) (sym behind.templates_are) has.past;
      places = subst (λ (templates : List Template). All HasAllPlaces templates) (sym behind.templates_are) has.places;
    }
