-- Parts of which one got another weight.
use Rattle.std.proofs.Common.{◌≡◌, ◌∙◌, inl, inr, ℕ, zero, suc, ◌<◌, ◌≤◌, ◌==◌, Bool, true, false, cond, ltb, List, [], ◌∷◌, length, set, get_or, All, refl, sym, ap, subst, arith}
use Rattle.std.specs.Prelude.{Option, Some, None, slice_get}
use Rattle.std.specs.List.Sorted.{IsPartitionedBy, IsPartitionPoint}
use Rattle.std.proofs.lemmas.Bool.{cases_lt, eq-eqb, ne_eqb}
use Rattle.std.proofs.lemmas.Bool.Decides.{nat_tests}
use Rattle.std.proofs.lemmas.List.Elements.{All-cons, All-nil}
use Rattle.adv_base.specs.declared.catalogue.Catalogue.{Catalogue}
use Rattle.adv_base.specs.declared.workload.Statement.{Statement}
use Rattle.adv_base.specs.declared.workload.Work.{Work}
use Rattle.adv_base.specs.declared.workload.block.Block.{Block}
use Rattle.adv_base.specs.declared.workload.parts.Slot.{Slot}
use Rattle.adv_base.specs.Settings.{TheSetting}
use Rattle.plan_model.specs.declared.task.Task.{Task}
use Rattle.plan_model.specs.declared.template.Template.{Template}
use Rattle.plan_model.specs.Combinations.{Decompose, AreKept}
use Rattle.plan_model.specs.Totals.{block_of}
use Rattle.bip_model.specs.declared.part.Part.{Part}
use Rattle.bip_model.specs.declared.slot_part.SlotPart.{SlotPart}
use Rattle.bip_model.specs.Limits.Programmes.{GrantsWithin}
use Rattle.bip_model.specs.StandsFor.{AreEach, Blocked, IsGrant, IsSlotPart, IsPart, blocked_in, blocked_from, candidates_on}
use Rattle.bip_model.proofs.Lists.{each-map}
use Rattle.inum_cache.specs.Templates.{AreInOrder}
use Rattle.programme_parts.specs.Kept.{AsksNothingPast, HasAllPlaces, HasKept}
use Rattle.programme_parts.specs.Parts.{blocked}
use Rattle.retune.specs.inner.Weights.{IsPartBy, RiseFrom, with_statements}
use Rattle.retune.proofs.Reweighed.{ByWeight}

-- ## Parts stand by rising numbers

rise-low : (more least : ℕ) (parts : List Part) → RiseFrom more parts → least ≤ more → RiseFrom least parts
rise-low more least [] h low = tt
rise-low more least (part ∷ parts) h low = (omega (arith, h.0, low), h.1)

rise-next : (setting : TheSetting) (q weight : ℕ) (there : Option Block) (rest : List Blocked) (parts : List Part) → ((ps : List Part) → AreEach (IsPart setting) rest ps → RiseFrom (suc q) ps) →
    AreEach (IsPart setting) (blocked_in q weight there rest) parts → RiseFrom q parts
rise-next setting q weight None rest parts next h = rise-low (suc q) q parts (next parts h) (omega arith)
rise-next setting q weight (Some block) rest [] next h = absurd h
rise-next setting q weight (Some block) rest (part ∷ parts) next h =
    let own : part.statement ≡ q = h.0.statement_is in
    (omega (arith, own), subst (λ (k : ℕ). RiseFrom (suc k) parts) (sym own) (next parts h.1))

pub parts-rise : (setting : TheSetting) (q : ℕ) (statements : List Statement) (parts : List Part) → AreEach (IsPart setting) (blocked_from q statements) parts → RiseFrom q parts
parts-rise setting q [] [] h = tt
parts-rise setting q [] (part ∷ parts) h = absurd h
parts-rise setting q (statement ∷ statements) parts h =
    rise-next setting q statement.weight (block_of statement.work) (blocked_from (suc q) statements) parts (λ ps own. parts-rise setting (suc q) statements ps own) h

rise-least : (least : ℕ) (parts : List Part) (k : ℕ) (d : Part) → RiseFrom least parts → k < length parts → least ≤ (get_or parts k d).statement
rise-least least [] k d h within = absurd (omega arith)
rise-least least (part ∷ parts) zero d h within = h.0
rise-least least (part ∷ parts) (suc k) d h within =
    let more = rise-least (suc part.statement) parts k d h.1 (omega arith) in omega (arith, more, h.0)

rise-pair : (least : ℕ) (parts : List Part) (i j : ℕ) (d : Part) → RiseFrom least parts → i ≤ j → j < length parts → (get_or parts i d).statement ≤ (get_or parts j d).statement
rise-pair least [] i j d h before within = absurd (omega arith)
rise-pair least (part ∷ parts) zero zero d h before within = omega arith
rise-pair least (part ∷ parts) zero (suc j) d h before within =
    let more = rise-least (suc part.statement) parts j d h.1 (omega arith) in omega (arith, more)
rise-pair least (part ∷ parts) (suc i) zero d h before within = absurd (omega arith)
rise-pair least (part ∷ parts) (suc i) (suc j) d h before within = rise-pair (suc part.statement) parts i j d h.1 (omega arith) (omega arith)

abbrev pub is_before : ℕ → Part → Bool
is_before number part = ltb part.statement number

pub partitioned : (least number : ℕ) (parts : List Part) → RiseFrom least parts → IsPartitionedBy (is_before number) parts
partitioned least number parts h i j d before within low =
    let rise = rise-pair least parts i j d h before within in grind (arith, nat_tests, rise, low)

-- where the part behind the point has another number, none has the number
pub none-has : (least number at : ℕ) (parts : List Part) → RiseFrom least parts → IsPartitionPoint (λ part. is_before number part ≡ true) (λ part. is_before number part ≡ false) parts at →
    ((d : Part) → at < length parts → (get_or parts at d).statement ≡ number → ⊥) → All (λ part. ¬ (part.statement ≡ number)) parts
none-has least number at parts h point other k d within same =
    elim (cases_lt k at) [
      | inl front ↦ let low = point.0 k d (omega arith) front in absurd (grind (arith, nat_tests, low, same))
      | inr back ↦
          let there : at < length parts = omega (arith, back, within) in
          let high = point.1 at d (omega arith) there in
          let rise = rise-pair least parts at k d h back within in
          other d there (grind (arith, nat_tests, high, rise, same))
    ]

-- ## One part with another weight

own-part : (number weight : ℕ) (part : Part) → (part.statement ≡ number → ⊥) → IsPartBy number weight part part
own-part number weight part other =
    record { statement_is = refl; weight_is = rw (ne_eqb part.statement number other) refl; templates_are = refl; slots_are = refl }

pub parts-same : (number weight : ℕ) (parts : List Part) → All (λ part. ¬ (part.statement ≡ number)) parts → AreEach (IsPartBy number weight) parts parts
parts-same number weight [] none = tt
parts-same number weight (part ∷ parts) none =
    (own-part number weight part (none 0 part (omega arith)), parts-same number weight parts (λ k d within. none (suc k) d (omega (arith, within))))

pub parts-set : (least weight at : ℕ) (parts : List Part) (new d : Part) → RiseFrom least parts → at < length parts → IsPartBy (get_or parts at d).statement weight (get_or parts at d) new →
    AreEach (IsPartBy (get_or parts at d).statement weight) parts (set parts at new)
parts-set least weight at [] new d h within own = absurd (omega arith)
parts-set least weight zero (part ∷ parts) new d h within own =
    (own, parts-same part.statement weight parts (λ k e inside same. let more = rise-least (suc part.statement) parts k e h.1 inside in omega (arith, more, same)))
parts-set least weight (suc at) (part ∷ parts) new d h within own =
    let more = rise-least (suc part.statement) parts at d h.1 (omega arith) in
    (own-part (get_or parts at d).statement weight part (λ same. omega (arith, more, same)), parts-set (suc part.statement) weight at parts new d h.1 (omega arith) own)

-- the part itself
pub part-set : (weight : ℕ) (old new : Part) → new.statement ≡ old.statement → new.weight ≡ weight → new.templates ≡ old.templates → new.slots ≡ old.slots → IsPartBy old.statement weight old new
part-set weight old new statement heavy templates slots =
    record { statement_is = statement; weight_is = rw (eq-eqb old.statement old.statement refl) heavy; templates_are = templates; slots_are = slots }

pub within-by : (number weight count : ℕ) (olds news : List Part) → AreEach (IsPartBy number weight) olds news → All (GrantsWithin count) olds → All (GrantsWithin count) news
within-by number weight count [] [] by all = All-nil (GrantsWithin count)
within-by number weight count [] (new ∷ news) by all = absurd by
within-by number weight count (old ∷ olds) [] by all = absurd by
within-by number weight count (old ∷ olds) (new ∷ news) by all =
    All-cons (GrantsWithin count) new news
    (subst (λ (slots : List SlotPart). All (λ slot. All (λ grant. grant.candidate ≤ count) slot.grants) slots) (sym by.0.slots_are) (all 0 old (omega arith)))
    (within-by number weight count olds news by.1 (λ k d within. all (suc k) d (omega (arith, within))))

-- ## Parts of statements of which one got another weight

slot-by : (setting : TheSetting) (statements : List Statement) (block : Block) (task : Task) (s : ℕ) (slot : Slot) (own : SlotPart) → IsSlotPart setting block task s slot own → IsSlotPart (with_statements setting statements) block task s slot own
slot-by setting statements block task s slot own is =
    record {
      table = is.table;
      table_found = is.table_found;
      base_is = is.base_is;
      grants_are =
          each-map (IsGrant setting block task s slot is.table) (IsGrant (with_statements setting statements) block task s slot is.table)
          (λ n grant one. record { candidate_is = one.candidate_is; prices_are = one.prices_are }) (candidates_on setting.shapes slot.table) own.grants is.grants_are;
    }

pub part-by : (setting : TheSetting) (statements : List Statement) (number weight : ℕ) (b : Blocked) (w : ℕ) (old new : Part) → IsPart setting b old → IsPartBy number weight old new → w ≡ cond (b.number == number) weight b.weight →
    IsPart (with_statements setting statements) (blocked b.number w b.block) new
part-by setting statements number weight b w old new is by heavy =
    record {
      statement_is = by.statement_is ∙ is.statement_is;
      weight_is = by.weight_is ∙ ap (λ (n : ℕ). cond (n == number) weight old.weight) is.statement_is ∙ ap (λ (own : ℕ). cond (b.number == number) weight own) is.weight_is ∙ sym heavy;
      task = is.task;
      task_is = is.task_is;
      decompose = subst (Decompose is.task) (sym by.templates_are) is.decompose;
      slots_count = ap length by.slots_are ∙ is.slots_count;
      slots_are = λ s slot own found there.
          slot-by setting statements b.block is.task s slot own (is.slots_are s slot own found (subst (λ (slots : List SlotPart). slice_get slots s ≡ Some own) by.slots_are there));
    }

pub kept-by : (cat : Catalogue) (number weight : ℕ) (b : Blocked) (w : ℕ) (old new : Part) → HasKept cat b old → IsPartBy number weight old new → HasKept cat (blocked b.number w b.block) new
kept-by cat number weight b w old new has by =
    record {
      task = has.task;
      task_is = has.task_is;
      kept = subst (AreKept has.task) (sym by.templates_are) has.kept;
      in_order = subst AreInOrder (sym by.templates_are) has.in_order;
      past = subst (λ (templates : List Template). All (AsksNothingPast has.task.slots) templates) (sym by.templates_are) has.past;
      places = subst (λ (templates : List Template). All HasAllPlaces templates) (sym by.templates_are) has.places;
    }

-- what a part keeps where its statement gets a weight
abbrev pub Keeps : (Blocked → Part → Type 0) → (Blocked → Part → Type 0) → ℕ → ℕ → Type 0
Keeps P Q number weight =
    (b : Blocked) (w : ℕ) (old new : Part) → P b old → IsPartBy number weight old new → w ≡ cond (b.number == number) weight b.weight → Q (blocked b.number w b.block) new

each-in : (P Q : Blocked → Part → Type 0) (number weight : ℕ) → Keeps P Q number weight → (q w v : ℕ) (there : Option Block) (rest after : List Blocked) (olds news : List Part) →
    ((ps qs : List Part) → AreEach P rest ps → AreEach (IsPartBy number weight) ps qs → AreEach Q after qs) → v ≡ cond (q == number) weight w →
    AreEach P (blocked_in q w there rest) olds → AreEach (IsPartBy number weight) olds news → AreEach Q (blocked_in q v there after) news
each-in P Q number weight keeps q w v None rest after olds news next heavy are by = next olds news are by
each-in P Q number weight keeps q w v (Some block) rest after [] news next heavy are by = absurd are
each-in P Q number weight keeps q w v (Some block) rest after (old ∷ olds) [] next heavy are by = absurd by
each-in P Q number weight keeps q w v (Some block) rest after (old ∷ olds) (new ∷ news) next heavy are by =
    (keeps (blocked q w block) v old new are.0 by.0 heavy, next olds news are.1 by.1)

pub each-by : (P Q : Blocked → Part → Type 0) (number weight : ℕ) → Keeps P Q number weight → (q : ℕ) (xs ys : List Statement) (olds news : List Part) → ByWeight number weight q xs ys →
    AreEach P (blocked_from q xs) olds → AreEach (IsPartBy number weight) olds news → AreEach Q (blocked_from q ys) news
each-by P Q number weight keeps q [] [] [] [] weights are by = tt
each-by P Q number weight keeps q [] [] [] (new ∷ news) weights are by = absurd by
each-by P Q number weight keeps q [] [] (old ∷ olds) news weights are by = absurd are
each-by P Q number weight keeps q [] (y ∷ ys) olds news weights are by = absurd weights
each-by P Q number weight keeps q (x ∷ xs) [] olds news weights are by = absurd weights
each-by P Q number weight keeps q (x ∷ xs) (y ∷ ys) olds news weights are by =
    subst (λ (work : Work). AreEach Q (blocked_in q y.weight (block_of work) (blocked_from (suc q) ys)) news) (sym weights.0)
    (each-in P Q number weight keeps q x.weight y.weight (block_of x.work) (blocked_from (suc q) xs) (blocked_from (suc q) ys) olds news
    (λ ps qs own next. each-by P Q number weight keeps (suc q) xs ys ps qs weights.2 own next) weights.1 are by)
