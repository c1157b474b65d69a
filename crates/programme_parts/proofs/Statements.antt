-- The parts of one statement after the other.
use Rattle.std.proofs.Common.{◌≡◌, ◌∙◌, inl, inr, ℕ, suc, ◌+◌, ◌<◌, ◌≤◌, List, [], ◌∷◌, ◌++◌, length, get_or, take, All, refl, sym, ap, subst, arith, length-take}
use Rattle.std.specs.Prelude.{Option, Some, None, slice_get}
use Rattle.std.proofs.lemmas.List.{append-nil}
use Rattle.std.proofs.lemmas.List.Elements.{All-cons, All-head, All-nil, All-tail}
use Rattle.std.proofs.lemmas.Option.{slice_get_cases, slice_get_within, slice_get-get_or}
use Rattle.adv_base.specs.declared.workload.Statement.{Statement}
use Rattle.adv_base.specs.declared.workload.block.Block.{Block}
use Rattle.adv_base.specs.declared.workload.parts.Slot.{Slot}
use Rattle.adv_base.specs.Named.{NamesBlock, NamesWork}
use Rattle.adv_base.specs.Settings.{TheSetting, KeepsLimits}
use Rattle.plan_model.specs.Totals.{block_of}
use Rattle.bip_model.specs.declared.grant.Grant.{Grant}
use Rattle.bip_model.specs.declared.slot_part.SlotPart.{SlotPart}
use Rattle.bip_model.specs.declared.part.Part.{Part}
use Rattle.bip_model.specs.Limits.Programmes.{GrantsWithin}
use Rattle.bip_model.specs.StandsFor.{AreEach, Blocked, IsGrant, IsPart, blocked_in, blocked_from, candidates_on}
use Rattle.bip_model.proofs.Lists.{All-some, each-more, each-length}
use Rattle.bip_model.proofs.Totalling.{named-of}
use Rattle.programme_parts.specs.Kept.{HasKept}
use Rattle.programme_parts.specs.Parts.{blocked, ArePartsBelow}
use Rattle.programme_parts.proofs.Parting.{IsBelow, candidates-numbered}
use Rattle.programme_parts.proofs.Reading.{take-found}

-- ## Statements with a block

blocked-in-push : (q weight : ℕ) (there : Option Block) (front back : List Blocked) → blocked_in q weight there (front ++ back) ≡ blocked_in q weight there front ++ back
blocked-in-push q weight None front back = refl
blocked-in-push q weight (Some block) front back = refl

blocked-push : (q : ℕ) (statements : List Statement) (statement : Statement) →
    blocked_from q (statements ++ statement ∷ []) ≡ blocked_from q statements ++ blocked_in (q + length statements) statement.weight (block_of statement.work) []
blocked-push q [] statement = let same : q ≡ q + 0 = omega arith in ap (λ (n : ℕ). blocked_in n statement.weight (block_of statement.work) []) same
blocked-push q (first ∷ rest) statement =
    let same : suc q + length rest ≡ q + suc (length rest) = omega arith in
    ap (blocked_in q first.weight (block_of first.work)) (blocked-push (suc q) rest statement)
    ∙ blocked-in-push q first.weight (block_of first.work) (blocked_from (suc q) rest) (blocked_in (suc q + length rest) statement.weight (block_of statement.work) [])
    ∙ ap (λ (n : ℕ). blocked_from q (first ∷ rest) ++ blocked_in n statement.weight (block_of statement.work) []) same

blocked-in-few : (q weight : ℕ) (there : Option Block) (rest : List Blocked) → length (blocked_in q weight there rest) ≤ suc (length rest)
blocked-in-few q weight None rest = omega arith
blocked-in-few q weight (Some block) rest = omega arith

blocked-few : (q : ℕ) (statements : List Statement) → length (blocked_from q statements) ≤ length statements
blocked-few q [] = omega arith
blocked-few q (statement ∷ statements) =
    omega (arith, blocked-in-few q statement.weight (block_of statement.work) (blocked_from (suc q) statements), blocked-few (suc q) statements)

-- the statements up to a number with the next one
pub next-blocked : (statements : List Statement) (at : ℕ) (statement : Statement) → slice_get statements at ≡ Some statement →
    blocked_from 1 (take (at + 1) statements) ≡ blocked_from 1 (take at statements) ++ blocked_in (at + 1) statement.weight (block_of statement.work) []
next-blocked statements at statement found =
    let within : at < length statements = slice_get_within statements at statement found in
    let count : length (take at statements) ≡ at = simp length-take (omega arith) in
    let number : 1 + length (take at statements) ≡ at + 1 = omega (arith, count) in
    ap (blocked_from 1) (take-found statements at statement found) ∙ blocked-push 1 (take at statements) statement
    ∙ ap (λ (n : ℕ). blocked_from 1 (take at statements) ++ blocked_in n statement.weight (block_of statement.work) []) number

-- the catalogue has what a block among the statements names
pub named-block : (setting : TheSetting) (at : ℕ) (statement : Statement) (block : Block) → KeepsLimits setting → slice_get setting.statements at ≡ Some statement → block_of statement.work ≡ Some block → NamesBlock setting.cat block
named-block setting at statement block limits found is =
    named-of setting.cat statement.work block (All-some (λ (s : Statement). NamesWork setting.cat s.work) setting.statements at statement limits.statements_named found) is

-- and what a statement among them names
pub named-statement : (setting : TheSetting) (at : ℕ) (statement : Statement) → KeepsLimits setting → slice_get setting.statements at ≡ Some statement → NamesWork setting.cat statement.work
named-statement setting at statement limits found = All-some (λ (s : Statement). NamesWork setting.cat s.work) setting.statements at statement limits.statements_named found

-- ## Parts

pub parts-none : (setting : TheSetting) → ArePartsBelow setting 0 []
parts-none setting = record { parts_are = tt; kept = tt }

-- a statement without a block
pub parts-same : (setting : TheSetting) (at : ℕ) (statement : Statement) (parts : List Part) → slice_get setting.statements at ≡ Some statement → block_of statement.work ≡ None → ArePartsBelow setting at parts → ArePartsBelow setting (at + 1) parts
parts-same setting at statement parts found none before =
    let same : blocked_from 1 (take (at + 1) setting.statements) ≡ blocked_from 1 (take at setting.statements) =
    next-blocked setting.statements at statement found
    ∙ ap (λ (there : Option Block). blocked_from 1 (take at setting.statements) ++ blocked_in (at + 1) statement.weight there []) none
    ∙ append-nil (blocked_from 1 (take at setting.statements)) in
    record {
      parts_are = subst (λ (bs : List Blocked). AreEach (IsPart setting) bs parts) (sym same) before.parts_are;
      kept = subst (λ (bs : List Blocked). AreEach (HasKept setting.cat) bs parts) (sym same) before.kept;
    }

-- one with a block
pub parts-more : (setting : TheSetting) (at : ℕ) (statement : Statement) (block : Block) (parts : List Part) (part : Part) → slice_get setting.statements at ≡ Some statement → block_of statement.work ≡ Some block →
    IsPart setting (blocked (at + 1) statement.weight block) part → HasKept setting.cat (blocked (at + 1) statement.weight block) part → ArePartsBelow setting at parts → ArePartsBelow setting (at + 1) (parts ++ part ∷ [])
parts-more setting at statement block parts part found is own kept before =
    let same : blocked_from 1 (take (at + 1) setting.statements) ≡ blocked_from 1 (take at setting.statements) ++ blocked (at + 1) statement.weight block ∷ [] =
    next-blocked setting.statements at statement found
    ∙ ap (λ (there : Option Block). blocked_from 1 (take at setting.statements) ++ blocked_in (at + 1) statement.weight there []) is in
    record {
      parts_are =
          subst (λ (bs : List Blocked). AreEach (IsPart setting) bs (parts ++ part ∷ [])) (sym same)
          (each-more (IsPart setting) (blocked_from 1 (take at setting.statements)) parts (blocked (at + 1) statement.weight block) part before.parts_are own);
      kept =
          subst (λ (bs : List Blocked). AreEach (HasKept setting.cat) bs (parts ++ part ∷ [])) (sym same)
          (each-more (HasKept setting.cat) (blocked_from 1 (take at setting.statements)) parts (blocked (at + 1) statement.weight block) part before.kept kept);
    }

-- ## The whole

pub parts-few : (setting : TheSetting) (statements : List Statement) (parts : List Part) → AreEach (IsPart setting) (blocked_from 1 statements) parts → length parts ≤ length statements
parts-few setting statements parts are = omega (arith, each-length (IsPart setting) (blocked_from 1 statements) parts are, blocked-few 1 statements)

-- what holds of the first elements holds of the second, by what each pair says
each-both : {A B : Type 0} (P : A → B → Type 0) (Q : A → Type 0) (R : B → Type 0) → ((x : A) (y : B) → P x y → Q x → R y) → (xs : List A) (ys : List B) → AreEach P xs ys → All Q xs → All R ys
each-both P Q R gives [] [] are all = All-nil R
each-both P Q R gives [] (y ∷ ys) are all = absurd are
each-both P Q R gives (x ∷ xs) [] are all = absurd are
each-both P Q R gives (x ∷ xs) (y ∷ ys) are all = All-cons R y ys (gives x y are.0 (All-head Q x xs all)) (each-both P Q R gives xs ys are.1 (All-tail Q x xs all))

grants-within : (setting : TheSetting) (blocked : Blocked) (part : Part) → IsPart setting blocked part → GrantsWithin (length setting.shapes) part
grants-within setting blocked part is = λ s d h.
    let own : SlotPart = get_or part.slots s d in
    let found : slice_get part.slots s ≡ Some own = slice_get-get_or part.slots s d h in
    elim (slice_get_cases blocked.block.slots s).1 [
      | inl there ↦
          let slot : Slot = there.0 in
          let slot_is = is.slots_are s slot own there.2 found in
          each-both (IsGrant setting blocked.block is.task s slot slot_is.table) (IsBelow (length setting.shapes)) (λ (grant : Grant). grant.candidate ≤ length setting.shapes)
          (λ n grant one below. let same : grant.candidate ≡ n.0 = one.candidate_is in omega (arith, same, below.most))
          (candidates_on setting.shapes slot.table) own.grants slot_is.grants_are (candidates-numbered setting.shapes slot.table)
      | inr past ↦ absurd (omega (arith, past.0, h, is.slots_count))
    ]

pub all-within : (setting : TheSetting) (blockeds : List Blocked) (parts : List Part) → AreEach (IsPart setting) blockeds parts → All (GrantsWithin (length setting.shapes)) parts
all-within setting blockeds parts are =
    each-both (IsPart setting) (λ (blocked : Blocked). Unit {0}) (GrantsWithin (length setting.shapes)) (λ blocked part is any. grants-within setting blocked part is) blockeds parts are (λ k d h. tt)
