-- Parts of statements of which one has gone.
use Rattle.std.proofs.Common.{◌≡◌, ◌∙◌, inl, inr, ℕ, zero, suc, ◌+◌, ◌-◌, ◌<◌, ◌≤◌, true, false, List, [], ◌∷◌, length, get_or, refl, sym, ap, subst, arith}
use Rattle.std.specs.Prelude.{Option, Some, None, nat_lt, if◌then◌else◌}
use Rattle.std.proofs.lemmas.Bool.{eq-eqb, ne_eqb, cases_lt}
use Rattle.std.proofs.lemmas.Bool.Decides.{nat_tests}
use Rattle.adv_base.specs.declared.catalogue.index.IndexShape.{IndexShape}
use Rattle.adv_base.specs.declared.workload.Statement.{Statement}
use Rattle.adv_base.specs.declared.workload.block.Block.{Block}
use Rattle.adv_base.specs.Settings.{TheSetting}
use Rattle.plan_model.specs.Totals.{block_of}
use Rattle.bip_model.specs.declared.part.Part.{Part}
use Rattle.bip_model.specs.StandsFor.{AreEach, Blocked, blocked_in, blocked_from}
use Rattle.programme_parts.specs.Parts.{blocked}
use Rattle.retune.specs.declared.tables.Changed.{Changed}
use Rattle.retune.specs.inner.Renewing.{has_changed, IsRenumbering, IsRenewed, IsPartBehind, IsPutBehind, ArePutBehind, IsWhole, number_without, with_one, without_part}
use Rattle.retune.proofs.Renumbered.{changed, part-behind, kept-behind}

-- the number that a statement had before one went
abbrev pub number_with : ℕ → ℕ → ℕ
number_with gone number = if nat_lt number gone then number else number + 1

-- the old part of a statement
abbrev pub IsStill : TheSetting → ℕ → Blocked → Part → Type 0
IsStill before gone b part = IsWhole before (blocked (number_with gone b.number) b.weight b.block) part

-- ## One statement after the other

still-behind : (before : TheSetting) (gone q weight : ℕ) (block : Block) (part : Part) → gone ≤ q → IsWhole before (blocked (suc q) weight block) part → IsStill before gone (blocked q weight block) part
still-behind before gone q weight block part low whole =
    let test : nat_lt q gone ≡ false = grind (arith, nat_tests) in
    let next : suc q ≡ q + 1 = omega arith in
    rw test (subst (λ (n : ℕ). IsWhole before (blocked n weight block) part) next whole)

still-before : (before : TheSetting) (gone q weight : ℕ) (block : Block) (part : Part) → q < gone → IsWhole before (blocked q weight block) part → IsStill before gone (blocked q weight block) part
still-before before gone q weight block part low whole =
    let test : nat_lt q gone ≡ true = grind (arith, nat_tests) in
    rw test whole

pub kept-part : (gone : ℕ) (part : Part) (parts : List Part) → (part.statement ≡ gone → ⊥) → without_part gone (part ∷ parts) ≡ part ∷ without_part gone parts
kept-part gone part parts other = let off = ne_eqb part.statement gone other in rw off refl

pub gone-part : (gone : ℕ) (part : Part) (parts : List Part) → part.statement ≡ gone → without_part gone (part ∷ parts) ≡ without_part gone parts
gone-part gone part parts same = let on = eq-eqb part.statement gone same in rw on refl

-- those behind the one that goes move down
behind-in : (before : TheSetting) (gone q weight : ℕ) (there : Option Block) (rest others : List Blocked) (parts : List Part) → gone ≤ q →
    ((ps : List Part) → AreEach (IsWhole before) others ps → AreEach (IsStill before gone) rest (without_part gone ps)) →
    AreEach (IsWhole before) (blocked_in (suc q) weight there others) parts → AreEach (IsStill before gone) (blocked_in q weight there rest) (without_part gone parts)
behind-in before gone q weight None rest others parts low next are = next parts are
behind-in before gone q weight (Some block) rest others [] low next are = absurd are
behind-in before gone q weight (Some block) rest others (part ∷ parts) low next are =
    let own : part.statement ≡ suc q = are.0.is.statement_is in
    subst (AreEach (IsStill before gone) (blocked q weight block ∷ rest)) (sym (kept-part gone part parts (λ same. omega (arith, own, same, low))))
    (still-behind before gone q weight block part low are.0, next parts are.1)

all-behind : (before : TheSetting) (gone q : ℕ) (statements : List Statement) (parts : List Part) → gone ≤ q →
    AreEach (IsWhole before) (blocked_from (suc q) statements) parts → AreEach (IsStill before gone) (blocked_from q statements) (without_part gone parts)
all-behind before gone q [] [] low are = tt
all-behind before gone q [] (part ∷ parts) low are = absurd are
all-behind before gone q (statement ∷ statements) parts low are =
    behind-in before gone q statement.weight (block_of statement.work) (blocked_from (suc q) statements) (blocked_from (suc (suc q)) statements) parts low
    (λ ps own. all-behind before gone (suc q) statements ps (omega (arith, low)) own) are

-- the one that goes
itself : (before : TheSetting) (q weight : ℕ) (there : Option Block) (statements : List Statement) (parts : List Part) →
    AreEach (IsWhole before) (blocked_in q weight there (blocked_from (suc q) statements)) parts → AreEach (IsStill before q) (blocked_from q statements) (without_part q parts)
itself before q weight None statements parts are = all-behind before q q statements parts (omega arith) are
itself before q weight (Some block) statements [] are = absurd are
itself before q weight (Some block) statements (part ∷ parts) are =
    subst (AreEach (IsStill before q) (blocked_from q statements)) (sym (gone-part q part parts are.0.is.statement_is))
    (all-behind before q q statements parts (omega arith) are.1)

-- those before it stay
before-in : (before : TheSetting) (gone q weight : ℕ) (there : Option Block) (rest others : List Blocked) (parts : List Part) → q < gone →
    ((ps : List Part) → AreEach (IsWhole before) others ps → AreEach (IsStill before gone) rest (without_part gone ps)) →
    AreEach (IsWhole before) (blocked_in q weight there others) parts → AreEach (IsStill before gone) (blocked_in q weight there rest) (without_part gone parts)
before-in before gone q weight None rest others parts low next are = next parts are
before-in before gone q weight (Some block) rest others [] low next are = absurd are
before-in before gone q weight (Some block) rest others (part ∷ parts) low next are =
    let own : part.statement ≡ q = are.0.is.statement_is in
    subst (AreEach (IsStill before gone) (blocked q weight block ∷ rest)) (sym (kept-part gone part parts (λ same. omega (arith, own, same, low))))
    (still-before before gone q weight block part low are.0, next parts are.1)

pub without-one : (before : TheSetting) (q at : ℕ) (statements : List Statement) (statement : Statement) (parts : List Part) → at ≤ length statements →
    AreEach (IsWhole before) (blocked_from q (with_one statements at statement)) parts → AreEach (IsStill before (q + at)) (blocked_from q statements) (without_part (q + at) parts)
without-one before q zero statements statement parts within are =
    let same : q ≡ q + zero = omega arith in
    subst (λ (gone : ℕ). AreEach (IsStill before gone) (blocked_from q statements) (without_part gone parts)) same
    (itself before q statement.weight (block_of statement.work) statements parts are)
without-one before q (suc at) [] statement parts within are = absurd (omega (arith, within))
without-one before q (suc at) (first ∷ statements) statement parts within are =
    let gone : ℕ = q + suc at in
    let same : suc q + at ≡ gone = omega arith in
    before-in before gone q first.weight (block_of first.work) (blocked_from (suc q) statements) (blocked_from (suc q) (with_one statements at statement)) parts (omega arith)
    (λ ps own. subst (λ (g : ℕ). AreEach (IsStill before g) (blocked_from (suc q) statements) (without_part g ps)) same
    (without-one before (suc q) at statements statement ps (omega (arith, within)) own)) are

-- ## Parts put over those that are left

back-again : (gone number : ℕ) → number_without gone (number_with gone number) ≡ number
back-again gone number =
    elim (cases_lt number gone) [
      | inl low ↦
          let first : nat_lt number gone ≡ true = grind (arith, nat_tests) in
          let second : nat_lt gone number ≡ false = grind (arith, nat_tests) in
          rw (first, second) refl
      | inr high ↦
          let first : nat_lt number gone ≡ false = grind (arith, nat_tests) in
          let second : nat_lt gone (number + 1) ≡ true = grind (arith, nat_tests) in
          let same : number + 1 - 1 ≡ number = omega arith in
          rw (first, second) same
    ]

one-put : (before : TheSetting) (statements : List Statement) (shapes : List IndexShape) (tables : Changed) (gone : ℕ) (number : ℕ → ℕ) (b : Blocked) (own : Option Part) (old new : Part) →
    ((t : ℕ) → has_changed tables t ≡ false → IsRenumbering number before.shapes shapes t) →
    IsRenewed (changed before statements shapes) tables b own → IsStill before gone b old → IsPutBehind gone number own old new → IsWhole (changed before statements shapes) b new
one-put before statements shapes tables gone number b (Some part) old new same anew still put = subst (IsWhole (changed before statements shapes) b) (sym put) anew
one-put before statements shapes tables gone number b None old new same anew still put =
    let old_number : old.statement ≡ number_with gone b.number = still.is.statement_is in
    let new_number : number_without gone old.statement ≡ b.number = ap (number_without gone) old_number ∙ back-again gone b.number in
    let behind : IsPartBehind b.number number old new = subst (λ (n : ℕ). IsPartBehind n number old new) new_number put in
    let was : Blocked = blocked (number_with gone b.number) b.weight b.block in
    record {
      is = part-behind before statements shapes was b.number number old new (λ k d within. same (get_or b.block.slots k d).table (anew k d within)) still.is behind;
      kept = kept-behind before.cat was b.number number old new still.kept behind;
    }

pub put-behind : (before : TheSetting) (statements : List Statement) (shapes : List IndexShape) (tables : Changed) (gone : ℕ) (number : ℕ → ℕ) (list : List Blocked) (renewed : List (Option Part)) (olds news : List Part) →
    ((t : ℕ) → has_changed tables t ≡ false → IsRenumbering number before.shapes shapes t) →
    AreEach (IsRenewed (changed before statements shapes) tables) list renewed → AreEach (IsStill before gone) list olds → ArePutBehind gone number renewed olds news →
    AreEach (IsWhole (changed before statements shapes)) list news
put-behind before statements shapes tables gone number [] [] [] news same anew still put = subst (AreEach (IsWhole (changed before statements shapes)) []) (sym put) tt
put-behind before statements shapes tables gone number [] [] (old ∷ olds) news same anew still put = absurd still
put-behind before statements shapes tables gone number [] (own ∷ renewed) olds news same anew still put = absurd anew
put-behind before statements shapes tables gone number (b ∷ list) [] olds news same anew still put = absurd anew
put-behind before statements shapes tables gone number (b ∷ list) (own ∷ renewed) [] news same anew still put = absurd still
put-behind before statements shapes tables gone number (b ∷ list) (own ∷ renewed) (old ∷ olds) [] same anew still put = absurd put
put-behind before statements shapes tables gone number (b ∷ list) (own ∷ renewed) (old ∷ olds) (new ∷ news) same anew still put = (
  one-put before statements shapes tables gone number b own old new same anew.0 still.0 put.0,
  put-behind before statements shapes tables gone number list renewed olds news same anew.1 still.1 put.1,
)
