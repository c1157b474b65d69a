-- In a programme that stands for a setting, pages, open candidates and useful candidates are the setting's.
use Rattle.std.proofs.Common.{◌≡◌, ◌∙◌, ℕ, zero, suc, ◌+◌, List, [], ◌∷◌, refl, sym, ap, subst, arith}
use Rattle.std.specs.Prelude.{Option, Some, None, slice_get}
use Rattle.adv_base.specs.declared.setting.Config.{Config}
use Rattle.adv_base.specs.declared.workload.Statement.{Statement}
use Rattle.adv_base.specs.declared.workload.block.Block.{Block}
use Rattle.adv_base.specs.Configs.{Space, space_of, config_pages, candidate_pages, pages_in, size_in}
use Rattle.adv_base.specs.Settings.{TheSetting}
use Rattle.plan_model.specs.Totals.{block_of}
use Rattle.bip_model.specs.declared.programme.Programme.{Programme}
use Rattle.bip_model.specs.StandsFor.{AreEach, Blocked, blocked_in, blocked_from, StandsFor}
use Rattle.bip_model.specs.Views.{space_in}

-- ## Space

abbrev with_sizes : ℕ → List ℕ → Space
with_sizes budget sizes = record { sizes = sizes; budget = budget }

pub space-same : (setting : TheSetting) (programme : Programme) (budget : ℕ) → StandsFor setting programme → space_of setting.cat setting.shapes budget ≡ space_in programme budget
space-same setting programme budget stands =
    ap (with_sizes budget) (sym stands.sizes_are)

pub pages-same : (setting : TheSetting) (programme : Programme) (config : Config) → StandsFor setting programme → config_pages setting.cat setting.shapes config ≡ pages_in programme.sizes config
pages-same setting programme config stands = ap (λ (sizes : List ℕ). pages_in sizes config) (sym stands.sizes_are)

pub size-same : (setting : TheSetting) (programme : Programme) (a : ℕ) → StandsFor setting programme → candidate_pages setting.cat setting.shapes a ≡ size_in programme.sizes a
size-same setting programme a stands = ap (λ (sizes : List ℕ). size_in sizes a) (sym stands.sizes_are)

-- ## Statements with a block

-- the block of one of the statements from number q on
pub record IsBlockedFrom (q : ℕ) (statements : List Statement) (blocked : Blocked) : Type 0 where
  pub place : ℕ
  pub number_is : blocked.number ≡ q + place
  pub statement : Statement
  pub found : slice_get statements place ≡ Some statement
  pub weight_is : blocked.weight ≡ statement.weight
  pub block_is : block_of statement.work ≡ Some blocked.block

pub blocked-from : (q : ℕ) (statements : List Statement) (i : ℕ) (blocked : Blocked) → slice_get (blocked_from q statements) i ≡ Some blocked → IsBlockedFrom q statements blocked
blocked-from q [] i blocked found = absurd (cc)
blocked-from q (statement ∷ statements) i blocked found =
    one (block_of statement.work) refl i (λ k rest. blocked-from (suc q) statements k blocked rest) found
  where
    later : IsBlockedFrom (suc q) statements blocked → IsBlockedFrom q (statement ∷ statements) blocked
    later is =
        record {
          place = suc is.place;
          number_is = omega (arith, is.number_is);
          statement = is.statement;
          found = is.found;
          weight_is = is.weight_is;
          block_is = is.block_is;
        }

    one : (there : Option Block) → block_of statement.work ≡ there → (i : ℕ) → ((k : ℕ) → slice_get (blocked_from (suc q) statements) k ≡ Some blocked → IsBlockedFrom (suc q) statements blocked) →
        slice_get (blocked_in q statement.weight there (blocked_from (suc q) statements)) i ≡ Some blocked → IsBlockedFrom q (statement ∷ statements) blocked
    one None none i more found = later (more i found)
    one (Some block) is (suc i) more found = later (more i found)
    one (Some block) is zero more found =
        let same : record { number = q; weight = statement.weight; block = block } ≡ blocked = cc in
        subst (IsBlockedFrom q (statement ∷ statements)) same
        (record { place = 0; number_is = omega arith; statement = statement; found = refl; weight_is = refl; block_is = is })

-- and where each stands in a list of those with a block
pub record IsBlockedAt (list : List Blocked) (number weight : ℕ) (block : Block) : Type 0 where
  pub place : ℕ
  pub blocked : Blocked
  pub found : slice_get list place ≡ Some blocked
  pub number_is : blocked.number ≡ number
  pub weight_is : blocked.weight ≡ weight
  pub block_is : blocked.block ≡ block

blocked-later : (q weight : ℕ) (there : Option Block) (rest : List Blocked) (number weight' : ℕ) (block : Block) → IsBlockedAt rest number weight' block → IsBlockedAt (blocked_in q weight there rest) number weight' block
blocked-later q weight None rest number weight' block is = is
blocked-later q weight (Some own) rest number weight' block is =
    record { place = suc is.place; blocked = is.blocked; found = is.found; number_is = is.number_is; weight_is = is.weight_is; block_is = is.block_is }

blocked-moved : (list : List Blocked) (n k w v : ℕ) (block : Block) → n ≡ k → w ≡ v → IsBlockedAt list n w block → IsBlockedAt list k v block
blocked-moved list n k w v block number weight is =
    record {
      place = is.place;
      blocked = is.blocked;
      found = is.found;
      number_is = is.number_is ∙ number;
      weight_is = is.weight_is ∙ weight;
      block_is = is.block_is;
    }

blocked-first : (q weight : ℕ) (there : Option Block) (rest : List Blocked) (block : Block) → there ≡ Some block → IsBlockedAt (blocked_in q weight there rest) q weight block
blocked-first q weight None rest block is = absurd (cc)
blocked-first q weight (Some own) rest block is =
    let same : own ≡ block = cc in
    record { place = 0; blocked = record { number = q; weight = weight; block = own }; found = refl; number_is = refl; weight_is = refl; block_is = same }

first-blocked : (q : ℕ) (first : Statement) (statements : List Statement) (statement : Statement) (block : Block) → slice_get (first ∷ statements) 0 ≡ Some statement → block_of statement.work ≡ Some block →
    IsBlockedAt (blocked_from q (first ∷ statements)) (q + 0) statement.weight block
first-blocked q first statements statement block found is =
    let same : first ≡ statement = cc in
    blocked-moved (blocked_from q (first ∷ statements)) q (q + 0) first.weight statement.weight block (omega arith) (ap (λ (s : Statement). s.weight) same)
    (blocked-first q first.weight (block_of first.work) (blocked_from (suc q) statements) block (ap (λ (s : Statement). block_of s.work) same ∙ is))

later-blocked : (q : ℕ) (first : Statement) (statements : List Statement) (i weight : ℕ) (block : Block) → IsBlockedAt (blocked_from (suc q) statements) (suc q + i) weight block → IsBlockedAt (blocked_from q (first ∷ statements)) (q + suc i) weight block
later-blocked q first statements i weight block is =
    blocked-later q first.weight (block_of first.work) (blocked_from (suc q) statements) (q + suc i) weight block
    (blocked-moved (blocked_from (suc q) statements) (suc q + i) (q + suc i) weight weight block (omega arith) refl is)

no-blocked : (q i weight : ℕ) (statement : Statement) (block : Block) → slice_get [] i ≡ Some statement → IsBlockedAt [] (q + i) weight block
no-blocked q i weight statement block found = absurd (cc)

pub from-blocked : (q : ℕ) (statements : List Statement) (i : ℕ) (statement : Statement) (block : Block) → slice_get statements i ≡ Some statement → block_of statement.work ≡ Some block →
    IsBlockedAt (blocked_from q statements) (q + i) statement.weight block
from-blocked q [] i statement block found is = no-blocked q i statement.weight statement block found
from-blocked q (first ∷ statements) zero statement block found is = first-blocked q first statements statement block found is
from-blocked q (first ∷ statements) (suc i) statement block found is = later-blocked q first statements i statement.weight block (from-blocked (suc q) statements i statement block found is)

-- ## Elements of two lists that belong together

pub record IsPaired {A B : Type 0} (P : A → B → Type 0) (xs : List A) (i : ℕ) (y : B) : Type 0 where
  pub element : A
  pub found : slice_get xs i ≡ Some element
  pub holds : P element y

pub each-right : {A B : Type 0} (P : A → B → Type 0) (xs : List A) (ys : List B) (i : ℕ) (y : B) → AreEach P xs ys → slice_get ys i ≡ Some y → IsPaired P xs i y
each-right P xs [] i y are found = absurd (cc)
each-right P [] (z ∷ ys) i y are found = absurd are
each-right P (x ∷ xs) (z ∷ ys) zero y are found = let same : z ≡ y = cc in record { element = x; found = refl; holds = subst (P x) same are.0 }
each-right P (x ∷ xs) (z ∷ ys) (suc i) y are found =
    let rest = each-right P xs ys i y are.1 found in
    record { element = rest.element; found = rest.found; holds = rest.holds }

pub record IsPairedLeft {A B : Type 0} (P : A → B → Type 0) (ys : List B) (i : ℕ) (x : A) : Type 0 where
  pub element : B
  pub found : slice_get ys i ≡ Some element
  pub holds : P x element

pub each-left : {A B : Type 0} (P : A → B → Type 0) (xs : List A) (ys : List B) (i : ℕ) (x : A) → AreEach P xs ys → slice_get xs i ≡ Some x → IsPairedLeft P ys i x
each-left P [] ys i x are found = absurd (cc)
each-left P (z ∷ xs) [] i x are found = absurd are
each-left P (z ∷ xs) (y ∷ ys) zero x are found = let same : z ≡ x = cc in record { element = y; found = refl; holds = subst (λ w. P w y) same are.0 }
each-left P (z ∷ xs) (y ∷ ys) (suc i) x are found =
    let rest = each-left P xs ys i x are.1 found in
    record { element = rest.element; found = rest.found; holds = rest.holds }
