-- The first statement with too many combinations is one.
use Rattle.std.proofs.Common.{◌≡◌, inl, inr, ℕ, zero, suc, ◌-◌, ◌<◌, List, [], ◌∷◌, take, slice_get, Some, sym, ap, subst, ◌∙◌, arith}
use Rattle.std.proofs.lemmas.Bool.{cases_lt}
use Rattle.adv_base.specs.declared.workload.Statement.{Statement}
use Rattle.adv_base.specs.declared.workload.block.Block.{Block}
use Rattle.adv_base.specs.Settings.{TheSetting}
use Rattle.plan_model.specs.Totals.{block_of}
use Rattle.bip_model.proofs.Lists.{All-some}
use Rattle.programme_parts.specs.Combinations.{HasCombinations, HasFew, AreFew, IsFirstBeyond}
use Rattle.programme_parts.proofs.Counting.{one-count}

-- what is found in a list is found in its front
in_front : {X : Type 0} (xs : List X) (k i : ℕ) (x : X) → i < k → slice_get xs i ≡ Some x → slice_get (take k xs) i ≡ Some x
in_front [] k i x low found = absurd cc
in_front (y ∷ ys) zero i x low found = absurd (omega (arith, low))
in_front (y ∷ ys) (suc k) zero x low found = found
in_front (y ∷ ys) (suc k) (suc i) x low found = in_front ys k i x (omega (arith, low)) found

-- where all have few, none has too many
none_too_many : (setting : TheSetting) (xs : List Statement) (n count : ℕ) (h : IsFirstBeyond setting.cat setting.statements n count) → AreFew setting.cat xs → slice_get xs (n - 1) ≡ Some h.statement → ⊥
none_too_many setting xs n count h few found =
    let within = All-some (HasFew setting.cat) xs (n - 1) h.statement few found h.is.block h.is.block_is count h.is.has in
    let beyond = h.is.beyond in
    absurd (omega (arith, within, beyond))

pub none_beyond : (setting : TheSetting) (n count : ℕ) → AreFew setting.cat setting.statements → IsFirstBeyond setting.cat setting.statements n count → ⊥
none_beyond setting n count few h = none_too_many setting setting.statements n count h few h.found

none_before : (setting : TheSetting) (n m count other : ℕ) → IsFirstBeyond setting.cat setting.statements n count → IsFirstBeyond setting.cat setting.statements m other → n < m → ⊥
none_before setting n m count other x y low =
    let from = x.from_one in
    none_too_many setting (take (m - 1) setting.statements) n count x y.few_before (in_front setting.statements (m - 1) (n - 1) x.statement (omega (arith, low, from)) x.found)

-- one statement is the first that has more, and it has one count
pub one_beyond : (setting : TheSetting) (n m count other : ℕ) → IsFirstBeyond setting.cat setting.statements n count → IsFirstBeyond setting.cat setting.statements m other → (n ≡ m) × (count ≡ other)
one_beyond setting n m count other x y =
    let place : n ≡ m = elim (cases_lt n m) [
      | inl low ↦ absurd (none_before setting n m count other x y low)
      | inr high ↦ elim (cases_lt m n) [
        | inl low ↦ absurd (none_before setting m n other count y x low)
        | inr low ↦ omega (arith, high, low)
      ]
    ] in
    let found : Some x.statement ≡ Some y.statement = sym x.found ∙ ap (λ (k : ℕ). slice_get setting.statements (k - 1)) place ∙ y.found in
    let statement : x.statement ≡ y.statement = cc in
    let reads : Some x.is.block ≡ Some y.is.block = sym x.is.block_is ∙ ap (λ (s : Statement). block_of s.work) statement ∙ y.is.block_is in
    let block : x.is.block ≡ y.is.block = cc in
    (place, one-count setting.cat y.is.block count other (subst (λ (b : Block). HasCombinations setting.cat b count) block x.is.has) y.is.has)
