-- The groups of a workload begin with the statements of their numbers.
use Rattle.std.proofs.Common.{◌≡◌, ℕ, suc, ◌+◌, ◌-◌, Bool, true, false, if◌then◌else◌, List, [], ◌∷◌, Some, sym, ap, ◌∙◌, arith}
use Rattle.std.specs.Prelude.{fold, slice_get}
use Rattle.std.specs.List.{enumerate_from}
use Rattle.adv_base.specs.declared.catalogue.Catalogue.{Catalogue}
use Rattle.adv_base.specs.declared.workload.Statement.{Statement}
use Rattle.workload_fold.specs.Groups.{Group, takes, heavier, joined}

-- each group's first statement is that of its number
abbrev pub AreNumbered : List Statement → List Group → Type 0
AreNumbered statements [] = Unit {0}
AreNumbered statements (g ∷ gs) = (slice_get statements (g.number - 1) ≡ Some g.first) × AreNumbered statements gs

joined_numbered : (cat : Catalogue) (statements : List Statement) (gs : List Group) (n : ℕ) (s : Statement) → slice_get statements (n - 1) ≡ Some s → AreNumbered statements gs → AreNumbered statements (joined cat gs (n, s))
joined_numbered cat statements [] n s is are = (is, tt)
joined_numbered cat statements (g ∷ gs) n s is are = by_case (joined_numbered cat statements gs n s is are.1) (takes cat s g)
  where
    by_case : AreNumbered statements (joined cat gs (n, s)) → (b : Bool) → AreNumbered statements (if b then heavier g s.weight ∷ gs else g ∷ joined cat gs (n, s))
    by_case later true = are
    by_case later false = (are.0, later)

pub all_numbered : (cat : Catalogue) (statements : List Statement) (gs : List Group) (i : ℕ) (xs : List Statement) → ((k : ℕ) → slice_get xs k ≡ slice_get statements (i + k)) → AreNumbered statements gs
    → AreNumbered statements (fold (joined cat) gs (enumerate_from (i + 1) xs))
all_numbered cat statements gs i [] places are = are
all_numbered cat statements gs i (x ∷ xs) places are =
    let here : i + 1 - 1 ≡ i + 0 = omega arith in
    let own : slice_get statements (i + 1 - 1) ≡ Some x = ap (slice_get statements) here ∙ sym (places 0) in
    all_numbered cat statements (joined cat gs (i + 1, x)) (i + 1) xs
    (λ k. (let next : i + suc k ≡ i + 1 + k = omega arith in places (suc k) ∙ ap (slice_get statements) next))
    (joined_numbered cat statements gs (i + 1) x own are)
