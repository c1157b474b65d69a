-- The lines of statements, one more at a time.
use Rattle.std.proofs.Common.{◌≡◌, ℕ, suc, ◌+◌, ◌<◌, ◌≤◌, List, [], ◌∷◌, ◌++◌, length, get_or, drop, refl, sym, ap, add-one, drop-cons}
use Rattle.std.proofs.lemmas.List.{at_drop_all}
use Rattle.adv_base.specs.declared.workload.Statement.{Statement}
use Rattle.report.specs.Texts.{cost_line, cost_lines}

-- the line of a statement, and those behind it
pub cost_lines-turn : (n i : ℕ) (statements : List Statement) (costs : List ℕ) (statement : Statement) (cost : ℕ) → i < length statements → i < length costs → statement ≡ get_or statements i statement → cost ≡ get_or costs i 0 → cost_lines n (drop i statements) (drop i costs) ≡ cost_line n statement.weight cost ++ cost_lines (n + 1) (drop (i + 1) statements) (drop (i + 1) costs)
unfolding cost_lines
cost_lines-turn n i statements costs statement cost h k e f =
    let first : drop i statements ≡ statement ∷ drop (i + 1) statements = rw (add-one, drop-cons statements i statement) (ap (λ (x : Statement). x ∷ drop (suc i) statements) (sym e)) in
    let second : drop i costs ≡ cost ∷ drop (i + 1) costs = rw (add-one, drop-cons costs i 0) (ap (λ (x : ℕ). x ∷ drop (suc i) costs) (sym f)) in
    rw first (rw second refl)

-- no line is left
pub cost_lines-end : (n i : ℕ) (statements : List Statement) (costs : List ℕ) → length costs ≤ i → cost_lines n (drop i statements) (drop i costs) ≡ []
unfolding cost_lines
cost_lines-end n i statements costs h = at_drop_all (cost_lines n (drop i statements)) costs i h
