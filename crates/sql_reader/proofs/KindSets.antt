-- Sets of kinds, and lists of terminals.
use Rattle.std.proofs.Common.{◌≡◌, ℕ, ◌==◌, Bool, true, false, ◌||◌, not, List, [], ◌∷◌, ◌++◌, length, sym, refl, ap, ◌∙◌, inl, inr, arith, rules, tests, length-append}
use Rattle.std.proofs.lemmas.Bool.{and_parts, or_cases, not-true, false_from_ne_true}
use Rattle.sql_reader.specs.declared.kind.TerminalKind.{TerminalKind}
use Rattle.sql_reader.specs.declared.terminal.Terminal.{Terminal}
use Rattle.sql_reader.specs.Kinds.{code_of, has, apart, within}
use Rattle.sql_reader.specs.Rule.{begins}

pub not_both : {X : Type 0} (a : Bool) → a ≡ true → a ≡ false → X
not_both true h e = absurd cc
not_both false h e = absurd cc

-- kinds with one number are in the same sets
pub same_code : (ks : List TerminalKind) (j k : TerminalKind) → code_of j ≡ code_of k → has ks j ≡ has ks k
same_code [] j k e = refl
same_code (i ∷ ks) j k e = rw (e, same_code ks j k e) refl

code_eq : (m n : ℕ) → (m == n) ≡ true → m ≡ n
code_eq m n h = search (tests, rules)

pub not_in_other : (js ks : List TerminalKind) (k : TerminalKind) → apart js ks ≡ true → has js k ≡ true → has ks k ≡ false
not_in_other [] ks k h m = absurd cc
not_in_other (j ∷ js) ks k h m =
    let parts = and_parts (not (has ks j)) (apart js ks) h in
    elim (or_cases (code_of j == code_of k) (has js k) m) [
      | inl e ↦ sym (same_code ks j k (code_eq (code_of j) (code_of k) e)) ∙ not-true (has ks j) parts.0
      | inr rest ↦ not_in_other js ks k parts.1 rest
    ]

pub not_in_first : (js ks : List TerminalKind) (k : TerminalKind) → apart js ks ≡ true → has ks k ≡ true → has js k ≡ false
not_in_first js ks k h m = false_from_ne_true (has js k) (λ e. not_both (has ks k) m (not_in_other js ks k h e))

pub in_wider : (js ks : List TerminalKind) (k : TerminalKind) → within js ks ≡ true → has js k ≡ true → has ks k ≡ true
in_wider [] ks k h m = absurd cc
in_wider (j ∷ js) ks k h m =
    let parts = and_parts (has ks j) (within js ks) h in
    elim (or_cases (code_of j == code_of k) (has js k) m) [
      | inl e ↦ sym (same_code ks j k (code_eq (code_of j) (code_of k) e)) ∙ parts.0
      | inr rest ↦ in_wider js ks k parts.1 rest
    ]

or_assoc : (a b c : Bool) → ((a || b) || c) ≡ (a || (b || c))
or_assoc true b c = refl
or_assoc false b c = refl

pub has-append : (js ks : List TerminalKind) (k : TerminalKind) → has (js ++ ks) k ≡ (has js k || has ks k)
has-append [] ks k = refl
has-append (j ∷ js) ks k =
    ap (λ b. (code_of j == code_of k) || b) (has-append js ks k) ∙ sym (or_assoc (code_of j == code_of k) (has js k) (has ks k))

pub begins-append : (js ks : List TerminalKind) (ps : List Terminal) → begins (js ++ ks) ps ≡ (begins js ps || begins ks ps)
begins-append js ks [] = refl
begins-append js ks (p ∷ ps) = has-append js ks p.kind

-- no terminal that begins in the wider set is none that begins in the narrower
pub begins_narrower : (js ks : List TerminalKind) (ps : List Terminal) → within js ks ≡ true → begins ks ps ≡ false → begins js ps ≡ false
begins_narrower js ks [] h m = refl
begins_narrower js ks (p ∷ ps) h m = false_from_ne_true (has js p.kind) (λ e. not_both (has ks p.kind) (in_wider js ks p.kind h e) m)

-- lists of terminals

pub nil_parts : (front back : List Terminal) → [] ≡ front ++ back → (front ≡ []) × (back ≡ [])
nil_parts [] back e = (refl, sym e)
nil_parts (p ∷ front) back e = absurd cc

-- what is as long as its end is its end
pub no_front : (front rest : List Terminal) → front ++ rest ≡ rest → front ≡ []
no_front [] rest e = refl
no_front (p ∷ front) rest e = absurd (omega (arith, length-append front rest, ap length e))

pub same_itself : (k : ℕ) → (k == k) ≡ true
same_itself k = search (tests, rules)
