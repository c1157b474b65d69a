-- Nested forms, level by level.
use Rattle.std.proofs.Common.{◌≡◌, ℕ, zero, suc, ◌-◌, ◌<◌, List, refl, arith, sub-one}
use Rattle.sql_reader.specs.declared.terminal.Terminal.{Terminal}
use Rattle.sql_reader.specs.Rule.{Nesting, State, Stuck, Conditions, Parenthesis, Call, Signed, read_nested}
use Rattle.sql_reader.specs.Exact.{reads}
use Rattle.sql_reader.specs.Grammar.{grammar, nested_conditions, parenthesis, call, signed_operand}

-- with no level left, a nested form fails at its first terminal
no_level : (n : ℕ) (x : Nesting) (a : State x) (ps : List Terminal) → n ≡ 0 → read_nested grammar n x a ps ≡ Stuck ps
unfolding read_nested
no_level zero x a ps e = refl
no_level (suc n) x a ps e = cc

-- with some, it is read with one level less
one_less : (n : ℕ) (x : Nesting) (a : State x) (ps : List Terminal) → 0 < n → read_nested grammar n x a ps ≡ reads grammar (n - 1) (grammar x) a ps
unfolding read_nested
one_less zero x a ps h = absurd (omega arith)
one_less (suc n) x a ps h = rw sub-one refl

pub no_conditions : (n : ℕ) (a : State Conditions) (ps : List Terminal) → n ≡ 0 → read_nested grammar n Conditions a ps ≡ Stuck ps
no_conditions n a ps e = no_level n Conditions a ps e

pub deeper_conditions : (n : ℕ) (a : State Conditions) (ps : List Terminal) → 0 < n → read_nested grammar n Conditions a ps ≡ reads grammar (n - 1) nested_conditions a ps
unfolding grammar
deeper_conditions n a ps h = one_less n Conditions a ps h

pub no_parenthesis : (n : ℕ) (a : State Parenthesis) (ps : List Terminal) → n ≡ 0 → read_nested grammar n Parenthesis a ps ≡ Stuck ps
no_parenthesis n a ps e = no_level n Parenthesis a ps e

pub deeper_parenthesis : (n : ℕ) (a : State Parenthesis) (ps : List Terminal) → 0 < n → read_nested grammar n Parenthesis a ps ≡ reads grammar (n - 1) parenthesis a ps
unfolding grammar
deeper_parenthesis n a ps h = one_less n Parenthesis a ps h

pub no_call : (n : ℕ) (a : State Call) (ps : List Terminal) → n ≡ 0 → read_nested grammar n Call a ps ≡ Stuck ps
no_call n a ps e = no_level n Call a ps e

pub deeper_call : (n : ℕ) (a : State Call) (ps : List Terminal) → 0 < n → read_nested grammar n Call a ps ≡ reads grammar (n - 1) call a ps
unfolding grammar
deeper_call n a ps h = one_less n Call a ps h

pub no_signed : (n : ℕ) (a : State Signed) (ps : List Terminal) → n ≡ 0 → read_nested grammar n Signed a ps ≡ Stuck ps
no_signed n a ps e = no_level n Signed a ps e

pub deeper_signed : (n : ℕ) (a : State Signed) (ps : List Terminal) → 0 < n → read_nested grammar n Signed a ps ≡ reads grammar (n - 1) signed_operand a ps
unfolding grammar
deeper_signed n a ps h = one_less n Signed a ps h
