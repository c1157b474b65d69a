-- One more draw, one more table, one more statement.
use Rattle.std.proofs.Common.{◌≡◌, ℕ, zero, suc, ◌+◌, ◌++◌, List, ap, ◌∙◌, arith, zero-add}
use Rattle.std.proofs.lemmas.List.{append_assoc}
use Rattle.workload_gen.specs.Draws.{after, next_state}
use Rattle.workload_gen.specs.Tables.{table_text, tables_text, drawn_sizes}
use Rattle.workload_gen.specs.Statements.{statement_text, statements_text, drawn_choice}

pub after-add : (m n x : ℕ) → after (m + n) x ≡ after n (after m x)
after-add zero n x = ap (λ (k : ℕ). after k x) (zero-add n)
after-add (suc m) n x = let e : suc m + n ≡ suc (m + n) = omega arith in ap (λ (k : ℕ). after k x) e ∙ after-add m n (next_state x)

-- three draws more
pub after-three : (m n x : ℕ) → n ≡ m + 3 → after n x ≡ after 3 (after m x)
after-three m n x e = ap (λ (k : ℕ). after k x) e ∙ after-add m 3 x

pub tables_text-suc : (left n number x : ℕ) → left ≡ suc n → tables_text left number x ≡ table_text number (drawn_sizes x) ++ tables_text n (number + 1) (after 3 x)
tables_text-suc left n number x e = ap (λ (k : ℕ). tables_text k number x) e

pub statements_text-suc : (left n tables x : ℕ) → left ≡ suc n → statements_text left tables x ≡ statement_text tables (drawn_choice tables x) ++ statements_text n tables (after 4 x)
statements_text-suc left n tables x e = ap (λ (k : ℕ). statements_text k tables x) e

-- a piece that was added leaves the rest behind it
pub append-piece : (out : List ℕ) {out' : List ℕ} (piece : List ℕ) {rest : List ℕ} (rest' : List ℕ) {whole : List ℕ} → out' ≡ out ++ piece → rest ≡ piece ++ rest' → out ++ rest ≡ whole → out' ++ rest' ≡ whole
append-piece out piece rest' added parts before = let e = append_assoc out piece rest' in cc
