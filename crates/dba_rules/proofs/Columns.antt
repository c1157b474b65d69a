-- Columns of an index, as a loop reads them.
use Rattle.std.proofs.Common.{◌≡◌, ℕ, zero, suc, ◌-◌, ◌<◌, false, if◌then◌else◌, List, Result, Ok, refl, sym, ◌∙◌, arith}
use Rattle.adv_base.specs.Readings.{◌>>=◌}
use Rattle.dba_rules.specs.declared.fault.RuleFault.{RuleFault}
use Rattle.dba_rules.specs.Lines.{column_step, columns_from}

abbrev Columns : Type 0
Columns = List (List ℕ)

columns-more : (number n : ℕ) (columns : Columns) (bytes : List ℕ) → 0 < n →
    columns_from number n columns bytes ≡ (column_step number columns bytes >>= λ step. if step.1 then Ok (step.0, step.2) else columns_from number (n - 1) step.0 step.2)
columns-more number zero columns bytes some = absurd (omega arith)
columns-more number (suc n) columns bytes some = let back : suc n - 1 ≡ n = omega arith in rw back refl

-- the loop goes on behind a column that isn't the last
pub columns_go : (number n : ℕ) (columns more : Columns) (bytes rest : List ℕ) (total : Result (Columns × List ℕ) RuleFault) → 0 < n →
    column_step number columns bytes ≡ Ok (more, false, rest) → columns_from number n columns bytes ≡ total → columns_from number (n - 1) more rest ≡ total
columns_go number n columns more bytes rest total some step so_far = sym (columns-more number n columns bytes some ∙ rw step refl) ∙ so_far
