-- Reading is natural in places: terminals of two texts that agree but for their places are read as statements that agree
-- but for theirs.
use Rattle.std.specs.Prelude.{ℕ, List}
use Rattle.sql_reader.specs.declared.terminal.Terminal.{Terminal}
use Rattle.sql_reader.specs.Exact.{IsRead}
use Rattle.sql_reader.specs.Printed as printed
use Rattle.sql_reader.specs.Rule.{Rule}
use Rattle.workload_fold.specs.Pairs.{Pairs}
use Rattle.workload_fold.specs.Places.{Texts, SameTerminal, SameSelect, SameInsert, SameUpdate, SameBody}

-- what a rule reads of the terminals of one text, it reads of those of the other, the same but for places
abbrev pub ReadsAlike : {B : Type 0} → Rule (Unit {0}) B → (Texts → B → B → Type 0) → Type 0
ReadsAlike {B} rule same =
    (t : Texts) (levels : ℕ) (ps qs : List Terminal) (b : B) → Pairs (SameTerminal t) ps qs → IsRead printed.grammar levels rule tt ps b →
    (d : B) × IsRead printed.grammar levels rule tt qs d × same t b d

-- each statement behind its first word
pub record StatementsReadAlike : Type 0 where
  pub select : ReadsAlike printed.select_rest SameSelect
  pub insert : ReadsAlike printed.insert_rest SameInsert
  pub update : ReadsAlike printed.update_rest SameUpdate
  pub delete : ReadsAlike printed.delete_rest SameBody
