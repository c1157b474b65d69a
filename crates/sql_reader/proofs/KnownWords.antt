-- The words that the grammar knows, looked up one by one.
use Rattle.std.proofs.Common.{◌≡◌, ℕ, Bool, List, ◌∷◌, Some, ap, ◌∙◌, if◌then◌else◌}
use Rattle.std.specs.Str.{str_eq_ignore_ascii_case}
use Rattle.sql_reader.specs.declared.words.Word.{Word}
use Rattle.sql_reader.specs.Words.{kind_in, entries}

pub passed : (table : List Word) (e : Word) (rest : List Word) (word : List ℕ) (b : Bool) → table ≡ e ∷ rest → str_eq_ignore_ascii_case word e.0.now ≡ b →
    kind_in (entries table) word ≡ (if b then Some e.1 else kind_in (entries rest) word)
passed table e rest word b is same =
    ap (λ (t : List Word). kind_in (entries t) word) is ∙ ap (λ (x : Bool). if x then Some e.1 else kind_in (entries rest) word) same
