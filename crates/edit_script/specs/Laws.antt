-- Laws of scripts: there is one reading of a text.
use Rattle.std.specs.Prelude.{◌≡◌, ℕ, List}
use Rattle.edit_script.specs.Scripts.{TheEdit, IsScript, IsBadLine}

-- a text is one script at most
abbrev pub ScriptsAreOne : Type 0
ScriptsAreOne = (bytes : List ℕ) (edits others : List TheEdit) → IsScript bytes edits → IsScript bytes others → edits ≡ others

-- it has one bad line at most
abbrev pub BadLinesAreOne : Type 0
BadLinesAreOne = (bytes : List ℕ) (a b : ℕ) → IsBadLine bytes a → IsBadLine bytes b → a ≡ b

-- and none where it is a script
abbrev pub ScriptsHaveNone : Type 0
ScriptsHaveNone = (bytes : List ℕ) (edits : List TheEdit) (a : ℕ) → IsScript bytes edits → ¬ (IsBadLine bytes a)
