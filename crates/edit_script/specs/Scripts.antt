-- Scripts of edits: how they are spelled, and the first line of a text that is none of a script.
use Rattle.std.specs.Prelude.{◌≡◌, ◌≢◌, ℕ, ◌+◌, ◌≤◌, Bool, true, false, List, [], ◌∷◌, ◌++◌, length, map, count_by, codes, decimal, All}
use Rattle.adv_base.specs.declared.limits.TheConstants.{MOST_STATEMENTS, MOST_WEIGHT}
use Rattle.edit_script.specs.declared.edit.Edit.{Edit}
use Rattle.edit_script.specs.declared.edit.Edit.TheVariants as edit
use Rattle.edit_script.specs.declared.edit.Edits.{Edits}
use Rattle.edit_script.specs.declared.edit.TheConstants.{MOST_LINES, MOST_ADVICES}
use Rattle.edit_script.specs.declared.fault.ScriptFault.{ScriptFault}
use Rattle.edit_script.specs.declared.fault.ScriptFault.TheVariants.{BadLine}

-- an edit, with the bytes of an added statement
pub data TheEdit : Type 0 where
  Add : ℕ → List ℕ → TheEdit
  Remove : ℕ → TheEdit
  Weigh : ℕ → ℕ → TheEdit
  Advise : TheEdit

-- edits that a function has, as definitions see them
abbrev pub the_edit : Edit → TheEdit
the_edit (edit.Add weight sql) = Add weight sql.now
the_edit (edit.Remove number) = Remove number
the_edit (edit.Weigh number weight) = Weigh number weight
the_edit edit.Advise = Advise

abbrev pub the_edits : Edits → List TheEdit
the_edits edits = map the_edit edits.list

-- ## How a script is spelled

-- an edit, without the line feed that ends its line
abbrev pub edit_text : TheEdit → List ℕ
edit_text (Add weight sql) = codes "add " ++ (decimal weight ++ 32 ∷ sql)
edit_text (Remove number) = codes "remove " ++ decimal number
edit_text (Weigh number weight) = codes "weigh " ++ (decimal number ++ 32 ∷ decimal weight)
edit_text Advise = codes "advise"

-- its lines, each ended by a line feed
abbrev pub script_text : List TheEdit → List ℕ
script_text [] = []
script_text (edit ∷ edits) = edit_text edit ++ 10 ∷ script_text edits

-- ## What an edit and a script may be

abbrev pub IsWeight : ℕ → Type 0
IsWeight weight = (1 ≤ weight) × (weight ≤ MOST_WEIGHT)

abbrev pub IsStatementNumber : ℕ → Type 0
IsStatementNumber number = (1 ≤ number) × (number ≤ MOST_STATEMENTS)

-- numbers are in range, and an added statement isn't empty
abbrev pub IsInRange : TheEdit → Type 0
IsInRange (Add weight sql) = IsWeight weight × (1 ≤ length sql)
IsInRange (Remove number) = IsStatementNumber number
IsInRange (Weigh number weight) = IsStatementNumber number × IsWeight weight
IsInRange Advise = Unit {0}

-- it also takes one line
pub record IsEdit (edit : TheEdit) : Type 0 where
  pub range : IsInRange edit
  pub line : All (λ byte. byte ≢ 10) (edit_text edit)

abbrev pub is_advise : TheEdit → Bool
is_advise Advise = true
is_advise edit = false

-- at most 1000 edits, and of these at most 16 that ask for advice
pub record AreEdits (edits : List TheEdit) : Type 0 where
  pub each : All IsEdit edits
  pub lines : length edits ≤ MOST_LINES
  pub advices : count_by is_advise edits ≤ MOST_ADVICES

-- ## What a text is

-- a text is a script, to its end
pub record IsScript (bytes : List ℕ) (edits : List TheEdit) : Type 0 where
  pub text : bytes ≡ script_text edits
  pub limits : AreEdits edits

-- a line, numbered from 1, is the first one that is none of a script: those before it are some edits, something stands behind
-- them, and no edit with which they are edits stands there with its line feed
pub record IsBadLine (bytes : List ℕ) (number : ℕ) : Type 0 where
  pub before : List TheEdit
  pub rest : List ℕ
  pub text : bytes ≡ script_text before ++ rest
  pub limits : AreEdits before
  pub place : number ≡ length before + 1
  pub stands : 1 ≤ length rest
  pub none : (edit : TheEdit) (more : List ℕ) → rest ≡ edit_text edit ++ 10 ∷ more → ¬ (AreEdits (before ++ edit ∷ []))

-- why a text is no script; want of memory may come at any time
abbrev pub IsFault : List ℕ → ScriptFault → Type 0
IsFault bytes (BadLine number) = IsBadLine bytes number
IsFault bytes fault = Unit {0}
