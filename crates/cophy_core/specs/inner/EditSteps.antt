-- Parts of what `retune` answers, and why its work stops.
use Rattle.std.specs.Prelude.{◌≡◌, ℕ, Bool, true, false, ◌≤◌, List, [], ◌∷◌, ◌++◌, length}
use Rattle.adv_base.specs.declared.catalogue.Catalogue.{Catalogue}
use Rattle.adv_base.specs.declared.limits.TheConstants.{MOST_FILE_BYTES}
use Rattle.adv_base.specs.declared.workload.Statement.{Statement}
use Rattle.edit_script.specs.Scripts.{TheEdit, Add}
use Rattle.report.specs.declared.done.EditFault.{EditFault}
use Rattle.report.specs.declared.done.EditFault.TheVariants.{NoStatement, TooManyStatements, TooManySlots, TooManyCombinations}
use Rattle.report.specs.declared.done.Refusal.{Refusal}
use Rattle.report.specs.declared.done.Refusal.TheVariants.{Edit}
use Rattle.report.specs.declared.done.Tuned.{Tuned}
use Rattle.report.specs.Texts.{FitsCatalogue}
use Rattle.retune.specs.declared.fault.RetuneFault.{RetuneFault}
use Rattle.retune.specs.declared.fault.RetuneFault.TheVariants as retune
use Rattle.sql_reader.specs.Workload.{IsWorkload}
use Rattle.sql_reader.specs.declared.parsed_text.Parsed.{Parsed}
use Rattle.sql_reader.specs.declared.parsed.ParsedStatement.{ParsedStatement}
use Rattle.cophy_core.specs.commands.Retune.{IsTunedOver}
use Rattle.cophy_core.specs.declared.stop.Stop.{Stop}
use Rattle.cophy_core.specs.declared.stop.Stop.TheVariants.{Memory, Refused}

-- bytes were read as one statement
pub record IsOne (sql : List ℕ) (parsed : Parsed) : Type 0 where
  pub statement : ParsedStatement
  pub statements_are : parsed.statements ≡ statement ∷ []
  pub is_workload : IsWorkload sql (statement ∷ [])
  pub text_is : parsed.text.now ≡ sql

-- a list of one statement, which this is but for its weight
pub record IsReweighed (bound : List Statement) (weight : ℕ) (statement : Statement) : Type 0 where
  pub read : Statement
  pub bound_is : bound ≡ read ∷ []
  pub work_is : statement.work ≡ read.work
  pub weight_is : statement.weight ≡ weight

-- advice on statements is put behind other
pub record IsOneMore (cat : Catalogue) (budget nodes : ℕ) (statements : List Statement) (before after : List Tuned) : Type 0 where
  pub tuned : Tuned
  pub is : IsTunedOver cat budget nodes statements tuned
  pub fits : FitsCatalogue cat tuned
  pub after_is : after ≡ before ++ tuned ∷ []

-- where an edit asks for it; else nothing is put
abbrev pub IsTold : Catalogue → ℕ → ℕ → List Statement → Bool → List Tuned → List Tuned → Type 0
IsTold cat budget nodes statements true before after = IsOneMore cat budget nodes statements before after
IsTold cat budget nodes statements false before after = after ≡ before

-- an edit is refused whose line and fault have P
abbrev pub OfEdit : (ℕ → EditFault → Type 0) → Refusal → Type 0
OfEdit P (Edit line fault) = P line fault
OfEdit P why = ⊥

-- so it is with the edit on this line
abbrev pub OnLine : ℕ → (EditFault → Type 0) → Refusal → Type 0
OnLine line P why = OfEdit (λ at fault. (at ≡ line) × P fault) why

-- the stop where a session doesn't take the edit on a line
abbrev pub IsStepStop : ℕ → RetuneFault → Stop → Type 0
IsStepStop line retune.Memory stop = stop ≡ Memory
IsStepStop line (retune.NoStatement n) stop = stop ≡ Refused (Edit line (NoStatement n))
IsStepStop line retune.TooManyStatements stop = stop ≡ Refused (Edit line TooManyStatements)
IsStepStop line retune.TooManySlots stop = stop ≡ Refused (Edit line TooManySlots)
IsStepStop line (retune.TooManyCombinations n count) stop = stop ≡ Refused (Edit line (TooManyCombinations n count))

-- an added text is no longer than a file
abbrev pub IsShort : TheEdit → Type 0
IsShort (Add weight sql) = length sql ≤ MOST_FILE_BYTES
IsShort edit = Unit {0}
