-- What `retune` answers: advice wherever a script asks for it, over the statements that its edits have made so far.
use Rattle.std.specs.Prelude.{◌≡◌, ◌≢◌, ◌⊎◌, ℕ, suc, ◌+◌, List, [], ◌∷◌, length, Ok, Err}
use Rattle.adv_base.specs.declared.catalogue.Catalogue.{Catalogue}
use Rattle.adv_base.specs.declared.workload.Statement.{Statement}
use Rattle.adv_base.specs.Settings.{TheSetting}
use Rattle.binder.specs.Plain.{plain_statements}
use Rattle.binder.specs.Statements.{statements_of}
use Rattle.binder.specs.declared.fault.BindFault.{BindFault}
use Rattle.binder.specs.declared.fault.BindFault.TheVariants as bind
use Rattle.candidates.specs.Candidates.{AreCandidates}
use Rattle.edit_script.specs.Scripts.{TheEdit, Add, Remove, Weigh, Advise, IsScript, IsBadLine}
use Rattle.report.specs.declared.done.Done.{Done}
use Rattle.report.specs.declared.done.Done.TheVariants.{Retuned}
use Rattle.report.specs.declared.done.EditFault.{EditFault}
use Rattle.report.specs.declared.done.EditFault.TheVariants.{BadLine, Sql, Bind, NoStatement, TooManyStatements, TooManySlots, TooManyCombinations}
use Rattle.report.specs.declared.done.Refusal.{Refusal}
use Rattle.report.specs.declared.done.Refusal.TheVariants.{Edit, TooManyCombinations as TooManyOfWorkload}
use Rattle.report.specs.declared.done.Tuned.{Tuned}
use Rattle.retune.specs.Steps.{added, removed, AreReweighed, IsNumber, HasRoom, HasSlots}
use Rattle.programme_parts.specs.Combinations.{AreFew, HasFew, IsBeyond, IsFirstBeyond}
use Rattle.sql_reader.specs.Workload.{IsWorkload, HasSqlFault}
use Rattle.sql_reader.specs.declared.parsed.ParsedStatement.{ParsedStatement}
use Rattle.cophy_core.specs.commands.Advise.{IsAdvice}

-- ## How an edit changes the statements

-- bytes are one statement, which means this one, but for its weight
pub record IsAddition (cat : Catalogue) (weight : ℕ) (sql : List ℕ) (statement : Statement) : Type 0 where
  pub parsed : ParsedStatement
  pub is_workload : IsWorkload sql (parsed ∷ [])
  pub read : Statement
  pub bound : statements_of cat sql (parsed ∷ []) ≡ Ok (plain_statements (read ∷ []))
  pub work_is : statement.work ≡ read.work
  pub weight_is : statement.weight ≡ weight

-- there is room for it and for its slots, it has few enough combinations, and it becomes the last one
pub record IsAdded (cat : Catalogue) (before : List Statement) (weight : ℕ) (sql : List ℕ) (after : List Statement) : Type 0 where
  pub statement : Statement
  pub addition : IsAddition cat weight sql statement
  pub room : HasRoom before
  pub slots : HasSlots before statement
  pub few : HasFew cat statement
  pub after_is : after ≡ added before statement

-- an edit is taken, and this is what the statements are then
abbrev pub IsTaken : Catalogue → List Statement → TheEdit → List Statement → Type 0
IsTaken cat before (Add weight sql) after = IsAdded cat before weight sql after
IsTaken cat before (Remove number) after = IsNumber before number × (after ≡ removed before number)
IsTaken cat before (Weigh number weight) after = IsNumber before number × AreReweighed before number weight after
IsTaken cat before Advise after = after ≡ before

-- ## What is answered

-- the candidates that the statements propose, and advice over these
pub record IsTunedOver (cat : Catalogue) (budget nodes : ℕ) (statements : List Statement) (tuned : Tuned) : Type 0 where
  pub candidates_are : AreCandidates cat statements tuned.shapes tuned.advice.left_over
  pub advice_is : IsAdvice budget nodes (record { cat = cat; statements = statements; shapes = tuned.shapes }) tuned.advice

-- each edit is taken in turn, and there is such advice for each that asks for it
abbrev pub AreTunedOver : Catalogue → ℕ → ℕ → List Statement → List TheEdit → List Tuned → Type 0
AreTunedOver cat budget nodes statements [] tuned = tuned ≡ []
AreTunedOver cat budget nodes statements (Advise ∷ edits) [] = ⊥
AreTunedOver cat budget nodes statements (Advise ∷ edits) (first ∷ tuned) =
    IsTunedOver cat budget nodes statements first × AreTunedOver cat budget nodes statements edits tuned
AreTunedOver cat budget nodes statements (edit ∷ edits) tuned =
    (after : List Statement) × IsTaken cat statements edit after × AreTunedOver cat budget nodes after edits tuned

-- the bytes are a script, the workload's statements have few enough combinations, and the script's edits are taken
pub record IsRetuned (budget nodes : ℕ) (script : List ℕ) (setting : TheSetting) (tuned : List Tuned) : Type 0 where
  pub edits : List TheEdit
  pub script_is : IsScript script edits
  pub few : AreFew setting.cat setting.statements
  pub tuned_are : AreTunedOver setting.cat budget nodes setting.statements edits tuned

abbrev pub Gives : ℕ → ℕ → List ℕ → TheSetting → Done → Type 0
Gives budget nodes script setting (Retuned tuned) = IsRetuned budget nodes script setting tuned
Gives budget nodes script setting done = ⊥

-- ## Refusals

-- bytes are some other number of statements
pub record AreNotOne (sql : List ℕ) : Type 0 where
  pub parsed : List ParsedStatement
  pub is_workload : IsWorkload sql parsed
  pub count : length parsed ≢ 1

-- they are one, and this is the first fault of its names
pub record IsMisnamed (cat : Catalogue) (sql : List ℕ) (fault : BindFault) : Type 0 where
  pub parsed : ParsedStatement
  pub is_workload : IsWorkload sql (parsed ∷ [])
  pub no_memory : fault ≢ bind.Memory
  pub first : statements_of cat sql (parsed ∷ []) ≡ Err fault

-- they are one with too many combinations, though there is room for it and its slots
pub record HasTooManyCombinations (cat : Catalogue) (before : List Statement) (weight : ℕ) (sql : List ℕ) (n count : ℕ) : Type 0 where
  pub statement : Statement
  pub addition : IsAddition cat weight sql statement
  pub room : HasRoom before
  pub slots : HasSlots before statement
  pub number_is : n ≡ length before + 1
  pub beyond : IsBeyond cat statement count

-- they are one, there is room for it, but not for its slots
pub record HasTooManySlots (cat : Catalogue) (before : List Statement) (weight : ℕ) (sql : List ℕ) : Type 0 where
  pub statement : Statement
  pub addition : IsAddition cat weight sql statement
  pub room : HasRoom before
  pub slots : ¬ (HasSlots before statement)

-- they are one, for which there is no room
pub record IsOneTooMany (cat : Catalogue) (before : List Statement) (weight : ℕ) (sql : List ℕ) : Type 0 where
  pub statement : Statement
  pub addition : IsAddition cat weight sql statement
  pub room : ¬ (HasRoom before)

-- why bytes aren't added with a weight, first
abbrev pub IsAdditionFault : Catalogue → List Statement → ℕ → List ℕ → EditFault → Type 0
IsAdditionFault cat before weight sql (Sql fault) = HasSqlFault sql fault
IsAdditionFault cat before weight sql BadLine = AreNotOne sql
IsAdditionFault cat before weight sql (Bind fault) = IsMisnamed cat sql fault
IsAdditionFault cat before weight sql TooManyStatements = IsOneTooMany cat before weight sql
IsAdditionFault cat before weight sql TooManySlots = HasTooManySlots cat before weight sql
IsAdditionFault cat before weight sql (TooManyCombinations n count) = HasTooManyCombinations cat before weight sql n count
IsAdditionFault cat before weight sql (NoStatement n) = ⊥

-- there is no statement of a number
abbrev pub IsMissing : List Statement → ℕ → EditFault → Type 0
IsMissing before number (NoStatement n) = (n ≡ number) × (¬ (IsNumber before number))
IsMissing before number fault = ⊥

-- why an edit isn't taken
abbrev pub IsEditFault : Catalogue → List Statement → TheEdit → EditFault → Type 0
IsEditFault cat before (Add weight sql) fault = IsAdditionFault cat before weight sql fault
IsEditFault cat before (Remove number) fault = IsMissing before number fault
IsEditFault cat before (Weigh number weight) fault = IsMissing before number fault
IsEditFault cat before Advise fault = ⊥

-- Of edits on lines from a number on, the one on this line is the first that isn't taken, for this fault.
abbrev pub IsFirstFault : Catalogue → List Statement → ℕ → List TheEdit → ℕ → EditFault → Type 0
IsFirstFault cat statements number [] line fault = ⊥
IsFirstFault cat statements number (edit ∷ edits) line fault =
    ((line ≡ number) × IsEditFault cat statements edit fault)
    ⊎ ((after : List Statement) × IsTaken cat statements edit after × IsFirstFault cat after (suc number) edits line fault)

-- the bytes are a script, the workload's statements have few enough combinations, and so it is with the script's edits
pub record IsUntaken (script : List ℕ) (setting : TheSetting) (line : ℕ) (fault : EditFault) : Type 0 where
  pub edits : List TheEdit
  pub script_is : IsScript script edits
  pub few : AreFew setting.cat setting.statements
  pub first : IsFirstFault setting.cat setting.statements 1 edits line fault

-- the bytes are a script, and this is the workload's first statement with more combinations than a cache of plans takes
pub record HasTooManyInWorkload (script : List ℕ) (setting : TheSetting) (n count : ℕ) : Type 0 where
  pub edits : List TheEdit
  pub script_is : IsScript script edits
  pub first : IsFirstBeyond setting.cat setting.statements n count

-- a bad line of the script comes first, then the workload's combinations, then the edits in their order
abbrev pub Refuses : List ℕ → TheSetting → Refusal → Type 0
Refuses script setting (Edit line BadLine) = IsBadLine script line ⊎ IsUntaken script setting line BadLine
Refuses script setting (Edit line fault) = IsUntaken script setting line fault
Refuses script setting (TooManyOfWorkload n count) = HasTooManyInWorkload script setting n count
Refuses script setting why = ⊥
