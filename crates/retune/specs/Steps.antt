-- Steps of a session, and why they are refused.
use Rattle.std.specs.Prelude.{◌≡◌, ℕ, ◌+◌, ◌-◌, ◌<◌, ◌≤◌, List, [], ◌∷◌, ◌++◌, length, sum_by, Some, slice_get, slice_set}
use Rattle.std.specs.List.{remove}
use Rattle.adv_base.specs.declared.catalogue.Catalogue.{Catalogue}
use Rattle.adv_base.specs.declared.limits.TheConstants.{MOST_STATEMENTS, MOST_SLOTS_IN_ALL}
use Rattle.adv_base.specs.declared.workload.Statement.{Statement}
use Rattle.adv_base.specs.Limits.Settings.{slot_count}
use Rattle.retune.specs.declared.fault.RetuneFault.{RetuneFault}
use Rattle.retune.specs.declared.fault.RetuneFault.TheVariants.{Memory, NoStatement, TooManyStatements, TooManySlots, TooManyCombinations}
use Rattle.programme_parts.specs.Combinations.{HasFew, IsBeyond, IsFirstBeyond}
use Rattle.retune.specs.Sessions.{TheSession}

-- ## The statements behind a step

-- a statement is added at the end
abbrev pub added : List Statement → Statement → List Statement
added statements statement = statements ++ statement ∷ []

-- the statement of a number is removed, and later ones move down
abbrev pub removed : List Statement → ℕ → List Statement
removed statements number = remove statements (number - 1)

-- the statement of a number has another weight, and nothing else is changed
pub record AreReweighed (before : List Statement) (number weight : ℕ) (after : List Statement) : Type 0 where
  pub old : Statement
  pub new : Statement
  pub found : slice_get before (number - 1) ≡ Some old
  pub weight_is : new.weight ≡ weight
  pub work_is : new.work ≡ old.work
  pub after_is : after ≡ slice_set before (number - 1) new

-- ## Whether a step may be taken

-- there is a statement of the number
abbrev pub IsNumber : List Statement → ℕ → Type 0
IsNumber statements number = (1 ≤ number) × (number ≤ length statements)

abbrev pub slots_in_all : List Statement → ℕ
slots_in_all statements = sum_by (λ statement. slot_count statement.work) statements

-- there is room for a statement, and for its slots
abbrev pub HasRoom : List Statement → Type 0
HasRoom statements = length statements < MOST_STATEMENTS

abbrev pub HasSlots : List Statement → Statement → Type 0
HasSlots statements statement = slots_in_all statements + slot_count statement.work ≤ MOST_SLOTS_IN_ALL

-- a statement may be added
pub record CanTake (session : TheSession) (statement : Statement) : Type 0 where
  pub room : HasRoom session.statements
  pub slots : HasSlots session.statements statement
  pub few : HasFew session.cat statement

-- ## Why it isn't; want of memory may come at any time

-- a session of these statements isn't made
abbrev pub IsNewFault : Catalogue → List Statement → RetuneFault → Type 0
IsNewFault cat statements Memory = Unit {0}
IsNewFault cat statements (TooManyCombinations n count) = IsFirstBeyond cat statements n count
IsNewFault cat statements fault = ⊥

-- a statement isn't added: the first of these faults
abbrev pub IsAddFault : TheSession → Statement → RetuneFault → Type 0
IsAddFault session statement Memory = Unit {0}
IsAddFault session statement TooManyStatements = ¬ (HasRoom session.statements)
IsAddFault session statement TooManySlots = HasRoom session.statements × (¬ (HasSlots session.statements statement))
IsAddFault session statement (TooManyCombinations n count) =
    HasRoom session.statements × HasSlots session.statements statement × (n ≡ length session.statements + 1) × IsBeyond session.cat statement count
IsAddFault session statement (NoStatement n) = ⊥

-- a statement isn't removed
abbrev pub IsNumberFault : TheSession → ℕ → RetuneFault → Type 0
IsNumberFault session number Memory = Unit {0}
IsNumberFault session number (NoStatement n) = (n ≡ number) × (¬ (IsNumber session.statements number))
IsNumberFault session number fault = ⊥
