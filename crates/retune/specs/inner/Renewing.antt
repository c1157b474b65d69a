-- Parts that are made anew, because candidates on their tables have changed.
use Rattle.std.specs.Prelude.{◌≡◌, ℕ, ◌+◌, ◌<◌, Bool, true, false, List, [], ◌∷◌, ◌++◌, ◌-◌, ◌≤◌, length, map, take, drop, filter, not, ◌==◌, All, Option, Some, None, slice_get, slice_index_or, slice_set, nat_lt, if◌then◌else◌}
use Rattle.adv_base.specs.declared.catalogue.index.IndexShape.{IndexShape}
use Rattle.adv_base.specs.declared.limits.TheConstants.{MOST_CANDIDATES, MOST_TABLES}
use Rattle.adv_base.specs.declared.workload.Statement.{Statement}
use Rattle.adv_base.specs.declared.workload.block.Block.{Block}
use Rattle.adv_base.specs.Settings.{TheSetting}
use Rattle.bip_model.specs.declared.grant.Grant.{Grant}
use Rattle.bip_model.specs.declared.slot_part.SlotPart.{SlotPart}
use Rattle.bip_model.specs.declared.part.Part.{Part}
use Rattle.bip_model.specs.StandsFor.{AreEach, Blocked, IsPart, blocked_from, candidates_on}
use Rattle.plan_model.specs.Totals.{block_of}
use Rattle.programme_parts.specs.Kept.{HasKept}
use Rattle.programme_parts.specs.Parts.{blocked}
use Rattle.retune.specs.declared.tables.Changed.{Changed}

-- a table is among those whose candidates have changed; one that no catalogue has counts as such
abbrev pub has_changed : Changed → ℕ → Bool
has_changed changed t = if nat_lt t MOST_TABLES then slice_index_or changed.on t false else true

-- no slot of a block is on one of them
abbrev pub IsUntouched : Changed → Block → Type 0
IsUntouched changed block = All (λ slot. has_changed changed slot.table ≡ false) block.slots

-- the part of a statement that has a block, with the templates that are kept
pub record IsWhole (setting : TheSetting) (own : Blocked) (part : Part) : Type 0 where
  pub is : IsPart setting own part
  pub kept : HasKept setting.cat own part

-- so it is where the statement at a place has one, and else there is none
abbrev pub IsOwnPart : TheSetting → ℕ → ℕ → Option Block → Option Part → Type 0
IsOwnPart setting at weight None None = Unit {0}
IsOwnPart setting at weight (Some block) (Some part) = IsWhole setting (blocked (at + 1) weight block) part
IsOwnPart setting at weight there own = ⊥

pub record IsPartAt (setting : TheSetting) (at : ℕ) (own : Option Part) : Type 0 where
  pub statement : Statement
  pub found : slice_get setting.statements at ≡ Some statement
  pub is : IsOwnPart setting at statement.weight (block_of statement.work) own

-- a part that is made anew; none where nothing on its tables has changed
abbrev pub IsRenewed : TheSetting → Changed → Blocked → Option Part → Type 0
IsRenewed setting changed own (Some part) = IsWhole setting own part
IsRenewed setting changed own None = IsUntouched changed own.block

-- those of the first k statements
abbrev pub AreRenewed : TheSetting → Changed → ℕ → List (Option Part) → Type 0
AreRenewed setting changed k list = AreEach (IsRenewed setting changed) (blocked_from 1 (take k setting.statements)) list

-- a part that is made anew; none where none of some shapes is on its tables
abbrev pub IsRenewedAt : TheSetting → List IndexShape → Blocked → Option Part → Type 0
IsRenewedAt setting fresh own (Some part) = IsWhole setting own part
IsRenewedAt setting fresh own None = All (λ slot. candidates_on fresh slot.table ≡ []) own.block.slots

-- those of the first k statements where some shapes have come to the candidates; nothing at all where none has
abbrev pub IsRenewedBy : TheSetting → List IndexShape → ℕ → List (Option Part) → Type 0
IsRenewedBy setting [] k list = list ≡ []
IsRenewedBy setting (shape ∷ fresh) k list = AreEach (IsRenewedAt setting (shape ∷ fresh)) (blocked_from 1 (take k setting.statements)) list

-- a part put over another
abbrev pub put_one : Option Part → ℕ → List Part → List Part
put_one None at parts = parts
put_one (Some part) at parts = slice_set parts at part

-- parts put over others
abbrev pub put_over : List (Option Part) → List Part → List Part
put_over [] parts = parts
put_over renewed [] = []
put_over (Some part ∷ renewed) (old ∷ parts) = part ∷ put_over renewed parts
put_over (None ∷ renewed) (old ∷ parts) = old ∷ put_over renewed parts

-- ## One statement less

-- a setting with other candidates
abbrev pub with_shapes : TheSetting → List IndexShape → TheSetting
with_shapes setting shapes = record { cat = setting.cat; statements = setting.statements; shapes = shapes }

-- a setting without its last statement, and with its first n candidates
abbrev pub all_but_last : TheSetting → ℕ → TheSetting
all_but_last setting n = record { cat = setting.cat; statements = take (length setting.statements - 1) setting.statements; shapes = take n setting.shapes }

-- statements with one more at a place
abbrev pub with_one : List Statement → ℕ → Statement → List Statement
with_one statements at statement = take at statements ++ statement ∷ drop at statements

-- a setting with one statement more, and with other candidates
abbrev pub setting_with : TheSetting → ℕ → Statement → List IndexShape → TheSetting
setting_with setting at statement shapes = record { cat = setting.cat; statements = with_one setting.statements at statement; shapes = shapes }

-- ## Numbers

-- the number of a candidate
pub record IsCandidate (n : ℕ) : Type 0 where
  pub least : 1 ≤ n
  pub most : n ≤ MOST_CANDIDATES

-- The candidates on a table are the same shapes in the same sequence, and these are their new numbers by the old ones.
abbrev pub IsRenumbering : (ℕ → ℕ) → List IndexShape → List IndexShape → ℕ → Type 0
IsRenumbering number old new t = map (λ n. (number n.0, n.1)) (candidates_on old t) ≡ candidates_on new t

pub record IsGrantBehind (number : ℕ → ℕ) (old new : Grant) : Type 0 where
  pub candidate_is : new.candidate ≡ number old.candidate
  pub prices_are : new.prices ≡ old.prices

pub record IsSlotBehind (number : ℕ → ℕ) (old new : SlotPart) : Type 0 where
  pub base_is : new.base ≡ old.base
  pub grants_are : AreEach (IsGrantBehind number) old.grants new.grants

-- the number of a statement where one has gone
abbrev pub number_without : ℕ → ℕ → ℕ
number_without gone number = if nat_lt gone number then number - 1 else number

-- a part whose statement has a number and whose candidates have others than before
pub record IsPartBehind (statement : ℕ) (number : ℕ → ℕ) (old new : Part) : Type 0 where
  pub statement_is : new.statement ≡ statement
  pub weight_is : new.weight ≡ old.weight
  pub templates_are : new.templates ≡ old.templates
  pub slots_are : AreEach (IsSlotBehind number) old.slots new.slots

-- parts without that of the statement of a number
abbrev pub without_part : ℕ → List Part → List Part
without_part gone parts = filter (λ part. not (part.statement == gone)) parts

-- a part that is made anew, or the old one with other numbers
abbrev pub IsPutBehind : ℕ → (ℕ → ℕ) → Option Part → Part → Part → Type 0
IsPutBehind gone number (Some part) old new = new ≡ part
IsPutBehind gone number None old new = IsPartBehind (number_without gone old.statement) number old new

-- so it is at a place, and the others stay
pub record IsPutAt (gone : ℕ) (number : ℕ → ℕ) (own : Option Part) (at : ℕ) (olds news : List Part) : Type 0 where
  pub part : Part
  pub is : (d : Part) → IsPutBehind gone number own (slice_index_or olds at d) part
  pub others : news ≡ slice_set olds at part

abbrev pub ArePutBehind : ℕ → (ℕ → ℕ) → List (Option Part) → List Part → List Part → Type 0
ArePutBehind gone number [] olds news = news ≡ olds
ArePutBehind gone number (own ∷ renewed) (old ∷ olds) (new ∷ news) = IsPutBehind gone number own old new × ArePutBehind gone number renewed olds news
ArePutBehind gone number renewed olds news = ⊥
