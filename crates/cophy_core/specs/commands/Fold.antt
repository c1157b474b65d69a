-- What `fold` answers: how many statements a workload has and how many groups of alike ones; and what it puts: a workload that
-- costs the same and has one statement for each group.
use Rattle.std.specs.Prelude.{◌≡◌, ◌↔◌, ℕ, ◌<◌, ◌≤◌, List, [], ◌∷◌, length}
use Rattle.adv_base.specs.declared.limits.TheConstants.{MOST_FILE_BYTES}
use Rattle.adv_base.specs.declared.setting.Config.{Config}
use Rattle.adv_base.specs.Settings.{TheSetting}
use Rattle.binder.specs.Plain.{plain_statements}
use Rattle.plan_model.specs.Totals.{IsTotal, no_candidates}
use Rattle.report.specs.declared.done.Done.{Done}
use Rattle.report.specs.declared.done.Done.TheVariants.{Folded}
use Rattle.report.specs.declared.done.FoldDone.{FoldDone}
use Rattle.report.specs.declared.done.Refusal.{Refusal}
use Rattle.report.specs.declared.done.Refusal.TheVariants.{FoldTooLong}
use Rattle.sql_reader.specs.Workload.{IsWorkload}
use Rattle.sql_reader.specs.declared.parsed.ParsedStatement.{ParsedStatement}
use Rattle.workload_fold.specs.Groups.{Group, groups_of}
use Rattle.workload_fold.specs.ReadingBack.{text_of_groups, statements_of_groups}
use Rattle.cophy_core.specs.Endings.{Put}
use Rattle.cophy_core.specs.Settings.{IsSetting}

-- the groups of alike statements of a setting's workload
abbrev pub the_groups : TheSetting → List Group
the_groups setting = groups_of setting.cat setting.statements

-- the text that has a statement for each of them, made of the text that was read
pub record IsFoldedText (load : List ℕ) (setting : TheSetting) (text : List ℕ) : Type 0 where
  pub parsed : List ParsedStatement
  pub is_workload : IsWorkload load parsed
  pub text_is : text ≡ text_of_groups load parsed (the_groups setting)

-- how many statements there are and how many groups, and what the workload costs without candidates; the text of the groups
-- is no longer than a file may be
pub record IsFolding (load : List ℕ) (setting : TheSetting) (told : FoldDone) : Type 0 where
  pub statements_are : told.statements ≡ length setting.statements
  pub groups_are : told.groups ≡ length (the_groups setting)
  pub total_is : IsTotal setting.cat setting.shapes no_candidates setting.statements told.total
  pub text : List ℕ
  pub text_is : IsFoldedText load setting text
  pub short : length text ≤ MOST_FILE_BYTES

abbrev pub Gives : List ℕ → TheSetting → Done → Type 0
Gives load setting (Folded told) = IsFolding load setting told
Gives load setting done = ⊥

-- the text of the groups has so many bytes, which are too many
pub record IsFoldTooLong (load : List ℕ) (setting : TheSetting) (count : ℕ) : Type 0 where
  pub text : List ℕ
  pub text_is : IsFoldedText load setting text
  pub count_is : count ≡ length text
  pub long : MOST_FILE_BYTES < length text

abbrev pub Refuses : List ℕ → TheSetting → Refusal → Type 0
Refuses load setting (FoldTooLong count) = IsFoldTooLong load setting count
Refuses load setting why = ⊥

-- A text speaks of the whole workload: with the bytes of the catalogue it is a setting of the same catalogue with the same
-- candidates, as many left over; its statements are the groups, and it has the total of the whole under every
-- configuration.
pub record SpeaksOfWhole (cat load : List ℕ) (setting : TheSetting) (text : List ℕ) : Type 0 where
  pub folded : TheSetting
  pub reads : (left_over : ℕ) → IsSetting cat load setting left_over → IsSetting cat text folded left_over
  pub cat_is : folded.cat ≡ setting.cat
  pub shapes_are : folded.shapes ≡ setting.shapes
  pub groups : plain_statements folded.statements ≡ statements_of_groups (the_groups setting)
  pub totals : (config : Config) (total : ℕ) →
      IsTotal setting.cat setting.shapes config setting.statements total ↔ IsTotal folded.cat folded.shapes config folded.statements total

-- that text alone is put, into the file of this name, and it is no longer than a file may be
pub record IsFoldedPut (cat load out : List ℕ) (setting : TheSetting) (puts : List Put) : Type 0 where
  pub text : List ℕ
  pub text_is : IsFoldedText load setting text
  pub short : length text ≤ MOST_FILE_BYTES
  pub speaks : SpeaksOfWhole cat load setting text
  pub puts_are : puts ≡ record { name = out; bytes = text } ∷ []

abbrev pub Puts : List ℕ → List ℕ → List ℕ → TheSetting → Done → List Put → Type 0
Puts cat load out setting (Folded told) puts = IsFoldedPut cat load out setting puts
Puts cat load out setting done puts = puts ≡ []
