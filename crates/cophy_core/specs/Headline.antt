-- What advice promises.
--
-- For every accepted catalogue, workload, space budget and node budget, `advise` prints a fitting set of candidate indexes
-- with its exact cost, the weighted sum of least plan costs and index upkeep, and a bound that no fitting candidate set
-- undercuts; it writes, where asked, a certificate that `check` accepts through the planner alone; and cost equals bound
-- unless the node budget, smaller than 2^(m+1) - 1, was spent. m is how many candidates are useful.
use Rattle.std.specs.Prelude.{◌≡◌, ◌≢◌, ℕ, ◌+◌, ◌-◌, ◌^◌, ◌<◌, ◌⊎◌, List, [], ◌∷◌, length, Option, Some, None, pos, ◌<ℤ◌}
use Rattle.adv_base.specs.declared.limits.TheConstants.{MOST_FILE_BYTES}
use Rattle.adv_base.specs.declared.setting.Config.{Config}
use Rattle.adv_base.specs.Configs.{IsConfigOf, Fits}
use Rattle.adv_base.specs.Settings.{TheSetting}
use Rattle.adv_shelf.specs.Shelf.{Files, put_file}
use Rattle.adv_shelf.specs.Sink.{append_to}
use Rattle.bip_model.specs.declared.answer.Answer.{Answer}
use Rattle.plan_model.specs.Lagrangian.{IsAtMost}
use Rattle.plan_model.specs.Totals.{IsTotal}
use Rattle.plan_model.specs.Useful.{AreUseful}
use Rattle.report.specs.declared.done.Advice.{Advice}
use Rattle.report.specs.declared.done.Done.{Done}
use Rattle.report.specs.declared.done.Done.TheVariants.{Advised, Checked}
use Rattle.report.specs.declared.done.Refusal.{Refusal}
use Rattle.report.specs.declared.done.Role.TheVariants.{Catalogue, Workload}
use Rattle.report.specs.Texts.{done_text}
use Rattle.programme_parts.specs.Combinations.{AreFew}
use Rattle.cophy_core.specs.commands.Advise.{IsAdvice, IsCertificateOf}
use Rattle.cophy_core.specs.commands.Check as check
use Rattle.cophy_core.specs.Answers.{Answers}
use Rattle.cophy_core.specs.Endings.{Outside}
use Rattle.cophy_core.specs.Files.{IsInput, AreInputs, input_file, setting_files}
use Rattle.command_line.specs.CommandLine.{PlainCommand, Advise, Check}
use Rattle.cophy_core.specs.Settings.{IsSetting, IsSettingRefusal}

-- what advice is asked with: the names of the files of a catalogue and a workload, a budget of pages, a budget of nodes, and
-- the name of a file for the certificate
pub record Asked : Type 0 where
  pub cat : List ℕ
  pub load : List ℕ
  pub budget : ℕ
  pub nodes : ℕ
  pub cert : Option (List ℕ)

abbrev pub asked_command : Asked → PlainCommand
asked_command asked = Advise asked.cat asked.load asked.budget asked.nodes asked.cert

-- ## Accepted

-- Both files are there, and no longer than their limit; they are refused neither as a catalogue nor as a workload over it; and
-- no block of the setting that they are has more combinations of interesting orders than a cache of plans takes.
pub record IsAccepted (files : Files) (asked : Asked) : Type 0 where
  pub cat_bytes : List ℕ
  pub load_bytes : List ℕ
  pub cat_is : IsInput (Some files) (input_file Catalogue asked.cat MOST_FILE_BYTES) cat_bytes
  pub load_is : IsInput (Some files) (input_file Workload asked.load MOST_FILE_BYTES) load_bytes
  pub is_setting : (why : Refusal) → ¬ (IsSettingRefusal cat_bytes load_bytes why)
  pub few : (setting : TheSetting) (left_over : ℕ) → IsSetting cat_bytes load_bytes setting left_over → AreFew setting.cat setting.statements

-- ## What is printed

-- A set of candidate indexes that fits, its exact cost, and a bound that no fitting set undercuts. The total of a set is the
-- sum, over the statements, of weight times the cost of a least plan and the upkeep of all indexes.
pub record IsPriced (setting : TheSetting) (budget : ℕ) (answer : Answer) : Type 0 where
  pub candidates : IsConfigOf setting.shapes answer.config
  pub fits : Fits setting.cat setting.shapes answer.config budget
  pub cost_is : IsTotal setting.cat setting.shapes answer.config setting.statements answer.cost
  pub bound : (other : Config) (total : ℕ) → IsConfigOf setting.shapes other → Fits setting.cat setting.shapes other budget →
      IsTotal setting.cat setting.shapes other setting.statements total → IsAtMost answer.bound total

-- The node budget was spent: the tree has so many nodes or one less, since a branch adds two; and the budget is smaller than a
-- whole tree over the useful candidates.
pub record IsSpent (setting : TheSetting) (budget nodes : ℕ) (answer : Answer) : Type 0 where
  pub gap : answer.bound <ℤ pos answer.cost
  pub made : (length answer.tree ≡ nodes) ⊎ (length answer.tree + 1 ≡ nodes)
  pub useful : AreUseful setting budget answer.useful
  pub fewer : nodes < 2 ^ (answer.useful + 1) - 1

-- cost equals bound, or the node budget was spent; and so says the status
abbrev pub IsEnd : TheSetting → ℕ → ℕ → Answer → ℕ → Type 0
IsEnd setting budget nodes answer status =
    ((answer.bound ≡ pos answer.cost) × (status ≡ 0)) ⊎ (IsSpent setting budget nodes answer × (status ≡ 1))

-- ## What is written

-- what `check` says of the certificate of an answer
abbrev pub proved : Asked → Answer → Done
proved asked answer = Checked (record { budget = asked.budget; cost = answer.cost; bound = answer.bound })

-- The file holds the certificate of the answer, and every other file is as it was. Unless it took the place of the catalogue
-- or the workload, `check` of these files and that one finds the budget, the cost and the bound proved, and nothing else.
pub record IsCertified (setting : TheSetting) (files : Files) (asked : Asked) (file : List ℕ) (answer : Answer) (after : Option Files) : Type 0 where
  pub bytes : List ℕ
  pub certificate_is : IsCertificateOf setting asked.budget answer bytes
  pub files_are : after ≡ put_file (Some files) file bytes
  pub accepted : file ≢ asked.cat → file ≢ asked.load → Answers (Check asked.cat asked.load file) after (proved asked answer)
  pub alone : file ≢ asked.cat → file ≢ asked.load → (done : Done) → Answers (Check asked.cat asked.load file) after done → done ≡ proved asked answer
  pub nothing_else : (done : Done) → check.Gives bytes setting done → done ≡ proved asked answer

-- where a file is named for it; else no file changes
abbrev pub Certifies : Option (List ℕ) → TheSetting → Files → Asked → Answer → Option Files → Type 0
Certifies (Some file) setting files asked answer after = IsCertified setting files asked file answer after
Certifies None setting files asked answer after = after ≡ Some files

-- ## The whole

-- what a run with these words finds, leaves and answers, with this status
pub record Headline (words : List (List ℕ)) (files : Files) (asked : Asked) (before after : Outside) (status : ℕ) (done : Done) : Type 0 where
  pub cat_bytes : List ℕ
  pub load_bytes : List ℕ
  pub setting : TheSetting
  pub left_over : ℕ
  pub inputs_are : AreInputs (Some files) (setting_files asked.cat asked.load) (cat_bytes ∷ load_bytes ∷ [])
  pub setting_is : IsSetting cat_bytes load_bytes setting left_over
  pub advice : Advice
  pub done_is : done ≡ Advised advice
  pub advice_is : IsAdvice asked.budget asked.nodes setting advice
  pub printed : after.written ≡ append_to before.written (done_text words (Some setting) (Advised advice))
  pub bounded : IsPriced setting asked.budget advice.answer
  pub ended : IsEnd setting asked.budget asked.nodes advice.answer status
  pub certified : Certifies asked.cert setting files asked advice.answer after.files
