-- What `advise` answers: which candidates to make within a budget of pages.
use Rattle.std.specs.Prelude.{◌≡◌, ℕ, ◌-◌, List, [], ◌∷◌, length, Option, Some, None}
use Rattle.adv_base.specs.declared.limits.TheConstants.{MOST_CANDIDATES}
use Rattle.adv_base.specs.Settings.{TheSetting}
use Rattle.bip_model.specs.declared.answer.Answer.{Answer}
use Rattle.bip_model.specs.declared.programme.Programme.{Programme}
use Rattle.adv_base.specs.Nodes as nodes
use Rattle.bip_model.specs.Best.{IsBest}
use Rattle.bip_model.specs.Laws.{BoundsAll}
use Rattle.bip_model.specs.Proves.{free_node}
use Rattle.gap_checker.specs.At.{BoundsBelow}
use Rattle.bip_model.specs.StandsFor.{StandsFor}
use Rattle.candidates.specs.Candidates as candidates
use Rattle.certificate.specs.Answers.{answer_cert, version_of}
use Rattle.certificate.specs.Certificates.{IsCertificate}
use Rattle.programme_parts.specs.Combinations.{AreFew}
use Rattle.report.specs.declared.done.Advice.{Advice}
use Rattle.report.specs.declared.done.Done.{Done}
use Rattle.report.specs.declared.done.Done.TheVariants.{Advised}
use Rattle.cophy_core.specs.Endings.{Put}

-- Each statement has few enough combinations. The answer is best under both budgets, from a root: its configuration fits, is
-- below the root and costs what is told, and no configuration that fits and is below the root costs less than the bound. The
-- configuration has a flag for each candidate that there may be.
pub record IsAdviceFrom (root : nodes.Node) (budget nodes : ℕ) (setting : TheSetting) (advice : Advice) : Type 0 where
  pub budget_is : advice.budget ≡ budget
  pub nodes_is : advice.nodes ≡ nodes
  pub left_over_is : advice.left_over ≡ length (candidates.fresh_proposals setting.cat setting.statements) - MOST_CANDIDATES
  pub few : AreFew setting.cat setting.statements
  pub flags : length advice.answer.config.on ≡ MOST_CANDIDATES
  pub best : IsBest setting budget nodes root advice.answer
  pub bounds : BoundsBelow setting root budget advice.answer.bound

-- The same from a root that leaves each candidate free, below which every configuration is: no configuration that fits costs less
-- than the bound.
pub record IsAdvice (budget nodes : ℕ) (setting : TheSetting) (advice : Advice) : Type 0 where
  pub budget_is : advice.budget ≡ budget
  pub nodes_is : advice.nodes ≡ nodes
  pub left_over_is : advice.left_over ≡ length (candidates.fresh_proposals setting.cat setting.statements) - MOST_CANDIDATES
  pub few : AreFew setting.cat setting.statements
  pub flags : length advice.answer.config.on ≡ MOST_CANDIDATES
  pub best : IsBest setting budget nodes free_node advice.answer
  pub bounds : BoundsAll setting budget advice.answer.cost advice.answer.bound

-- advice
abbrev pub Gives : ℕ → ℕ → TheSetting → Done → Type 0
Gives budget nodes setting (Advised advice) = IsAdvice budget nodes setting advice
Gives budget nodes setting done = ⊥

-- The text of an answer's certificate: its version, which is 2 where a candidate is clustered, the budget, the answer's
-- configuration, cost, bound, sets of multipliers and tree. The sets name the places of the grants of a programme that stands
-- for the setting.
pub record IsCertificateOf (setting : TheSetting) (budget : ℕ) (answer : Answer) (bytes : List ℕ) : Type 0 where
  pub programme : Programme
  pub stands : StandsFor setting programme
  pub is_text : IsCertificate bytes (answer_cert programme (version_of setting.shapes) budget answer)

-- that text alone is put, into this file
pub record IsCertificatePut (setting : TheSetting) (budget : ℕ) (answer : Answer) (file : List ℕ) (puts : List Put) : Type 0 where
  pub bytes : List ℕ
  pub certificate_is : IsCertificateOf setting budget answer bytes
  pub puts_are : puts ≡ record { name = file; bytes = bytes } ∷ []

-- where a file is named for it; else nothing is put
abbrev pub PutsFor : Option (List ℕ) → TheSetting → ℕ → Answer → List Put → Type 0
PutsFor (Some file) setting budget answer puts = IsCertificatePut setting budget answer file puts
PutsFor None setting budget answer puts = puts ≡ []

-- so it is with advice; for no other answer a file is put
abbrev pub Puts : Option (List ℕ) → TheSetting → Done → List Put → Type 0
Puts cert setting (Advised advice) puts = PutsFor cert setting advice.budget advice.answer puts
Puts cert setting done puts = puts ≡ []
