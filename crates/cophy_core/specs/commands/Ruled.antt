-- What `ruled` answers: which candidates to make within a budget of pages, where an administrator's rules say that some have
-- to be, and that others never may.
use Rattle.std.specs.Prelude.{◌≡◌, ◌≢◌, ◌⊎◌, ℕ, List, [], count_by, Option, Ok, Err}
use Rattle.adv_base.specs.Configs.{Fits}
use Rattle.adv_base.specs.Settings.{TheSetting}
use Rattle.bip_model.specs.declared.fix.Fix.{Fix}
use Rattle.bip_model.specs.Views.{node_of, is_in, is_out}
use Rattle.dba_rules.specs.declared.fault.RuleFault.{RuleFault}
use Rattle.dba_rules.specs.declared.fault.RuleFault.TheVariants as faults
use Rattle.dba_rules.specs.Rules.{root_of}
use Rattle.dba_rules.specs.Settled.{IsFault}
use Rattle.programme_parts.specs.Combinations.{IsFirstBeyond}
use Rattle.report.specs.declared.done.Done.{Done}
use Rattle.report.specs.declared.done.Done.TheVariants.{Ruled as RuledDone}
use Rattle.report.specs.declared.done.Refusal.{Refusal}
use Rattle.report.specs.declared.done.Refusal.TheVariants.{Rules, TooManyCombinations}
use Rattle.report.specs.declared.done.Ruled.{Ruled}
use Rattle.cophy_core.specs.Endings.{Put}
use Rattle.cophy_core.specs.commands.Advise.{IsAdviceFrom, PutsFor}

-- the rules of a text make a root, and what has to be there fits the budget: a search can start from it
pub record IsRootOf (setting : TheSetting) (rules : List ℕ) (budget : ℕ) (root : Fix) : Type 0 where
  pub root_is : root_of setting rules ≡ Ok root
  pub fits : Fits setting.cat setting.shapes (node_of root).inside budget

-- advice from that root, with how many candidates the rules make in, and how many out
pub record IsRuled (budget nodes : ℕ) (rules : List ℕ) (setting : TheSetting) (ruled : Ruled) : Type 0 where
  pub root : Fix
  pub root_is : IsRootOf setting rules budget root
  pub must_is : ruled.must ≡ count_by is_in root.state
  pub never_is : ruled.never ≡ count_by is_out root.state
  pub advice_is : IsAdviceFrom (node_of root) budget nodes setting ruled.advice

abbrev pub Gives : ℕ → ℕ → List ℕ → TheSetting → Done → Type 0
Gives budget nodes rules setting (RuledDone ruled) = IsRuled budget nodes rules setting ruled
Gives budget nodes rules setting done = ⊥

-- the certificate of the answer is put where a file is named for it; for no other answer a file is put
abbrev pub Puts : Option (List ℕ) → TheSetting → Done → List Put → Type 0
Puts cert setting (RuledDone ruled) puts = PutsFor cert setting ruled.advice.budget ruled.advice.answer puts
Puts cert setting done puts = puts ≡ []

-- ## Refusals

-- the rules make a root, and what has to be can't be within the budget
pub record IsUnsettled (setting : TheSetting) (rules : List ℕ) (budget : ℕ) (fault : RuleFault) : Type 0 where
  pub root : Fix
  pub root_is : root_of setting rules ≡ Ok root
  pub fault_is : IsFault setting (node_of root).inside budget fault

-- the first fault of the rules, or else of what has to be
pub record HasRuleFault (setting : TheSetting) (rules : List ℕ) (budget : ℕ) (fault : RuleFault) : Type 0 where
  pub no_memory : fault ≢ faults.Memory
  pub first : (root_of setting rules ≡ Err fault) ⊎ IsUnsettled setting rules budget fault

-- the rules have none, and this is the first statement with more combinations than a cache of plans takes
pub record IsBeyond (setting : TheSetting) (rules : List ℕ) (budget number count : ℕ) : Type 0 where
  pub root : Fix
  pub root_is : IsRootOf setting rules budget root
  pub first : IsFirstBeyond setting.cat setting.statements number count

abbrev pub Refuses : ℕ → List ℕ → TheSetting → Refusal → Type 0
Refuses budget rules setting (Rules fault) = HasRuleFault setting rules budget fault
Refuses budget rules setting (TooManyCombinations number count) = IsBeyond setting rules budget number count
Refuses budget rules setting why = ⊥
