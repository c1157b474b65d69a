-- What `check-ruled` answers: what a certificate proves below the root that an administrator's rules make, or the first place at
-- which it proves nothing.
use Rattle.std.specs.Prelude.{◌≡◌, ◌≢◌, ℕ, List, Ok, Err}
use Rattle.adv_base.specs.Settings.{TheSetting}
use Rattle.bip_model.specs.declared.fix.Fix.{Fix}
use Rattle.bip_model.specs.Views.{node_of}
use Rattle.dba_rules.specs.declared.fault.RuleFault.{RuleFault}
use Rattle.dba_rules.specs.declared.fault.RuleFault.TheVariants as faults
use Rattle.dba_rules.specs.Rules.{root_of}
use Rattle.report.specs.declared.done.Done.{Done}
use Rattle.report.specs.declared.done.NotProved.{NotProved}
use Rattle.report.specs.declared.done.Refusal.{Refusal}
use Rattle.report.specs.declared.done.Refusal.TheVariants.{Rules}
use Rattle.cophy_core.specs.commands.Check as check

-- the rules of a text make a root, below which this is given
pub record IsBelowRules (rules bytes : List ℕ) (setting : TheSetting) (done : Done) : Type 0 where
  pub root : Fix
  pub root_is : root_of setting rules ≡ Ok root
  pub gives : check.GivesBelow (node_of root) bytes setting done

abbrev pub Gives : List ℕ → List ℕ → TheSetting → Done → Type 0
Gives rules bytes setting done = IsBelowRules rules bytes setting done

-- the rules of a text make a root, below which the bytes prove nothing for this reason first
pub record ProvesNothing (rules bytes : List ℕ) (setting : TheSetting) (why : NotProved) : Type 0 where
  pub root : Fix
  pub root_is : root_of setting rules ≡ Ok root
  pub first : check.ProvesNothing setting (node_of root) bytes why

-- the rules have this fault first
pub record IsRuleFault (rules : List ℕ) (setting : TheSetting) (fault : RuleFault) : Type 0 where
  pub no_memory : fault ≢ faults.Memory
  pub first : root_of setting rules ≡ Err fault

abbrev pub Refuses : List ℕ → TheSetting → Refusal → Type 0
Refuses rules setting (Rules fault) = IsRuleFault rules setting fault
Refuses rules setting why = ⊥

-- rules, bytes and a setting have one answer
abbrev pub OneAnswer : Type 0
OneAnswer =
    (setting : TheSetting) (rules bytes : List ℕ) (done other : Done) →
    Gives rules bytes setting done → Gives rules bytes setting other → done ≡ other
