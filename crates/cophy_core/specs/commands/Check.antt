-- What `check` answers: what a certificate proves, or the first place at which it proves nothing. `check-ruled` answers the same
-- below the root that rules make.
use Rattle.std.specs.Prelude.{◌≡◌, ◌≢◌, ℕ, List}
use Rattle.adv_base.specs.Nodes as nodes
use Rattle.adv_base.specs.Settings.{TheSetting}
use Rattle.bip_model.specs.Laws.{BoundsAll}
use Rattle.bip_model.specs.Proves.{free_node}
use Rattle.certificate.specs.declared.cert.Cert.{Cert}
use Rattle.certificate.specs.Certificates.{IsCertificate, BreaksAt}
use Rattle.dba_rules.specs.Settled.{IsFirstBroken}
use Rattle.gap_checker.specs.declared.fault.Checked.{Checked}
use Rattle.gap_checker.specs.declared.fault.CheckFault.{CheckFault}
use Rattle.gap_checker.specs.declared.fault.CheckFault.TheVariants as check
use Rattle.gap_checker.specs.At.{BoundsBelow}
use Rattle.gap_checker.specs.Faults.{IsChecked, IsFault}
use Rattle.gap_checker.specs.Views.{config_of}
use Rattle.plan_model.specs.Lagrangian.{IsAtMost}
use Rattle.report.specs.declared.done.Done.{Done}
use Rattle.report.specs.declared.done.Done.TheVariants.{Checked as CheckedDone, NotProved as NotProvedDone}
use Rattle.report.specs.declared.done.NotProved.{NotProved}
use Rattle.report.specs.declared.done.NotProved.TheVariants.{Malformed, Disobeys, Fault}

-- ## Below a root

-- The bytes are the text of a certificate, which is a proof of the budget, the cost and the bound that are told: a
-- configuration that fits and is below the root costs so much. None that fits and is below the root costs less than the
-- bound, which is at most the cost.
pub record IsProved (setting : TheSetting) (root : nodes.Node) (bytes : List ℕ) (checked : Checked) : Type 0 where
  pub cert : Cert
  pub cert_is : IsCertificate bytes cert
  pub obeys : nodes.IsBelow root (config_of cert)
  pub checked_is : IsChecked setting root cert checked
  pub bounds : BoundsBelow setting root checked.budget checked.bound
  pub own : IsAtMost checked.bound checked.cost

-- the bytes are the text of a certificate, and this is the first candidate at which its configuration isn't below the root
pub record IsDisobeying (root : nodes.Node) (bytes : List ℕ) (number : ℕ) : Type 0 where
  pub cert : Cert
  pub cert_is : IsCertificate bytes cert
  pub first : IsFirstBroken root (config_of cert) number

-- they are that of a certificate whose configuration is below the root, and this is the first of its faults
pub record IsFaulty (setting : TheSetting) (root : nodes.Node) (bytes : List ℕ) (fault : CheckFault) : Type 0 where
  pub cert : Cert
  pub cert_is : IsCertificate bytes cert
  pub obeys : nodes.IsBelow root (config_of cert)
  pub no_memory : fault ≢ check.Memory
  pub fault_is : IsFault setting root cert fault

-- why the bytes prove nothing: they are no certificate's, and this is the first line at which none goes on; or what fails
-- first of the certificate that they are
abbrev pub ProvesNothing : TheSetting → nodes.Node → List ℕ → NotProved → Type 0
ProvesNothing setting root bytes (Malformed line) = BreaksAt bytes line
ProvesNothing setting root bytes (Disobeys number) = IsDisobeying root bytes number
ProvesNothing setting root bytes (Fault fault) = IsFaulty setting root bytes fault

-- what is proved, or why nothing is
abbrev pub GivesBelow : nodes.Node → List ℕ → TheSetting → Done → Type 0
GivesBelow root bytes setting (CheckedDone checked) = IsProved setting root bytes checked
GivesBelow root bytes setting (NotProvedDone why) = ProvesNothing setting root bytes why
GivesBelow root bytes setting done = ⊥

-- ## Below the root that leaves each candidate free

-- every configuration is below it, so that none disobeys and the bound is one of all that fit
abbrev pub Gives : List ℕ → TheSetting → Done → Type 0
Gives bytes setting (CheckedDone checked) = IsProved setting free_node bytes checked × BoundsAll setting checked.budget checked.cost checked.bound
Gives bytes setting done = GivesBelow free_node bytes setting done

-- bytes and a setting have one answer
abbrev pub OneAnswer : Type 0
OneAnswer =
    (setting : TheSetting) (bytes : List ℕ) (done other : Done) →
    Gives bytes setting done → Gives bytes setting other → done ≡ other
