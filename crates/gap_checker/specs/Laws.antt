-- Laws of what a checker answers.
use Rattle.std.specs.Prelude.{◌≡◌, ◌≢◌, ℕ, List, drop, length, Result, Ok, Err}
use Rattle.adv_base.specs.declared.limits.TheConstants.{MOST_CANDIDATES}
use Rattle.adv_base.specs.Nodes as nodes
use Rattle.adv_base.specs.Settings.{TheSetting}
use Rattle.bip_model.specs.declared.answer.Answer.{Answer}
use Rattle.bip_model.specs.declared.programme.Programme.{Programme}
use Rattle.bip_model.specs.Best.{IsBest}
use Rattle.bip_model.specs.StandsFor.{StandsFor}
use Rattle.certificate.specs.Answers.{answer_cert, version_of}
use Rattle.certificate.specs.declared.cert.Cert.{Cert}
use Rattle.certificate.specs.declared.head.Head.{Head}
use Rattle.certificate.specs.Heads.{IsHeadOf}
use Rattle.certificate.specs.Limits.{CertLimits}
use Rattle.gap_checker.specs.At.{IsProofAt, IsFaultAt, IsMalformed, IsAtFault}
use Rattle.gap_checker.specs.declared.fault.AtFault.{AtFault}
use Rattle.gap_checker.specs.declared.fault.AtFault.TheVariants as at_faults
use Rattle.gap_checker.specs.declared.fault.Checked.{Checked}
use Rattle.gap_checker.specs.declared.fault.CheckFault.{CheckFault}
use Rattle.gap_checker.specs.declared.fault.CheckFault.TheVariants.{Memory}
use Rattle.gap_checker.specs.Faults.{IsChecked, IsFault}
use Rattle.gap_checker.specs.Views.{IsProof}

-- what proves its bound for a setting has no fault there but want of memory
abbrev pub FaultsExcludeProofs : Type 0
FaultsExcludeProofs =
    (setting : TheSetting) (root : nodes.Node) (cert : Cert) (fault : CheckFault) → CertLimits cert → IsProof setting root cert → IsFault setting root cert fault → fault ≡ Memory

-- what may be answered to a certificate, but for want of memory
abbrev pub IsAnswer : TheSetting → nodes.Node → Cert → Result Checked CheckFault → Type 0
IsAnswer setting root cert (Ok checked) = IsChecked setting root cert checked
IsAnswer setting root cert (Err fault) = (fault ≢ Memory) × IsFault setting root cert fault

-- for a setting and a root a certificate has one such answer
abbrev pub AnswersAreOne : Type 0
AnswersAreOne =
    (setting : TheSetting) (root : nodes.Node) (cert : Cert) (answer other : Result Checked CheckFault) → CertLimits cert →
    IsAnswer setting root cert answer → IsAnswer setting root cert other → answer ≡ other

-- The certificate of the best answer of a search from a root, over a programme that stands for the setting, proves its bound
-- below it, in the version of its candidates. A configuration has a flag for each candidate that there may be.
abbrev pub BestAreProved : Type 0
BestAreProved =
    (setting : TheSetting) (programme : Programme) (budget node_budget : ℕ) (root : nodes.Node) (answer : Answer) → StandsFor setting programme →
    length answer.config.on ≡ MOST_CANDIDATES → IsBest setting budget node_budget root answer →
    IsProof setting root (answer_cert programme (version_of setting.shapes) budget answer)

-- ## Certificates whose tree is read

-- what is told of a head and the text behind it is told of a certificate, and the text doesn't break
pub record IsToldOf (setting : TheSetting) (root : nodes.Node) (head : Head) (text : List ℕ) (cert : Cert) : Type 0 where
  pub checked : (checked : Checked) → IsProofAt setting root head text checked → IsChecked setting root cert checked
  pub fault : (fault : CheckFault) → IsFaultAt setting root head text fault → IsFault setting root cert fault
  pub whole : (number : ℕ) → ¬ (IsMalformed setting root head text number)

-- so it is of the certificate whose text the bytes are
abbrev pub ToldOfCertificates : Type 0
ToldOfCertificates =
    (setting : TheSetting) (root : nodes.Node) (bytes : List ℕ) (head : Head) (is : IsHeadOf bytes head) → IsToldOf setting root head (drop head.tree_at bytes) is.cert

-- what may be answered to a head and the text behind it, but for want of memory and reads that failed
abbrev pub IsAnswerAt : TheSetting → nodes.Node → Head → List ℕ → Result Checked AtFault → Type 0
IsAnswerAt setting root head text (Ok checked) = IsProofAt setting root head text checked
IsAnswerAt setting root head text (Err fault) = (fault ≢ at_faults.Memory) × (fault ≢ at_faults.Failed) × IsAtFault setting root head text fault

abbrev pub answer_at : Result Checked CheckFault → Result Checked AtFault
answer_at (Ok checked) = Ok checked
answer_at (Err fault) = Err (at_faults.Fault fault)

-- it is what is answered to the certificate
abbrev pub AnswersAlike : Type 0
AnswersAlike =
    (setting : TheSetting) (root : nodes.Node) (bytes : List ℕ) (head : Head) (is : IsHeadOf bytes head) (answer : Result Checked CheckFault) (told : Result Checked AtFault) →
    IsAnswer setting root is.cert answer → IsAnswerAt setting root head (drop head.tree_at bytes) told → told ≡ answer_at answer
