-- What is told of the certificate of an answer, below the root of its search.
use Rattle.std.proofs.Common.{◌≡◌, ◌∙◌, ℕ, List, length, ℤ, refl, sym, ap, subst}
use Rattle.adv_base.specs.declared.limits.TheConstants.{MOST_CANDIDATES}
use Rattle.adv_base.specs.Nodes as nodes
use Rattle.adv_base.specs.Settings.{TheSetting}
use Rattle.bip_model.specs.declared.answer.Answer.{Answer}
use Rattle.bip_model.specs.declared.programme.Programme.{Programme}
use Rattle.bip_model.specs.Best.{IsBest}
use Rattle.bip_model.specs.StandsFor.{StandsFor}
use Rattle.certificate.specs.Answers.{answer_cert, version_of}
use Rattle.certificate.specs.declared.cert.Cert.{Cert}
use Rattle.certificate.specs.Certificates.{IsCertificate, OneCertificate, TextsFit}
use Rattle.dba_rules.proofs.Unique.{broken_or_below}
use Rattle.gap_checker.proofs.Answering.{config-same}
use Rattle.gap_checker.specs.At.{BoundsBelow}
use Rattle.gap_checker.specs.declared.fault.Checked.{Checked as GapChecked}
use Rattle.gap_checker.specs.Faults.{IsFault}
use Rattle.gap_checker.specs.Laws.{BestAreProved, FaultsExcludeProofs}
use Rattle.gap_checker.specs.Views.{IsProof, config_of}
use Rattle.plan_model.specs.Lagrangian.{IsAtMost}
use Rattle.report.specs.declared.done.Done.{Done}
use Rattle.report.specs.declared.done.Done.TheVariants.{Checked, NotProved}
use Rattle.report.specs.declared.done.NotProved.TheVariants.{Malformed, Disobeys, Fault}
use Rattle.cophy_core.specs.commands.Check as check

-- laws of certificates and of their checker
pub record Laws : Type 0 where
  pub fit : TextsFit
  pub one : OneCertificate
  pub proved : BestAreProved
  pub exclude : FaultsExcludeProofs

checked_is : (checked : GapChecked) (budget cost : ℕ) (bound : ℤ) → checked.budget ≡ budget → checked.cost ≡ cost → checked.bound ≡ bound → checked ≡ record { budget = budget; cost = cost; bound = bound }
checked_is checked budget cost bound e f g =
    let Made : ℕ → ℕ → ℤ → GapChecked = λ (b : ℕ) (c : ℕ) (d : ℤ). record { budget = b; cost = c; bound = d } in
    ap (λ (b : ℕ). Made b checked.cost checked.bound) e ∙ (ap (λ (c : ℕ). Made budget c checked.bound) f ∙ ap (λ (d : ℤ). Made budget cost d) g)

-- of a certificate that is a proof below a root nothing else is told
pub only_proved : Laws → (setting : TheSetting) (root : nodes.Node) (bytes : List ℕ) (cert : Cert) (done : Done) → IsCertificate bytes cert → IsProof setting root cert → nodes.IsBelow root (config_of cert) →
    check.GivesBelow root bytes setting done → done ≡ Checked (record { budget = cert.budget; cost = cert.cost; bound = cert.bound })
only_proved laws setting root bytes cert (Checked checked) is proof obeys h =
    let same = laws.one bytes h.cert cert h.cert_is is in
    let told = h.checked_is in
    ap Checked (checked_is checked cert.budget cert.cost cert.bound (told.budget_is ∙ ap (λ (c : Cert). c.budget) same) (told.cost_is ∙ ap (λ (c : Cert). c.cost) same) (told.bound_is ∙ ap (λ (c : Cert). c.bound) same))
only_proved laws setting root bytes cert (NotProved (Malformed line)) is proof obeys h = absurd (h.none cert is)
only_proved laws setting root bytes cert (NotProved (Disobeys number)) is proof obeys h =
    let same = laws.one bytes cert h.cert is h.cert_is in
    absurd (broken_or_below root (config_of h.cert) number h.first (subst (λ (c : Cert). nodes.IsBelow root (config_of c)) same obeys))
only_proved laws setting root bytes cert (NotProved (Fault fault)) is proof obeys h =
    let same = laws.one bytes h.cert cert h.cert_is is in
    let fault_is = subst (λ (c : Cert). IsFault setting root c fault) same h.fault_is in
    absurd (h.no_memory (laws.exclude setting root cert fault is.limits proof fault_is))
only_proved laws setting root bytes cert done is proof obeys h = absurd h

-- what the certificate of a best answer is
pub record Proving (setting : TheSetting) (root : nodes.Node) (programme : Programme) (budget : ℕ) (answer : Answer) : Type 0 where
  pub proof : IsProof setting root (answer_cert programme (version_of setting.shapes) budget answer)
  pub obeys : nodes.IsBelow root (config_of (answer_cert programme (version_of setting.shapes) budget answer))

pub proving : Laws → (setting : TheSetting) (root : nodes.Node) (programme : Programme) (budget count : ℕ) (answer : Answer) → StandsFor setting programme → length answer.config.on ≡ MOST_CANDIDATES → IsBest setting budget count root answer →
    Proving setting root programme budget answer
proving laws setting root programme budget count answer stands flags best = record {
  proof = laws.proved setting programme budget count root answer stands flags best;
  obeys = subst (nodes.IsBelow root) (sym (config-same answer.config flags)) best.obeys;
}

-- so much is told of it
pub told : (setting : TheSetting) (root : nodes.Node) (programme : Programme) (budget : ℕ) (answer : Answer) (bytes : List ℕ) → IsCertificate bytes (answer_cert programme (version_of setting.shapes) budget answer) → Proving setting root programme budget answer →
    BoundsBelow setting root budget answer.bound → IsAtMost answer.bound answer.cost → check.IsProved setting root bytes (record { budget = budget; cost = answer.cost; bound = answer.bound })
told setting root programme budget answer bytes is proves bounds own = record {
  cert = answer_cert programme (version_of setting.shapes) budget answer;
  cert_is = is;
  obeys = proves.obeys;
  checked_is = record { budget_is = refl; cost_is = refl; bound_is = refl; proof = proves.proof };
  bounds = bounds;
  own = own;
}
