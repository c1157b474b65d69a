-- What a judge says, said of the certificate whose claims it holds.
use Rattle.std.proofs.Common.{◌≡◌, subst}
use Rattle.adv_base.specs.Nodes as nodes
use Rattle.adv_base.specs.Settings.{TheSetting}
use Rattle.certificate.specs.declared.cert.Cert.{Cert}
use Rattle.gap_checker.specs.declared.fault.CheckFault.{CheckFault}
use Rattle.gap_checker.specs.declared.judge.Judge.{Judge}
use Rattle.gap_checker.specs.Faults.{IsFault}
use Rattle.gap_checker.specs.Views.{IsProof}
use Rattle.gap_checker.specs.inner.Judges.{setting_of, root_of, cert_of}

-- a judge holds the claims of a certificate, for a setting and a root
pub record IsJudgeOf (judge : Judge) (setting : TheSetting) (root : nodes.Node) (cert : Cert) : Type 0 where
  pub setting_is : setting_of judge ≡ setting
  pub root_is : root_of judge ≡ root
  pub cert_is : cert_of judge cert.tree ≡ cert

moved : (P : TheSetting → nodes.Node → Cert → Type 0) (judge : Judge) (setting : TheSetting) (root : nodes.Node) (cert : Cert) → IsJudgeOf judge setting root cert →
    P (setting_of judge) (root_of judge) (cert_of judge cert.tree) → P setting root cert
moved P judge setting root cert is h =
    subst (λ (c : Cert). P setting root c) is.cert_is
    (subst (λ (r : nodes.Node). P setting r (cert_of judge cert.tree)) is.root_is
    (subst (λ (s : TheSetting). P s (root_of judge) (cert_of judge cert.tree)) is.setting_is h))

pub fault-moved : (judge : Judge) (setting : TheSetting) (root : nodes.Node) (cert : Cert) (fault : CheckFault) → IsJudgeOf judge setting root cert →
    IsFault (setting_of judge) (root_of judge) (cert_of judge cert.tree) fault → IsFault setting root cert fault
fault-moved judge setting root cert fault is h = moved (λ (s : TheSetting) (r : nodes.Node) (c : Cert). IsFault s r c fault) judge setting root cert is h

pub proof-moved : (judge : Judge) (setting : TheSetting) (root : nodes.Node) (cert : Cert) → IsJudgeOf judge setting root cert →
    IsProof (setting_of judge) (root_of judge) (cert_of judge cert.tree) → IsProof setting root cert
proof-moved judge setting root cert is h = moved IsProof judge setting root cert is h
