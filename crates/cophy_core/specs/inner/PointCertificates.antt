-- The points of a sweep while their certificates are written.
use Rattle.std.specs.Prelude.{◌≡◌, ℕ, List, length, slice_get, string_bytes, Some}
use Rattle.adv_base.specs.declared.limits.TheConstants.{MOST_CANDIDATES}
use Rattle.adv_base.specs.Settings.{TheSetting}
use Rattle.bip_model.specs.declared.point.Point.{Point}
use Rattle.bip_model.specs.declared.programme.Programme.{Programme}
use Rattle.certificate.specs.Answers.{AnswerLimits, answer_cert, version_of}
use Rattle.certificate.specs.Certificates.{IsCertificate}
use Rattle.cophy_core.specs.declared.worked.FilePut.{FilePut}

-- the configuration of each point has a flag for each candidate that there may be
abbrev pub HaveAllFlags : List Point → Type 0
HaveAllFlags points = (i : ℕ) (point : Point) → slice_get points i ≡ Some point → length point.answer.config.on ≡ MOST_CANDIDATES

-- each answer keeps the limits of certificates
abbrev pub KeepLimits : Programme → List Point → Type 0
KeepLimits programme points = (i : ℕ) (point : Point) → slice_get points i ≡ Some point → AnswerLimits programme point.budget point.answer

-- the certificate of a point over a setting, in a file of this name
pub record IsCertificateOfPoint (setting : TheSetting) (programme : Programme) (point : Point) (name : List ℕ) (put : FilePut) : Type 0 where
  pub name_is : string_bytes put.name ≡ name
  pub text_is : IsCertificate put.bytes (answer_cert programme (version_of setting.shapes) point.budget point.answer)
