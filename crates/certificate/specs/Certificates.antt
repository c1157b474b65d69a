-- Which bytes are a certificate's text, and at which line other bytes break.
use Rattle.std.specs.Prelude.{◌≡◌, ◌≢◌, ◌≤◌, ℕ, suc, List, ◌++◌, length, All}
use Rattle.std.specs.List.{AllByRecursion}
use Rattle.adv_base.specs.declared.limits.TheConstants.{MOST_CERTIFICATE_BYTES}
use Rattle.certificate.specs.Limits.{CertLimits}
use Rattle.certificate.specs.Texts.{text_of, cert_text}
use Rattle.certificate.specs.declared.cert.Cert.{Cert}
use Rattle.certificate.specs.declared.cert.CertFault.{CertFault}
use Rattle.certificate.specs.declared.cert.CertFault.TheVariants as faults

-- bytes are the text of a certificate
pub record IsCertificate (bytes : List ℕ) (cert : Cert) : Type 0 where
  pub limits : CertLimits cert
  pub text : bytes ≡ cert_text cert

-- no byte of a line is a line feed
abbrev pub IsLine : List ℕ → Type 0
IsLine line = All (λ byte. byte ≢ 10) line

-- bytes begin with so many lines, and some certificate's text begins with them too
pub record GoesOn (bytes : List ℕ) (count : ℕ) : Type 0 where
  pub lines : List (List ℕ)
  pub whole : AllByRecursion IsLine lines
  pub count_is : length lines ≡ count
  pub rest : List ℕ
  pub parts : bytes ≡ text_of lines ++ rest
  pub cert : Cert
  pub limits : CertLimits cert
  pub more : List ℕ
  pub text : cert_text cert ≡ text_of lines ++ more

-- bytes are no certificate's text, and the line of this number is the first at which none goes on
pub record BreaksAt (bytes : List ℕ) (number : ℕ) : Type 0 where
  pub none : (cert : Cert) → ¬ (IsCertificate bytes cert)
  pub before : ℕ
  pub number_is : number ≡ suc before
  pub goes_on : GoesOn bytes before
  pub first : ¬ (GoesOn bytes number)

-- what a fault of reading says
abbrev pub Faults : List ℕ → CertFault → Type 0
Faults bytes faults.Memory = Unit {0}
Faults bytes (faults.Malformed number) = BreaksAt bytes number

-- a text is that of at most one certificate
abbrev pub OneCertificate : Type 0
OneCertificate = (bytes : List ℕ) (cert other : Cert) → IsCertificate bytes cert → IsCertificate bytes other → cert ≡ other

-- a certificate has one text
abbrev pub OneText : Type 0
OneText = (cert : Cert) (bytes other : List ℕ) → IsCertificate bytes cert → IsCertificate other cert → bytes ≡ other

-- bytes break at one line
abbrev pub OneBreak : Type 0
OneBreak = (bytes : List ℕ) (number other : ℕ) → BreaksAt bytes number → BreaksAt bytes other → number ≡ other

-- no text of a certificate is longer than its file may be
abbrev pub TextsFit : Type 0
TextsFit = (bytes : List ℕ) (cert : Cert) → IsCertificate bytes cert → length bytes ≤ MOST_CERTIFICATE_BYTES
