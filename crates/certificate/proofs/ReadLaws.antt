-- What the lines that were read say of the bytes.
use Rattle.std.proofs.Common.{◌≡◌, ◌∙◌, ℕ, ◌+◌, ◌≤◌, List, [], ◌∷◌, ◌++◌, length, sym, ap, refl, arith}
use Rattle.std.specs.List.{AllByRecursion}
use Rattle.std.proofs.lemmas.List.{append-nil, append_assoc}
use Rattle.adv_base.specs.Numbers.{BeginsWithLine}
use Rattle.certificate.specs.Certificates.{IsCertificate, IsLine, GoesOn}
use Rattle.certificate.specs.Limits.{CertLimits}
use Rattle.certificate.specs.Texts.{text_of, cert_lines}
use Rattle.certificate.specs.inner.Outlines.{Draft}
use Rattle.certificate.specs.declared.stage.Stage.TheVariants as stages
use Rattle.certificate.specs.inner.Drafts.{DraftFits, cert_of}
use Rattle.certificate.specs.inner.Runs.{lines_at, Run}
use Rattle.certificate.specs.inner.Steps.{start}
use Rattle.certificate.proofs.Keeps.{run-lines, done-cert}
use Rattle.certificate.proofs.Viable.{ends}
use Rattle.certificate.proofs.Complete.{run-append}

-- nothing that was read fits
pub start-fits : DraftFits start
unfolding start
start-fits = record {
  head = record { version_least = omega arith; version_most = omega arith; budget_most = omega arith; config_rises = tt; cost_small = omega arith; bound_small = omega arith };
  body = record {
    few = omega arith;
    whole = tt;
    count = refl;
    price = omega arith;
    rise = tt;
    least_is = λ some. refl;
    room = λ some. omega arith;
    begun = λ some. absurd (omega arith);
    idle = λ none. refl;
  };
  nodes = record { nodes = tt; leaves = refl; few = omega arith; some = λ some. omega arith; enough = omega arith; even = refl };
  stage = record { sets = refl; sets_left = refl; entries_left = refl; tree = refl; trees_left = refl };
}

pub start-lines : lines_at start.stage start ≡ []
unfolding start
start-lines = refl

pub text-append : (xs ys : List (List ℕ)) → text_of (xs ++ ys) ≡ text_of xs ++ text_of ys
text-append [] ys = refl
text-append (x ∷ xs) ys = ap (λ (t : List ℕ). x ++ 10 ∷ t) (text-append xs ys) ∙ sym (append_assoc x (10 ∷ text_of xs) (text_of ys))

-- lines that lead to the end are a certificate's
pub whole-cert : (lines : List (List ℕ)) (d : Draft) → Run start lines d → d.stage ≡ stages.Done → CertLimits (cert_of d) × (cert_lines (cert_of d) ≡ lines)
whole-cert lines d run done =
    let read = run-lines lines start d start-fits run in
    let cert = done-cert d done read.0 in
    (cert.0, sym cert.1 ∙ read.1 ∙ ap (λ (xs : List (List ℕ)). xs ++ lines) start-lines)

-- a draft that was reached goes on to some certificate
pub draft-goes_on : (bytes rest : List ℕ) (lines : List (List ℕ)) (d : Draft) → bytes ≡ text_of lines ++ rest → AllByRecursion IsLine lines → Run start lines d → DraftFits d → GoesOn bytes (length lines)
draft-goes_on bytes rest lines d parts whole run fits =
    let end = ends d fits in
    let cert = whole-cert (lines ++ end.lines) end.last (run-append lines end.lines start d end.last run end.run) end.done in
    record {
      lines = lines;
      whole = whole;
      count_is = refl;
      rest = rest;
      parts = parts;
      cert = cert_of end.last;
      limits = cert.0;
      more = text_of end.lines;
      text = ap text_of cert.1 ∙ text-append lines end.lines;
    }

-- bytes that are lines which lead to the end are a certificate's text
pub cert-is : (bytes rest : List ℕ) (lines : List (List ℕ)) (d : Draft) → bytes ≡ text_of lines ++ rest → length rest ≡ 0 → Run start lines d → d.stage ≡ stages.Done → IsCertificate bytes (cert_of d)
cert-is bytes [] lines d parts none run done =
    let cert = whole-cert lines d run done in
    record { limits = cert.0; text = parts ∙ append-nil (text_of lines) ∙ sym (ap text_of cert.1) }
cert-is bytes (b ∷ bs) lines d parts none run done = absurd (omega arith)

-- one more line
pub parts-more : (bytes rest line more : List ℕ) (lines : List (List ℕ)) → bytes ≡ text_of lines ++ rest → BeginsWithLine rest line more → bytes ≡ text_of (lines ++ line ∷ []) ++ more
parts-more bytes rest line more lines parts begins =
    let one : line ++ 10 ∷ more ≡ text_of (line ∷ []) ++ more = sym (append_assoc line (10 ∷ []) more) in
    parts ∙ ap (λ (t : List ℕ). text_of lines ++ t) (begins.parts ∙ one) ∙ sym (append_assoc (text_of lines) (text_of (line ∷ [])) more)
    ∙ ap (λ (t : List ℕ). t ++ more) (sym (text-append lines (line ∷ [])))

-- what was read up to a line
pub record HasRead (bytes rest : List ℕ) (d : Draft) (number : ℕ) (lines : List (List ℕ)) : Type 0 where
  pub parts : bytes ≡ text_of lines ++ rest
  pub whole : AllByRecursion IsLine lines
  pub run : Run start lines d
  pub fits : DraftFits d
  pub number_is : number ≡ length lines + 1
  pub few : length lines + length rest ≤ length bytes
