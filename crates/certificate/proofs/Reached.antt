-- What lines that lead to an outline say of a text that they begin.
use Rattle.std.proofs.Common.{◌≡◌, ◌∙◌, ℕ, zero, suc, ◌+◌, ◌<◌, ◌≤◌, List, [], ◌∷◌, ◌++◌, length, drop, sym, ap, subst, refl, arith, length-append}
use Rattle.std.specs.List.{All, AllByRecursion, slice_index_or}
use Rattle.std.proofs.lemmas.List.{append-nil, append_assoc}
use Rattle.std.proofs.lemmas.List.Elements.{All-from_recursion}
use Rattle.adv_base.specs.declared.limits.TheConstants.{MOST_CERTIFICATE_BYTES}
use Rattle.adv_base.specs.Numbers.{BeginsWithLine}
use Rattle.certificate.specs.Certificates.{IsCertificate, IsLine, GoesOn, BreaksAt}
use Rattle.certificate.specs.Limits.{CertLimits}
use Rattle.certificate.specs.Texts.{text_of, cert_lines, cert_text}
use Rattle.certificate.specs.declared.cert.Cert.{Cert}
use Rattle.certificate.specs.inner.Drafts.{DraftFits, cert_of}
use Rattle.certificate.specs.inner.Outlines.{Draft}
use Rattle.certificate.specs.inner.Pieces.{Breaks}
use Rattle.certificate.specs.inner.Runs.{Run}
use Rattle.certificate.specs.inner.Steps.{start, StepAt}
use Rattle.certificate.proofs.Breaks.{breaks-at}
use Rattle.certificate.proofs.Complete.{run-append}
use Rattle.certificate.proofs.Keeps.{run-lines}
use Rattle.certificate.proofs.OneLine.{all-before}
use Rattle.certificate.proofs.ReadLaws.{start-fits, whole-cert, draft-goes_on, HasRead}
use Rattle.certificate.proofs.Short.{IsShort, cert-short}
use Rattle.certificate.proofs.Sizes.{line-front, lines-both, texts-fit}
use Rattle.certificate.proofs.Splits.{cert-plain, lines-front, one-longer, all-behind}
use Rattle.certificate.proofs.Viable.{ends}

-- ## Lines that lead somewhere

pub run-fits : (lines : List (List ℕ)) (d : Draft) → Run start lines d → DraftFits d
run-fits lines d run = (run-lines lines start d start-fits run).0

-- they are the first of some certificate's
record Begins (lines : List (List ℕ)) : Type 0 where
  cert : Cert
  limits : CertLimits cert
  more : List (List ℕ)
  are : cert_lines cert ≡ lines ++ more

run-begins : (lines : List (List ℕ)) (d : Draft) → Run start lines d → Begins lines
run-begins lines d run =
    let end = ends d (run-fits lines d run) in
    let cert = whole-cert (lines ++ end.lines) end.last (run-append lines end.lines start d end.last run end.run) end.done in
    record { cert = cert_of end.last; limits = cert.0; more = end.lines; are = cert.1 }

pub run-plain : (lines : List (List ℕ)) (d : Draft) → Run start lines d → AllByRecursion IsLine lines
run-plain lines d run =
    let begins = run-begins lines d run in
    all-before IsLine lines begins.more (subst (AllByRecursion IsLine) begins.are (cert-plain begins.cert begins.limits))

pub run-size : (lines : List (List ℕ)) (d : Draft) → Run start lines d → length (text_of lines) ≤ MOST_CERTIFICATE_BYTES
run-size lines d run =
    let begins = run-begins lines d run in
    let fit = texts-fit (cert_text begins.cert) begins.cert (record { limits = begins.limits; text = refl }) in
    let both : length (cert_text begins.cert) ≡ length (text_of lines) + length (text_of begins.more) =
    ap (λ (ls : List (List ℕ)). length (text_of ls)) begins.are ∙ lines-both lines begins.more in
    omega (arith, fit, both)

pub lines-count : (lines : List (List ℕ)) → length lines ≤ length (text_of lines)
lines-count [] = omega arith
lines-count (line ∷ lines) = omega (arith, line-front line lines, lines-count lines)

pub has-read : (lines : List (List ℕ)) (rest : List ℕ) (d : Draft) → Run start lines d → HasRead (text_of lines ++ rest) rest d (length lines + 1) lines
has-read lines rest d run = record {
  parts = refl;
  whole = run-plain lines d run;
  run = run;
  fits = run-fits lines d run;
  number_is = refl;
  few = omega (arith, lines-count lines, length-append (text_of lines) rest);
}

-- ## Line feeds

-- bytes without a line feed lie in the line that begins so
line-within : (line more partial rest : List ℕ) → line ++ 10 ∷ more ≡ partial ++ rest → IsLine partial → length partial ≤ length line
line-within line more [] rest e plain = omega arith
line-within [] more (b ∷ partial) rest e plain = absurd (plain 0 0 (omega arith) (sym (ap (λ (t : List ℕ). slice_index_or t 0 0) e)))
line-within (l ∷ line) more (b ∷ partial) rest e plain = omega (arith, line-within line more partial rest (ap (drop 1) e) (λ k d h. plain (suc k) d (omega arith)))

pub no-line-in : (partial line more : List ℕ) → IsLine partial → BeginsWithLine partial line more → ⊥
no-line-in partial line more plain begins =
    let within = line-within line more partial [] (sym begins.parts ∙ sym (append-nil partial)) plain in
    omega (arith, within, ap length begins.parts, length-append line (10 ∷ more))

all-cons : {X : Type 0} (P : X → Type 0) (x : X) (xs : List X) → P x → All P xs → All P (x ∷ xs)
all-cons P x xs p h zero d within = p
all-cons P x xs p h (suc k) d within = h k d (omega arith)

no-feed : (bytes : List ℕ) → ((line rest : List ℕ) → BeginsWithLine bytes line rest → ⊥) → AllByRecursion (λ (b : ℕ). b ≡ 10 → ⊥) bytes
no-feed [] none = tt
no-feed (b ∷ bytes) none =
    let first : b ≡ 10 → ⊥ = λ e. none [] bytes (record { parts = ap (λ (x : ℕ). x ∷ bytes) e; whole = λ k d h. absurd (omega arith) }) in
    (first, no-feed bytes (λ line rest begins. none (b ∷ line) rest (record { parts = ap (λ (t : List ℕ). b ∷ t) begins.parts; whole = all-cons (λ (x : ℕ). x ≡ 10 → ⊥) b line first begins.whole })))

-- bytes that begin with no line have no line feed
pub open-plain : (bytes : List ℕ) → ((line rest : List ℕ) → BeginsWithLine bytes line rest → ⊥) → IsLine bytes
open-plain bytes none = All-from_recursion (λ (b : ℕ). b ≡ 10 → ⊥) bytes (no-feed bytes none)

-- ## Where texts break, however they go on

pub breaks-on : (text more : List ℕ) (number : ℕ) → Breaks text number → Breaks (text ++ more) number
breaks-on text more number breaks = λ rest. subst (λ (t : List ℕ). BreaksAt t number) (sym (append_assoc text more rest)) (breaks (more ++ rest))

pub breaks-here : (text : List ℕ) (number : ℕ) → Breaks text number → BreaksAt text number
breaks-here text number breaks = subst (λ (t : List ℕ). BreaksAt t number) (append-nil text) (breaks [])

-- at a line that no step takes
pub line-breaks : (lines : List (List ℕ)) (line : List ℕ) (d : Draft) → Run start lines d → IsLine line → ((f : Draft) → StepAt d.stage d line f → ⊥) →
    Breaks (text_of lines ++ (line ++ 10 ∷ [])) (length lines + 1)
line-breaks lines line d run plain none = λ more.
    let rest : List ℕ = line ++ 10 ∷ more in
    let same : text_of lines ++ rest ≡ (text_of lines ++ (line ++ 10 ∷ [])) ++ more =
    sym (append_assoc (text_of lines) (line ++ 10 ∷ []) more ∙ ap (λ (t : List ℕ). text_of lines ++ t) (append_assoc line (10 ∷ []) more)) in
    subst (λ (t : List ℕ). BreaksAt t (length lines + 1)) same
    (breaks-at (text_of lines ++ rest) rest line more d (length lines + 1) lines (has-read lines rest d run) (record { parts = refl; whole = plain }) none)

no-long-first : (zs : List (List ℕ)) (partial more : List ℕ) → AllByRecursion IsShort zs → text_of zs ≡ partial ++ more → IsLine partial → 1030 < length partial → ⊥
no-long-first [] partial more short e plain long = omega (arith, ap length e, length-append partial more)
no-long-first (z ∷ zs) partial more short e plain long = omega (arith, short.0, line-within z (text_of zs) partial more e plain)

no-long-cert : (lines : List (List ℕ)) (partial more : List ℕ) → AllByRecursion IsLine lines → IsLine partial → 1030 < length partial → (c : Cert) → IsCertificate (text_of lines ++ (partial ++ more)) c → ⊥
no-long-cert lines partial more whole plain long c is =
    let front = lines-front (cert_lines c) lines (partial ++ more) (cert-plain c is.limits) whole (sym is.text) in
    let short = all-behind IsShort lines front.0 (subst (AllByRecursion IsShort) front.1 (cert-short c is.limits)) in
    no-long-first front.0 partial more short front.2 plain long

no-long : (lines : List (List ℕ)) (partial more : List ℕ) → AllByRecursion IsLine lines → IsLine partial → 1030 < length partial → GoesOn (text_of lines ++ (partial ++ more)) (suc (length lines)) → ⊥
no-long lines partial more whole plain long g =
    let next = one-longer lines g.lines (partial ++ more) g.rest whole g.whole g.count_is g.parts in
    let front = lines-front (cert_lines g.cert) g.lines g.more (cert-plain g.cert g.limits) g.whole g.text in
    let taken = all-before IsShort g.lines front.0 (subst (AllByRecursion IsShort) front.1 (cert-short g.cert g.limits)) in
    let last = all-behind IsShort lines (next.0 ∷ []) (subst (AllByRecursion IsShort) next.1 taken) in
    omega (arith, last.0, line-within next.0 g.rest partial more (sym next.2.parts) plain)

-- at a line that is too long, be it whole or not
pub long-breaks : (lines : List (List ℕ)) (partial : List ℕ) (d : Draft) → Run start lines d → IsLine partial → 1030 < length partial → Breaks (text_of lines ++ partial) (length lines + 1)
long-breaks lines partial d run plain long = λ more.
    let whole = run-plain lines d run in
    let next : suc (length lines) ≡ length lines + 1 = omega arith in
    subst (λ (t : List ℕ). BreaksAt t (length lines + 1)) (sym (append_assoc (text_of lines) partial more))
    (record {
      none = no-long-cert lines partial more whole plain long;
      before = length lines;
      number_is = sym next;
      goes_on = draft-goes_on (text_of lines ++ (partial ++ more)) (partial ++ more) lines d refl whole run (run-fits lines d run);
      first = subst (λ (n : ℕ). GoesOn (text_of lines ++ (partial ++ more)) n → ⊥) next (no-long lines partial more whole plain long);
    })
