-- Bytes break at one line.
use Rattle.std.proofs.Common.{◌≡◌, ◌∙◌, ℕ, zero, suc, ◌<◌, ◌≤◌, List, [], ◌∷◌, ◌++◌, length, ap, subst, refl, arith}
use Rattle.std.specs.List.{AllByRecursion}
use Rattle.std.proofs.lemmas.List.{append_assoc}
use Rattle.adv_base.proofs.Firsts.{one-first}
use Rattle.certificate.specs.Certificates.{IsLine, GoesOn, BreaksAt, OneBreak}
use Rattle.certificate.specs.Texts.{text_of}
use Rattle.certificate.proofs.ReadLaws.{text-append}

-- lines are so many, and those behind them
record Parted (lines : List (List ℕ)) (count : ℕ) : Type 0 where
  front : List (List ℕ)
  back : List (List ℕ)
  are : lines ≡ front ++ back
  count_is : length front ≡ count

parted : (lines : List (List ℕ)) (count : ℕ) → count ≤ length lines → Parted lines count
parted lines zero most = record { front = []; back = lines; are = refl; count_is = refl }
parted [] (suc count) most = absurd (omega (arith, most))
parted (line ∷ lines) (suc count) most =
    let rest = parted lines count (omega (arith, most)) in
    record { front = line ∷ rest.front; back = rest.back; are = ap (λ (ls : List (List ℕ)). line ∷ ls) rest.are; count_is = ap suc rest.count_is }

pub all-before : {X : Type 0} (P : X → Type 0) (xs ys : List X) → AllByRecursion P (xs ++ ys) → AllByRecursion P xs
all-before P [] ys h = tt
all-before P (x ∷ xs) ys h = (h.0, all-before P xs ys h.1)

-- a text of lines, and what is behind it, from their parting
text-parted : (lines front back : List (List ℕ)) (text rest : List ℕ) → lines ≡ front ++ back → text ≡ text_of lines ++ rest → text ≡ text_of front ++ (text_of back ++ rest)
text-parted lines front back text rest are is =
    is ∙ ap (λ (ls : List (List ℕ)). text_of ls ++ rest) are ∙ ap (λ (t : List ℕ). t ++ rest) (text-append front back) ∙ append_assoc (text_of front) (text_of back) rest

-- bytes that go on for many lines go on for few
goes_on-few : (bytes : List ℕ) (few many : ℕ) → few ≤ many → GoesOn bytes many → GoesOn bytes few
goes_on-few bytes few many most g =
    let parts = parted g.lines few (omega (arith, most, g.count_is)) in
    record {
      lines = parts.front;
      whole = all-before IsLine parts.front parts.back (subst (AllByRecursion IsLine) parts.are g.whole);
      count_is = parts.count_is;
      rest = text_of parts.back ++ g.rest;
      parts = text-parted g.lines parts.front parts.back bytes g.rest parts.are g.parts;
      cert = g.cert;
      limits = g.limits;
      more = text_of parts.back ++ g.more;
      text = text-parted g.lines parts.front parts.back _ g.more parts.are g.text;
    }

-- bytes go on for each number of lines before the one at which they break
goes_on-before : (bytes : List ℕ) (number k : ℕ) → BreaksAt bytes number → k < number → GoesOn bytes k
goes_on-before bytes number k breaks less = goes_on-few bytes k breaks.before (omega (arith, less, breaks.number_is)) breaks.goes_on

pub one-break : OneBreak
one-break = λ bytes number other p q.
    one-first (λ (k : ℕ). GoesOn bytes k → ⊥) number other p.first q.first
    (λ k less stuck. stuck (goes_on-before bytes number k p less)) (λ k less stuck. stuck (goes_on-before bytes other k q less))
