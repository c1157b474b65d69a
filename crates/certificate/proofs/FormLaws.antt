-- The lines of a certificate that say more than one number.
use Rattle.std.proofs.Common.{◌≡◌, ◌≢◌, ◌∙◌, ℕ, ◌+◌, ◌-◌, ◌<◌, ◌≤◌, ◌^◌, ℤ, pos, negsuc, List, [], ◌∷◌, ◌++◌, length, get_or, sym, ap, subst, refl, arith}
use Rattle.std.specs.Prelude.{decimal, codes}
use Rattle.std.specs.Fmt.{signed_decimal}
use Rattle.std.proofs.lemmas.List.{append_cancel_left, append-nil, append_assoc}
use Rattle.adv_base.specs.declared.limits.TheConstants.{MOST_CANDIDATES, MOST_STATEMENTS, MOST_SLOTS, MOST_RENT, MOST_PAGE_PRICE}
use Rattle.certificate.specs.declared.cert.Entry.{Entry}
use Rattle.certificate.specs.Limits.{Rise, IsSmall, EntryLimits}
use Rattle.certificate.specs.Texts.{word, words, config_line, bound_line, set_line, entry_line}
use Rattle.certificate.specs.inner.Words.{BeginsWithNumber, GoesOnWithNumber, IsSpacedNumber, IsSetLine}
use Rattle.certificate.proofs.WordLaws.{one-front, one-next}

-- the first number that may follow
abbrev pub next_least : ℕ → List ℕ → ℕ
next_least least [] = least
next_least least (n ∷ ns) = next_least (n + 1) ns

pub next_least-more : (least : ℕ) (ns : List ℕ) (n : ℕ) → next_least least (ns ++ n ∷ []) ≡ n + 1
next_least-more least [] n = refl
next_least-more least (m ∷ ns) n = next_least-more (m + 1) ns n

pub Rise-more : (least : ℕ) (ns : List ℕ) (n : ℕ) → Rise least ns → next_least least ns ≤ n → n ≤ MOST_CANDIDATES → Rise least (ns ++ n ∷ [])
Rise-more least [] n h low high = (low, high, tt)
Rise-more least (m ∷ ns) n h low high = (h.0, h.1, Rise-more (m + 1) ns n h.2 low high)

pub words-more : (ns : List ℕ) (n : ℕ) (rest more : List ℕ) → rest ≡ 32 ∷ decimal n ++ more → words ns ++ rest ≡ words (ns ++ n ∷ []) ++ more
words-more [] n rest more e = e ∙ ap (λ (xs : List ℕ). xs ++ more) (sym (append-nil (word n)))
words-more (m ∷ ns) n rest more e =
    append_assoc (word m) (words ns) rest ∙ ap (λ (xs : List ℕ). word m ++ xs) (words-more ns n rest more e) ∙ sym (append_assoc (word m) (words (ns ++ n ∷ [])) more)

pub config-start : (line rest ns : List ℕ) → ns ≡ [] → line ≡ codes "config" ++ rest → (line ≡ codes "config" ++ (words ns ++ rest)) × Rise 1 ns × (1 ≡ next_least 1 ns)
config-start line rest [] empty e = (e, tt, refl)
config-start line rest (n ∷ ns) empty e = absurd (omega (arith, ap length empty))

pub words-end : (ns : List ℕ) → get_or (words ns) 0 32 ≡ 32
words-end [] = refl
words-end (n ∷ ns) = refl

-- Whatever configuration a line is that of, the numbers that are left rise from the next one on.
abbrev pub Leaves : List ℕ → ℕ → List ℕ → Type 0
Leaves line least rest = (ns : List ℕ) → Rise 1 ns → line ≡ config_line ns → (ms : List ℕ) × Rise least ms × (rest ≡ words ms)

pub leaves-first : (line rest : List ℕ) → line ≡ codes "config" ++ rest → Leaves line 1 rest
unfolding config_line
leaves-first line rest e = λ ns rise is. (ns, rise, append_cancel_left (codes "config") rest (words ns) (sym e ∙ is))

-- numbers that are left go on with the first of them
goes-on : (least : ℕ) (rest : List ℕ) (m : ℕ) (ms : List ℕ) → Rise least (m ∷ ms) → rest ≡ words (m ∷ ms) → GoesOnWithNumber least MOST_CANDIDATES rest m (words ms)
goes-on least rest m ms rise is = record { parts = is; low = rise.0; high = rise.1; end = words-end ms }

leaves-step : (least n : ℕ) (rest more : List ℕ) → GoesOnWithNumber least MOST_CANDIDATES rest n more → (ms : List ℕ) → Rise least ms → rest ≡ words ms →
    (os : List ℕ) × Rise (n + 1) os × (more ≡ words os)
leaves-step least n rest more h [] rise is = absurd (omega (arith, ap length h.parts, ap length is))
leaves-step least n rest more h (m ∷ ms) rise is =
    let same = one-next least MOST_CANDIDATES least MOST_CANDIDATES rest more (words ms) n m (omega arith) (omega arith) h (goes-on least rest m ms rise is) in
    (ms, subst (λ (k : ℕ). Rise (k + 1) ms) (sym same.0) rise.2, same.1)

pub leaves-next : (line : List ℕ) (least n : ℕ) (rest more : List ℕ) → Leaves line least rest → GoesOnWithNumber least MOST_CANDIDATES rest n more → Leaves line (n + 1) more
leaves-next line least n rest more h next = λ ns rise is.
    let left = h ns rise is in leaves-step least n rest more next left.0 left.1 left.2

none-left : (least : ℕ) (rest : List ℕ) → rest ≢ [] → ((n : ℕ) (more : List ℕ) → GoesOnWithNumber least MOST_CANDIDATES rest n more → ⊥) → (ms : List ℕ) → Rise least ms → rest ≡ words ms → ⊥
none-left least rest some none [] rise is = some is
none-left least rest some none (m ∷ ms) rise is = none m (words ms) (goes-on least rest m ms rise is)

pub leaves-none : (line : List ℕ) (least : ℕ) (rest : List ℕ) → Leaves line least rest → rest ≢ [] → ((n : ℕ) (more : List ℕ) → GoesOnWithNumber least MOST_CANDIDATES rest n more → ⊥) →
    (ns : List ℕ) → Rise 1 ns → line ≡ config_line ns → ⊥
leaves-none line least rest h some none ns rise is =
    let left = h ns rise is in none-left least rest some none left.0 left.1 left.2

pub config-whole : (line ns rest : List ℕ) → length rest ≡ 0 → line ≡ codes "config" ++ (words ns ++ rest) → line ≡ config_line ns
unfolding config_line
config-whole line ns [] empty e = e ∙ ap (λ (xs : List ℕ). codes "config" ++ xs) (append-nil (words ns))
config-whole line ns (b ∷ bs) empty e = absurd (omega arith)

pub no-config : (line : List ℕ) → ((rest : List ℕ) → line ≢ codes "config" ++ rest) → (ns : List ℕ) → line ≢ config_line ns
unfolding config_line
no-config line none ns is = none (words ns) is

-- bounds

bound-parts : (line rest : List ℕ) (z : ℤ) → line ≡ codes "bound" ++ rest → line ≡ bound_line z → rest ≡ 32 ∷ signed_decimal z
unfolding bound_line
bound-parts line rest z e is = append_cancel_left (codes "bound") rest (32 ∷ signed_decimal z) (sym e ∙ is)

pub no-bound : (line : List ℕ) → ((rest : List ℕ) → line ≢ codes "bound" ++ rest) → (z : ℤ) → line ≢ bound_line z
unfolding bound_line
no-bound line none z is = none (32 ∷ signed_decimal z) is

pub bound-neither : (most : ℕ) (line rest : List ℕ) → most ≡ 2 ^ 127 - 1 → line ≡ codes "bound" ++ rest → ((n : ℕ) → IsSpacedNumber 0 most rest n → ⊥) → ((n : ℕ) → n + 1 < 2 ^ 127 → rest ≢ 32 ∷ signed_decimal (negsuc n)) →
    (z : ℤ) → IsSmall z → line ≢ bound_line z
bound-neither most line rest limit e none not (pos n) small is = none n (record { parts = bound-parts line rest (pos n) e is; low = omega arith; high = omega (arith, small, limit) })
bound-neither most line rest limit e none not (negsuc n) small is = not n small (bound-parts line rest (negsuc n) e is)

pub bound-is : (line rest : List ℕ) (z y : ℤ) → y ≡ z → line ≡ codes "bound" ++ rest → rest ≡ 32 ∷ signed_decimal z → IsSmall z → IsSmall y × (line ≡ bound_line y)
unfolding bound_line
bound-is line rest z y same e is small =
    subst (λ (x : ℤ). IsSmall x × (line ≡ bound_line x)) (sym same) (small, e ∙ ap (λ (xs : List ℕ). codes "bound" ++ xs) is)

-- sets

pub set-none : (most : ℕ) (line : List ℕ) → ((rest : List ℕ) → line ≢ codes "set" ++ rest) → (mu count : ℕ) → IsSetLine most line mu count → ⊥
unfolding set_line
set-none most line none mu count h = none (word mu ++ word count) h.text

pub set-price : (most : ℕ) (line rest : List ℕ) → line ≡ codes "set" ++ rest → (mu count : ℕ) → IsSetLine most line mu count → GoesOnWithNumber 0 MOST_PAGE_PRICE rest mu (word count)
unfolding set_line
set-price most line rest e mu count h =
    record { parts = append_cancel_left (codes "set") rest (word mu ++ word count) (sym e ∙ h.text); low = omega arith; high = h.price; end = refl }

pub set-count : (most : ℕ) (line rest more : List ℕ) (price : ℕ) → line ≡ codes "set" ++ rest → GoesOnWithNumber 0 MOST_PAGE_PRICE rest price more → (mu count : ℕ) → IsSetLine most line mu count → IsSpacedNumber 0 most more count
set-count most line rest more price e found mu count h =
    let same = one-next 0 MOST_PAGE_PRICE 0 MOST_PAGE_PRICE rest more (word count) price mu (omega arith) (omega arith) found (set-price most line rest e mu count h) in
    record { parts = same.1; low = omega arith; high = h.few }

pub set-is : (most : ℕ) (line rest more : List ℕ) (mu count : ℕ) → line ≡ codes "set" ++ rest → GoesOnWithNumber 0 MOST_PAGE_PRICE rest mu more → IsSpacedNumber 0 most more count → IsSetLine most line mu count
unfolding set_line
set-is most line rest more mu count e found last =
    record {
      text = e ∙ ap (λ (xs : List ℕ). codes "set" ++ xs) (found.parts ∙ ap (λ (xs : List ℕ). word mu ++ xs) last.parts);
      price = found.high;
      few = last.high;
    }

-- entries

pub entry-statement : (line : List ℕ) (e : Entry) → EntryLimits e → line ≡ entry_line e → BeginsWithNumber 1 MOST_STATEMENTS line e.statement (word e.slot ++ (word e.candidate ++ word e.lambda))
unfolding entry_line
entry-statement line e h is = record { parts = is; low = h.statement_least; high = h.statement_most; end = refl }

pub entry-slot : (line r : List ℕ) (q : ℕ) → BeginsWithNumber 1 MOST_STATEMENTS line q r → (e : Entry) → EntryLimits e → line ≡ entry_line e → GoesOnWithNumber 1 MOST_SLOTS r e.slot (word e.candidate ++ word e.lambda)
entry-slot line r q found e h is =
    let same = one-front 1 MOST_STATEMENTS 1 MOST_STATEMENTS line r (word e.slot ++ (word e.candidate ++ word e.lambda)) q e.statement (omega arith) (omega arith) found (entry-statement line e h is) in
    record { parts = same.1; low = h.slot_least; high = h.slot_most; end = refl }

pub entry-candidate : (line r s : List ℕ) (q n : ℕ) → BeginsWithNumber 1 MOST_STATEMENTS line q r → GoesOnWithNumber 1 MOST_SLOTS r n s → (e : Entry) → EntryLimits e → line ≡ entry_line e →
    GoesOnWithNumber 1 MOST_CANDIDATES s e.candidate (word e.lambda)
entry-candidate line r s q n found slot e h is =
    let same = one-next 1 MOST_SLOTS 1 MOST_SLOTS r s (word e.candidate ++ word e.lambda) n e.slot (omega arith) (omega arith) slot (entry-slot line r q found e h is) in
    record { parts = same.1; low = h.candidate_least; high = h.candidate_most; end = refl }

pub entry-lambda : (line r s t : List ℕ) (q n a : ℕ) → BeginsWithNumber 1 MOST_STATEMENTS line q r → GoesOnWithNumber 1 MOST_SLOTS r n s → GoesOnWithNumber 1 MOST_CANDIDATES s a t →
    (e : Entry) → EntryLimits e → line ≡ entry_line e → IsSpacedNumber 1 MOST_RENT t e.lambda
entry-lambda line r s t q n a found slot candidate e h is =
    let same = one-next 1 MOST_CANDIDATES 1 MOST_CANDIDATES s t (word e.lambda) a e.candidate (omega arith) (omega arith) candidate (entry-candidate line r s q n found slot e h is) in
    record { parts = same.1; low = h.lambda_least; high = h.lambda_most }

pub entry-is : (line r s t : List ℕ) (e : Entry) → BeginsWithNumber 1 MOST_STATEMENTS line e.statement r → GoesOnWithNumber 1 MOST_SLOTS r e.slot s → GoesOnWithNumber 1 MOST_CANDIDATES s e.candidate t →
    IsSpacedNumber 1 MOST_RENT t e.lambda → EntryLimits e × (line ≡ entry_line e)
unfolding entry_line
entry-is line r s t e found slot candidate lambda = (
  record {
    statement_least = found.low;
    statement_most = found.high;
    slot_least = slot.low;
    slot_most = slot.high;
    candidate_least = candidate.low;
    candidate_most = candidate.high;
    lambda_least = lambda.low;
    lambda_most = lambda.high;
  },
  found.parts
      ∙ ap (λ (xs : List ℕ). decimal e.statement ++ xs) (
      slot.parts ∙ ap (λ (xs : List ℕ). word e.slot ++ xs) (candidate.parts ∙ ap (λ (xs : List ℕ). word e.candidate ++ xs) lambda.parts)
      ),
)

-- one more number of a configuration
pub record HasNumbers (line ns rest : List ℕ) (least : ℕ) : Type 0 where
  pub parts : line ≡ codes "config" ++ (words ns ++ rest)
  pub rise : Rise 1 ns
  pub least_is : least ≡ next_least 1 ns

pub numbers-more : (line ns ms rest more : List ℕ) (least n : ℕ) → HasNumbers line ns rest least → ms ≡ ns ++ n ∷ [] → GoesOnWithNumber least MOST_CANDIDATES rest n more → HasNumbers line ms more (n + 1)
numbers-more line ns ms rest more least n h same next =
    subst (λ (xs : List ℕ). HasNumbers line xs more (n + 1)) (sym same) (
    record {
      parts = h.parts ∙ ap (λ (xs : List ℕ). codes "config" ++ xs) (words-more ns n rest more next.parts);
      rise = Rise-more 1 ns n h.rise (omega (arith, h.least_is, next.low)) next.high;
      least_is = sym (next_least-more 1 ns n);
    }
    )
