-- Where a lexeme stands at the front of a text, the front that is computed is at least as long.
use Rattle.std.proofs.Common.{◌≡◌, ℕ, ◌+◌, ◌<◌, ◌≤◌, Bool, true, false, ◌&&◌, eqb, cond, List, [], ◌∷◌, ◌++◌, length, drop, Option, Some, None, Result, Ok, Err, refl, ap, ◌∙◌, ◌⊎◌, inl, inr, arith}
use Rattle.std.specs.List.{prefix_len, list_all}
use Rattle.std.proofs.lemmas.Bool.{or_parts, and_parts}
use Rattle.std.proofs.lemmas.Bool.Decides.{nat_tests}
use Rattle.std.proofs.lemmas.List.{length-append, append_assoc}
use Rattle.sql_tokens.specs.Byte.{begins, class_of, is_letter, is_word_byte, is_digit, is_mark, is_pair, is_name_byte, is_line_byte, ends_comment}
use Rattle.sql_tokens.specs.Form.{IsWord, IsWhole, IsDecimal, IsQuoted, IsText, IsSymbol, IsParameter, IsBlank, IsLineComment, IsBlockComment, IsForm, doubled, holds_end}
use Rattle.sql_tokens.specs.Front.{front, front_by, number, number_lexeme, number_behind, apart, begins_fraction, quoted, quoted_behind, closing, comment_end, comment_lexeme, symbol, lexeme, token, further, further_or}
use Rattle.sql_tokens.specs.declared.byte.Class.{Class}
use Rattle.sql_tokens.specs.declared.byte.Class.TheVariants as class
use Rattle.sql_tokens.specs.declared.token.TokenKind.TheVariants as kind
use Rattle.sql_tokens.specs.declared.lexeme.Form.{Form}
use Rattle.sql_tokens.specs.declared.lexeme.Form.TheVariants as form
use Rattle.sql_tokens.specs.declared.lexeme.Lexeme.{Lexeme}
use Rattle.sql_tokens.specs.declared.lexeme.NoLexeme.{NoLexeme}
use Rattle.sql_tokens.specs.declared.lexeme.NoLexeme.TheVariants as stop
use Rattle.sql_tokens.proofs.Runs.{run-append, run-stops, drop-front, class_of-letter, class_of-digit, class_of-blank, class_tells, IsOfClass}
use Rattle.sql_tokens.proofs.Scan.{closing-other, comment_end-other}

-- the lexeme is longer than so many bytes, or has just these and the form; a bad byte comes later
abbrev pub AtLeast : Result Lexeme NoLexeme → Form → ℕ → Type 0
AtLeast (Ok p) f n = (n < p.length) ⊎ ((n ≡ p.length) × (f ≡ p.form))
AtLeast (Err (stop.BadByte k)) f n = 0 < k
AtLeast (Err stop.OpenText) f n = Unit {0}

same_form : (f : Form) (n m : ℕ) → n ≤ m → AtLeast (Ok (lexeme f m)) f n
same_form f n m l = elim (cases n m l) as (λ v. (n < m) ⊎ ((n ≡ m) × (f ≡ f))) [ inl e ↦ inr (e, refl) | inr k ↦ inl k ]
  where
    cases : (n m : ℕ) → n ≤ m → (n ≡ m) ⊎ (n < m)
    cases n m l = grind arith

-- by what the first byte can begin
by_class : (k : Class) (b : ℕ) (bs : List ℕ) (f : Form) (n : ℕ) → class_of b ≡ k → AtLeast (front_by k b bs) f n → AtLeast (front (b ∷ bs)) f n
by_class k b bs f n e h = rw e h

at_least-blank : (xs ys : List ℕ) → IsBlank xs → AtLeast (front (xs ++ ys)) form.Blank (length xs)
at_least-blank [] ys h = absurd h
at_least-blank (b ∷ []) ys h = by_class class.Blank b ys form.Blank 1 (class_of-blank b h) (inr (refl, refl))
at_least-blank (b ∷ c ∷ bs) ys h = absurd h

at_least-word : (xs ys : List ℕ) → IsWord xs → AtLeast (front (xs ++ ys)) (form.Token kind.Word) (length xs)
at_least-word [] ys h = absurd h
at_least-word (b ∷ bs) ys h =
    let r : prefix_len is_word_byte (bs ++ ys) ≡ length bs + prefix_len is_word_byte ys = run-append is_word_byte bs ys h.1 in
    by_class class.Letter b (bs ++ ys) (form.Token kind.Word) (length (b ∷ bs)) (class_of-letter b h.0)
    (same_form (form.Token kind.Word) (length (b ∷ bs)) (1 + prefix_len is_word_byte (bs ++ ys)) (omega (arith, r)))

at_least-line : (xs ys : List ℕ) → IsLineComment xs → AtLeast (front (xs ++ ys)) form.LineComment (length xs)
at_least-line [] ys h = absurd h
at_least-line (b ∷ []) ys h = absurd h
at_least-line (b ∷ c ∷ bs) ys h =
    let r : prefix_len is_line_byte (bs ++ ys) ≡ length bs + prefix_len is_line_byte ys = run-append is_line_byte bs ys h.2 in
    let l : length (45 ∷ 45 ∷ bs) ≤ 1 + (1 + prefix_len is_line_byte (bs ++ ys)) = omega (arith, r) in
    rw (h.0, h.1) (same_form form.LineComment (length (45 ∷ 45 ∷ bs)) (1 + (1 + prefix_len is_line_byte (bs ++ ys))) l)

-- the end of a block comment is where the first end is
pub comment_end-found : (inside ys : List ℕ) → holds_end (inside ++ 42 ∷ []) ≡ false → comment_end (inside ++ 42 ∷ 47 ∷ ys) ≡ Some (length inside + 2)
comment_end-found [] ys h = refl
comment_end-found (b ∷ []) ys h =
    let e = or_parts (ends_comment b 42) false h in
    rw (e.0) refl
comment_end-found (b ∷ c ∷ bs) ys h =
    let e = or_parts (ends_comment b c) (holds_end ((c ∷ bs) ++ 42 ∷ [])) h in
    let i : comment_end ((c ∷ bs) ++ 42 ∷ 47 ∷ ys) ≡ Some (length (c ∷ bs) + 2) = comment_end-found (c ∷ bs) ys e.1 in
    comment_end-other b c (bs ++ 42 ∷ 47 ∷ ys) e.0 ∙ (ap (further 1) i ∙ ap Some (omega arith))

at_least-block : (xs ys : List ℕ) → IsBlockComment xs → AtLeast (front (xs ++ ys)) form.BlockComment (length xs)
at_least-block xs ys h =
    let e : comment_end ((h.inside ++ 42 ∷ 47 ∷ []) ++ ys) ≡ Some (length h.inside + 2) =
    ap comment_end (append_assoc h.inside (42 ∷ 47 ∷ []) ys) ∙ comment_end-found h.inside ys h.first_end in
    let l : length (47 ∷ 42 ∷ (h.inside ++ 42 ∷ 47 ∷ [])) ≡ 2 + (length h.inside + 2) =
    omega (arith, length-append h.inside (42 ∷ 47 ∷ [])) in
    rw h.spelled (rw e (inr (l, refl)))

pub quoted-found : (name ys : List ℕ) → 0 < length name → list_all is_name_byte name ≡ true → quoted (name ++ 34 ∷ ys) ≡ token kind.Quoted (length name + 2)
unfolding quoted
quoted-found name ys l h =
    let r : prefix_len is_name_byte (name ++ 34 ∷ ys) ≡ length name = run-stops is_name_byte name 34 ys h refl in
    let z : eqb (length name) 0 ≡ false = grind (arith, nat_tests) in
    ap (λ n. quoted_behind n (drop n (name ++ 34 ∷ ys))) r
    ∙ (ap (quoted_behind (length name)) (drop-front name (34 ∷ ys)) ∙ rw z refl)

at_least-quoted : (xs ys : List ℕ) → IsQuoted xs → AtLeast (front (xs ++ ys)) (form.Token kind.Quoted) (length xs)
at_least-quoted xs ys h =
    let e : quoted ((h.name ++ 34 ∷ []) ++ ys) ≡ token kind.Quoted (length h.name + 2) =
    ap quoted (append_assoc h.name (34 ∷ []) ys) ∙ quoted-found h.name ys h.some h.name_bytes in
    let l : length (34 ∷ (h.name ++ 34 ∷ [])) ≡ length h.name + 2 = omega (arith, length-append h.name (34 ∷ [])) in
    rw h.spelled (rw e (inr (l, refl)))

pub begins-all : (p : ℕ → Bool) (xs ys : List ℕ) → 0 < length xs → list_all p xs ≡ true → begins p (xs ++ ys) ≡ true
begins-all p [] ys l h = absurd (omega arith)
begins-all p (x ∷ xs) ys l h = (and_parts (p x) (list_all p xs) h).0

pub front-number : (bs : List ℕ) → begins is_digit bs ≡ true → front bs ≡ number bs
front-number [] h = absurd (cc)
front-number (b ∷ bs) h = ap (λ k. front_by k b bs) (class_of-digit b h)

at_least-apart : (p : Lexeme) (bytes : List ℕ) (f : Form) (n : ℕ) → 0 < p.length → AtLeast (Ok p) f n → AtLeast (apart p bytes) f n
at_least-apart p bytes f n l h =
    elim (begins is_letter (drop p.length bytes)) as (λ v. AtLeast (cond v (Err (stop.BadByte p.length)) (Ok p)) f n) [ true ↦ l | false ↦ h ]

-- so many digits, and what may stand behind them
number_behind-whole : (w n : ℕ) (behind : List ℕ) → n ≤ w → AtLeast (Ok (number_behind w behind)) (form.Token kind.Whole) n
number_behind-whole w n behind l =
    elim (begins_fraction behind) as (λ v. AtLeast (Ok (cond v (lexeme (form.Token kind.Decimal) (w + (1 + prefix_len is_digit (drop 1 behind)))) (lexeme (form.Token kind.Whole) w))) (form.Token kind.Whole) n) [
      | true ↦ inl (omega arith)
      | false ↦ same_form (form.Token kind.Whole) n w l
    ]

number_behind-some : (w : ℕ) (behind : List ℕ) → w ≤ (number_behind w behind).length
number_behind-some w behind =
    elim (begins_fraction behind) as (λ v. w ≤ (cond v (lexeme (form.Token kind.Decimal) (w + (1 + prefix_len is_digit (drop 1 behind)))) (lexeme (form.Token kind.Whole) w)).length) [
      | true ↦ omega arith
      | false ↦ omega arith
    ]

number-at_least : (bytes : List ℕ) (n : ℕ) → 0 < n → n ≤ prefix_len is_digit bytes → AtLeast (number bytes) (form.Token kind.Whole) n
unfolding number number_lexeme
number-at_least bytes n s l =
    let w : ℕ = prefix_len is_digit bytes in
    let k = number_behind-some w (drop w bytes) in
    at_least-apart (number_behind w (drop w bytes)) bytes (form.Token kind.Whole) n (omega (arith, k)) (number_behind-whole w n (drop w bytes) l)

at_least-whole : (xs ys : List ℕ) → IsWhole xs → AtLeast (front (xs ++ ys)) (form.Token kind.Whole) (length xs)
at_least-whole xs ys h =
    let r : prefix_len is_digit (xs ++ ys) ≡ length xs + prefix_len is_digit ys = run-append is_digit xs ys h.1 in
    rw (front-number (xs ++ ys) (begins-all is_digit xs ys h.0 h.1)) (number-at_least (xs ++ ys) (length xs) h.0 (omega (arith, r)))

-- digits, a point and digits are read as a decimal
pub number_lexeme-decimal : (whole rest : List ℕ) → list_all is_digit whole ≡ true → begins is_digit rest ≡ true → number_lexeme (whole ++ 46 ∷ rest) ≡ lexeme (form.Token kind.Decimal) (length whole + (1 + prefix_len is_digit rest))
unfolding number_lexeme
number_lexeme-decimal whole rest w d =
    let r : prefix_len is_digit (whole ++ 46 ∷ rest) ≡ length whole = run-stops is_digit whole 46 rest w refl in
    ap (λ n. number_behind n (drop n (whole ++ 46 ∷ rest))) r
    ∙ (ap (number_behind (length whole)) (drop-front whole (46 ∷ rest)) ∙ rw d refl)

decimal-at_least : (whole rest : List ℕ) (f : Form) (n : ℕ) → list_all is_digit whole ≡ true → begins is_digit rest ≡ true → AtLeast (Ok (lexeme (form.Token kind.Decimal) (length whole + (1 + prefix_len is_digit rest)))) f n → AtLeast (number (whole ++ 46 ∷ rest)) f n
unfolding number
decimal-at_least whole rest f n w d h =
    rw (number_lexeme-decimal whole rest w d)
    (at_least-apart (lexeme (form.Token kind.Decimal) (length whole + (1 + prefix_len is_digit rest))) (whole ++ 46 ∷ rest) f n (omega arith) h)

pub front-decimal : (whole rest : List ℕ) → list_all is_digit whole ≡ true → begins is_digit rest ≡ true → front (whole ++ 46 ∷ rest) ≡ number (whole ++ 46 ∷ rest)
front-decimal [] rest w d = rw d refl
front-decimal (b ∷ bs) rest w d = front-number (b ∷ (bs ++ 46 ∷ rest)) (and_parts (is_digit b) (list_all is_digit bs) w).0

at_least-decimal : (xs ys : List ℕ) → IsDecimal xs → AtLeast (front (xs ++ ys)) (form.Token kind.Decimal) (length xs)
at_least-decimal xs ys h =
    let whole = h.whole in
    let rest = h.fraction ++ ys in
    let d : begins is_digit rest ≡ true = begins-all is_digit h.fraction ys h.fraction_digits.0 h.fraction_digits.1 in
    let r : prefix_len is_digit rest ≡ length h.fraction + prefix_len is_digit ys = run-append is_digit h.fraction ys h.fraction_digits.1 in
    let l : length (whole ++ 46 ∷ h.fraction) ≤ length whole + (1 + prefix_len is_digit rest) =
    omega (arith, length-append whole (46 ∷ h.fraction), r) in
    rw (h.spelled, append_assoc whole (46 ∷ h.fraction) ys, front-decimal whole rest h.whole_digits d)
    (decimal-at_least whole rest (form.Token kind.Decimal) (length (whole ++ 46 ∷ h.fraction)) h.whole_digits d
    (same_form (form.Token kind.Decimal) (length (whole ++ 46 ∷ h.fraction)) (length whole + (1 + prefix_len is_digit rest)) l))

further_or-least : (o : Option ℕ) → 1 ≤ further_or 1 2 o
further_or-least None = omega arith
further_or-least (Some n) = omega arith

-- a text that is ended is ended there or later
pub record Ends (o : Option ℕ) (n : ℕ) : Type 0 where
  pub end : ℕ
  pub is : o ≡ Some end
  pub least : n ≤ end

closing-at : (ys : List ℕ) → Ends (closing (39 ∷ ys)) 1
closing-at [] = record { end = 1; is = refl; least = omega arith }
closing-at (c ∷ cs) =
    elim (eqb c 39) as (λ v. Ends (cond v (Some (further_or 1 2 (closing cs))) (Some 1)) 1) [
      | true ↦ record { end = further_or 1 2 (closing cs); is = refl; least = further_or-least (closing cs) }
      | false ↦ record { end = 1; is = refl; least = omega arith }
    ]

pub closing-found : (content ys : List ℕ) → Ends (closing (doubled content ++ 39 ∷ ys)) (length (doubled content) + 1)
closing-found [] ys = closing-at ys
closing-found (b ∷ bs) ys =
    let i : Ends (closing (doubled bs ++ 39 ∷ ys)) (length (doubled bs) + 1) = closing-found bs ys in
    let found : (v : Bool) → eqb b 39 ≡ v → Ends (closing (cond v (39 ∷ 39 ∷ doubled bs) (b ∷ doubled bs) ++ 39 ∷ ys)) (length (cond v (39 ∷ 39 ∷ doubled bs) (b ∷ doubled bs)) + 1) =
    λ v. elim v as (λ v. eqb b 39 ≡ v → Ends (closing (cond v (39 ∷ 39 ∷ doubled bs) (b ∷ doubled bs) ++ 39 ∷ ys)) (length (cond v (39 ∷ 39 ∷ doubled bs) (b ∷ doubled bs)) + 1)) [
      | true ↦ λ e. record { end = 2 + i.end; is = ap (λ o. Some (further_or 1 2 o)) i.is; least = omega (arith, i.least) }
      | false ↦ λ e. record { end = 1 + i.end; is = closing-other b (doubled bs ++ 39 ∷ ys) e ∙ ap (further 1) i.is; least = omega (arith, i.least) }
    ] in
    found (eqb b 39) refl

at_least-text : (xs ys : List ℕ) → IsText xs → AtLeast (front (xs ++ ys)) (form.Token kind.Text) (length xs)
at_least-text xs ys h =
    let i = closing-found h.content ys in
    let e : closing ((doubled h.content ++ 39 ∷ []) ++ ys) ≡ Some i.end = ap closing (append_assoc (doubled h.content) (39 ∷ []) ys) ∙ i.is in
    let l : length (39 ∷ (doubled h.content ++ 39 ∷ [])) ≤ 1 + i.end = omega (arith, length-append (doubled h.content) (39 ∷ []), i.least) in
    rw h.spelled (rw e (same_form (form.Token kind.Text) (length (39 ∷ (doubled h.content ++ 39 ∷ []))) (1 + i.end) l))

pub run-some : (p q : ℕ → Bool) (xs : List ℕ) → ((b : ℕ) → p b ≡ true → q b ≡ true) → begins p xs ≡ true → 0 < prefix_len q xs
run-some p q [] s h = absurd (cc)
run-some p q (x ∷ xs) s h = let e : q x ≡ true = s x h in rw e (omega arith)

minus_in_line : (b : ℕ) → eqb b 45 ≡ true → is_line_byte b ≡ true
minus_in_line b e = grind (arith, nat_tests)

symbol-mark : (a : ℕ) (ys : List ℕ) → is_mark a ≡ true → AtLeast (symbol a ys) (form.Token kind.Symbol) 1
unfolding symbol
symbol-mark a ys m =
    elim (begins (is_pair a) ys) as (λ v. AtLeast (cond v (token kind.Symbol 2) (cond (is_mark a) (token kind.Symbol 1) (cond (eqb a 36 && begins is_digit ys) (token kind.Symbol (1 + prefix_len is_digit ys)) (Err (stop.BadByte 0))))) (form.Token kind.Symbol) 1) [
      | true ↦ inl (omega arith)
      | false ↦ rw m (inr (refl, refl))
    ]

-- a symbol of one byte, by the class of the byte
mark_by : (k : Class) (a : ℕ) (ys : List ℕ) → IsOfClass k a → is_mark a ≡ true → AtLeast (front_by k a ys) (form.Token kind.Symbol) 1
mark_by class.Blank a ys c m = absurd (grind (arith, nat_tests))
mark_by class.Letter a ys c m = absurd (grind (arith, nat_tests))
mark_by class.Digit a ys c m = absurd (grind (arith, nat_tests))
mark_by class.Point a ys c m =
    let point : (v : Bool) → begins is_digit ys ≡ v → AtLeast (cond v (number (a ∷ ys)) (token kind.Symbol 1)) (form.Token kind.Symbol) 1 =
    λ v. elim v as (λ v. begins is_digit ys ≡ v → AtLeast (cond v (number (a ∷ ys)) (token kind.Symbol 1)) (form.Token kind.Symbol) 1) [
      | true ↦ λ d. rw c (decimal-at_least [] ys (form.Token kind.Symbol) 1 refl d
          (inl (let s : 0 < prefix_len is_digit ys = run-some is_digit is_digit ys (λ _ e. e) d in omega arith)))
      | false ↦ λ _. inr (refl, refl)
    ] in
    point (begins is_digit ys) refl
mark_by class.Quote a ys c m = absurd (grind (arith, nat_tests))
mark_by class.Apostrophe a ys c m = absurd (grind (arith, nat_tests))
mark_by class.Minus a ys c m =
    let minus : (v : Bool) → begins (λ d. eqb d 45) ys ≡ v → AtLeast (cond v (Ok (lexeme form.LineComment (1 + prefix_len is_line_byte ys))) (token kind.Symbol 1)) (form.Token kind.Symbol) 1 =
    λ v. elim v as (λ v. begins (λ d. eqb d 45) ys ≡ v → AtLeast (cond v (Ok (lexeme form.LineComment (1 + prefix_len is_line_byte ys))) (token kind.Symbol 1)) (form.Token kind.Symbol) 1) [
      | true ↦ λ d. inl (let s : 0 < prefix_len is_line_byte ys = run-some (λ e. eqb e 45) is_line_byte ys minus_in_line d in omega arith)
      | false ↦ λ _. inr (refl, refl)
    ] in
    minus (begins (λ d. eqb d 45) ys) refl
mark_by class.Slash a ys c m =
    elim (begins (λ d. eqb d 42) ys) as (λ v. AtLeast (cond v (comment_lexeme (comment_end (drop 1 ys))) (token kind.Symbol 1)) (form.Token kind.Symbol) 1) [
      | true ↦ elim (comment_end (drop 1 ys)) as (λ o. AtLeast (comment_lexeme o) (form.Token kind.Symbol) 1) [ None ↦ tt | Some n ↦ inl (omega arith) ]
      | false ↦ inr (refl, refl)
    ]
mark_by class.Other a ys c m = symbol-mark a ys m

symbol-parameter : (d : ℕ) (ds ys : List ℕ) → list_all is_digit (d ∷ ds) ≡ true → AtLeast (symbol 36 (d ∷ (ds ++ ys))) (form.Token kind.Symbol) (length (36 ∷ d ∷ ds))
unfolding symbol
symbol-parameter d ds ys h =
    let both = and_parts (is_digit d) (list_all is_digit ds) h in
    let r : prefix_len is_digit (ds ++ ys) ≡ length ds + prefix_len is_digit ys = run-append is_digit ds ys both.1 in
    let l : length (36 ∷ d ∷ ds) ≤ 1 + (1 + prefix_len is_digit (ds ++ ys)) = omega (arith, r) in
    rw (both.0) (same_form (form.Token kind.Symbol) (length (36 ∷ d ∷ ds)) (1 + (1 + prefix_len is_digit (ds ++ ys))) l)

at_least-parameter : (xs ys : List ℕ) → IsParameter xs → AtLeast (front (xs ++ ys)) (form.Token kind.Symbol) (length xs)
at_least-parameter [] ys h = absurd h
at_least-parameter (b ∷ []) ys h = absurd (omega (arith, h.1.0))
at_least-parameter (b ∷ d ∷ ds) ys h = rw (h.0) (symbol-parameter d ds ys h.1.1)

class_of-pair : (a b : ℕ) → is_pair a b ≡ true → class_of a ≡ class.Other
class_of-pair a b e = grind (arith, nat_tests)

symbol-pair : (a b : ℕ) (ys : List ℕ) → is_pair a b ≡ true → AtLeast (symbol a (b ∷ ys)) (form.Token kind.Symbol) 2
unfolding symbol
symbol-pair a b ys h = rw h (inr (refl, refl))

at_least-symbol : (xs ys : List ℕ) → IsSymbol xs → AtLeast (front (xs ++ ys)) (form.Token kind.Symbol) (length xs)
at_least-symbol [] ys h = absurd h
at_least-symbol (a ∷ []) ys h = mark_by (class_of a) a ys (class_tells a) h
at_least-symbol (a ∷ b ∷ []) ys h = elim h as (λ _. AtLeast (front (a ∷ b ∷ ys)) (form.Token kind.Symbol) 2) [
  | inl p ↦ by_class class.Other a (b ∷ ys) (form.Token kind.Symbol) 2 (class_of-pair a b p) (symbol-pair a b ys p)
  | inr p ↦ at_least-parameter (a ∷ b ∷ []) ys p
]
at_least-symbol (a ∷ b ∷ c ∷ bs) ys h = at_least-parameter (a ∷ b ∷ c ∷ bs) ys h

pub at_least : (f : Form) (xs ys : List ℕ) → IsForm f xs → AtLeast (front (xs ++ ys)) f (length xs)
at_least form.Blank xs ys h = at_least-blank xs ys h
at_least form.LineComment xs ys h = at_least-line xs ys h
at_least form.BlockComment xs ys h = at_least-block xs ys h
at_least (form.Token kind.Word) xs ys h = at_least-word xs ys h
at_least (form.Token kind.Quoted) xs ys h = at_least-quoted xs ys h
at_least (form.Token kind.Whole) xs ys h = at_least-whole xs ys h
at_least (form.Token kind.Decimal) xs ys h = at_least-decimal xs ys h
at_least (form.Token kind.Text) xs ys h = at_least-text xs ys h
at_least (form.Token kind.Symbol) xs ys h = at_least-symbol xs ys h
at_least (form.Token kind.Weight) xs ys h = absurd h
