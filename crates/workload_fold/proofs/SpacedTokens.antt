-- The bytes of a token with a space behind them are cut into that token and the rest.
use Rattle.std.proofs.Common.{◌≡◌, ℕ, ◌+◌, Bool, true, false, eqb, cond, List, [], ◌∷◌, ◌++◌, length, drop, Some, Ok, refl, ap, sym, ◌∙◌, append_assoc, inl, inr, arith}
use Rattle.std.specs.List.{prefix_len, list_all}
use Rattle.std.proofs.lemmas.Bool.{and_parts}
use Rattle.std.proofs.lemmas.Bool.Decides.{nat_tests}
use Rattle.std.proofs.lemmas.List.{length-append, drop_at}
use Rattle.sql_tokens.specs.Byte.{begins, class_of, is_letter, is_word_byte, is_digit, is_mark, is_pair}
use Rattle.sql_tokens.specs.Form.{IsWord, IsWhole, IsDecimal, IsQuoted, IsText, IsSymbol, IsParameter, IsToken, doubled}
use Rattle.sql_tokens.specs.Front.{front, front_by, number, number_lexeme, number_behind, apart, quoted, closing, text_lexeme, symbol, lexeme, token, further, further_or}
use Rattle.sql_tokens.specs.declared.byte.Class.{Class}
use Rattle.sql_tokens.specs.declared.byte.Class.TheVariants as class
use Rattle.sql_tokens.specs.declared.lexeme.Form.TheVariants as form
use Rattle.sql_tokens.specs.declared.lexeme.Lexeme.{Lexeme}
use Rattle.sql_tokens.specs.declared.token.TokenKind.{TokenKind}
use Rattle.sql_tokens.specs.declared.token.TokenKind.TheVariants as kind
use Rattle.sql_tokens.proofs.Runs.{run-stops, drop-front, class_of-letter, class_tells, IsOfClass}
use Rattle.sql_tokens.proofs.Scan.{closing-other}
use Rattle.sql_tokens.proofs.AtLeast.{quoted-found, begins-all, front-number, number_lexeme-decimal, front-decimal}

word_spaced : (xs more : List ℕ) → IsWord xs → front (xs ++ 32 ∷ more) ≡ token kind.Word (length xs)
word_spaced [] more h = absurd h
word_spaced (b ∷ bs) more h =
    let r : prefix_len is_word_byte (bs ++ 32 ∷ more) ≡ length bs = run-stops is_word_byte bs 32 more h.1 refl in
    let l : 1 + prefix_len is_word_byte (bs ++ 32 ∷ more) ≡ length (b ∷ bs) = omega (arith, r) in
    ap (λ k. front_by k b (bs ++ 32 ∷ more)) (class_of-letter b h.0) ∙ ap (token kind.Word) l

-- ## Numbers

apart_spaced : (p : Lexeme) (xs more : List ℕ) → length xs ≡ p.length → apart p (xs ++ 32 ∷ more) ≡ Ok p
apart_spaced p xs more l =
    let e : begins is_letter (drop p.length (xs ++ 32 ∷ more)) ≡ false = ap (begins is_letter) (drop_at xs (32 ∷ more) p.length l) in
    rw e refl

number_lexeme-spaced : (xs more : List ℕ) → list_all is_digit xs ≡ true → number_lexeme (xs ++ 32 ∷ more) ≡ lexeme (form.Token kind.Whole) (length xs)
unfolding number_lexeme
number_lexeme-spaced xs more d =
    let r : prefix_len is_digit (xs ++ 32 ∷ more) ≡ length xs = run-stops is_digit xs 32 more d refl in
    ap (λ n. number_behind n (drop n (xs ++ 32 ∷ more))) r ∙ ap (number_behind (length xs)) (drop-front xs (32 ∷ more))

whole_spaced : (xs more : List ℕ) → IsWhole xs → front (xs ++ 32 ∷ more) ≡ token kind.Whole (length xs)
unfolding number
whole_spaced xs more w =
    front-number (xs ++ 32 ∷ more) (begins-all is_digit xs (32 ∷ more) w.0 w.1)
    ∙ (ap (λ p. apart p (xs ++ 32 ∷ more)) (number_lexeme-spaced xs more w.1) ∙ apart_spaced (lexeme (form.Token kind.Whole) (length xs)) xs more refl)

decimal_spaced : (xs more : List ℕ) → IsDecimal xs → front (xs ++ 32 ∷ more) ≡ token kind.Decimal (length xs)
unfolding number
decimal_spaced xs more w =
    let rest : List ℕ = w.fraction ++ 32 ∷ more in
    let text : List ℕ = w.whole ++ 46 ∷ rest in
    let d : begins is_digit rest ≡ true = begins-all is_digit w.fraction (32 ∷ more) w.fraction_digits.0 w.fraction_digits.1 in
    let r : prefix_len is_digit rest ≡ length w.fraction = run-stops is_digit w.fraction 32 more w.fraction_digits.1 refl in
    let e : xs ++ 32 ∷ more ≡ text = ap (λ ys. ys ++ 32 ∷ more) w.spelled ∙ append_assoc w.whole (46 ∷ w.fraction) (32 ∷ more) in
    let l : length xs ≡ length w.whole + (1 + prefix_len is_digit rest) =
    ap length w.spelled ∙ omega (arith, length-append w.whole (46 ∷ w.fraction), r) in
    let p : Lexeme = lexeme (form.Token kind.Decimal) (length w.whole + (1 + prefix_len is_digit rest)) in
    let n : number text ≡ Ok p =
    ap (λ q. apart q text) (number_lexeme-decimal w.whole rest w.whole_digits d) ∙ (ap (apart p) (sym e) ∙ apart_spaced p xs more l) in
    ap front e ∙ (front-decimal w.whole rest w.whole_digits d ∙ (n ∙ ap (token kind.Decimal) (sym l)))

-- ## Names and texts in quotes

quoted_spaced : (xs more : List ℕ) → IsQuoted xs → front (xs ++ 32 ∷ more) ≡ token kind.Quoted (length xs)
quoted_spaced xs more h =
    let e : quoted ((h.name ++ 34 ∷ []) ++ 32 ∷ more) ≡ token kind.Quoted (length h.name + 2) =
    ap quoted (append_assoc h.name (34 ∷ []) (32 ∷ more)) ∙ quoted-found h.name (32 ∷ more) h.some h.name_bytes in
    let l : length h.name + 2 ≡ length xs = omega (arith, length-append h.name (34 ∷ []), ap length h.spelled) in
    ap (λ ys. front (ys ++ 32 ∷ more)) h.spelled ∙ (e ∙ ap (token kind.Quoted) l)

-- a text ends at its last quote
closing_spaced : (content more : List ℕ) → closing (doubled content ++ 39 ∷ 32 ∷ more) ≡ Some (length (doubled content) + 1)
closing_spaced [] more = refl
closing_spaced (b ∷ bs) more = found (eqb b 39) refl (closing_spaced bs more)
  where
    found : (v : Bool) → eqb b 39 ≡ v → closing (doubled bs ++ 39 ∷ 32 ∷ more) ≡ Some (length (doubled bs) + 1)
        → closing (cond v (39 ∷ 39 ∷ doubled bs) (b ∷ doubled bs) ++ 39 ∷ 32 ∷ more) ≡ Some (length (cond v (39 ∷ 39 ∷ doubled bs) (b ∷ doubled bs)) + 1)
    found true e i = ap (λ o. Some (further_or 1 2 o)) i ∙ ap Some (omega arith)
    found false e i = closing-other b (doubled bs ++ 39 ∷ 32 ∷ more) e ∙ (ap (further 1) i ∙ ap Some (omega arith))

text_spaced : (xs more : List ℕ) → IsText xs → front (xs ++ 32 ∷ more) ≡ token kind.Text (length xs)
text_spaced xs more h =
    let e : closing ((doubled h.content ++ 39 ∷ []) ++ 32 ∷ more) ≡ Some (length (doubled h.content) + 1) =
    ap closing (append_assoc (doubled h.content) (39 ∷ []) (32 ∷ more)) ∙ closing_spaced h.content more in
    let l : 1 + (length (doubled h.content) + 1) ≡ length xs = omega (arith, length-append (doubled h.content) (39 ∷ []), ap length h.spelled) in
    ap (λ ys. front (ys ++ 32 ∷ more)) h.spelled ∙ (ap text_lexeme e ∙ ap (token kind.Text) l)

-- ## Symbols

no_pair : (a : ℕ) → is_pair a 32 ≡ false
no_pair a = grind (arith, nat_tests)

symbol_mark : (a : ℕ) (more : List ℕ) → is_mark a ≡ true → symbol a (32 ∷ more) ≡ token kind.Symbol 1
unfolding symbol
symbol_mark a more m = rw (no_pair a, m) refl

mark_spaced : (k : Class) (a : ℕ) (more : List ℕ) → IsOfClass k a → is_mark a ≡ true → front_by k a (32 ∷ more) ≡ token kind.Symbol 1
mark_spaced class.Blank a more c m = absurd (grind (arith, nat_tests))
mark_spaced class.Letter a more c m = absurd (grind (arith, nat_tests))
mark_spaced class.Digit a more c m = absurd (grind (arith, nat_tests))
mark_spaced class.Point a more c m = refl
mark_spaced class.Quote a more c m = absurd (grind (arith, nat_tests))
mark_spaced class.Apostrophe a more c m = absurd (grind (arith, nat_tests))
mark_spaced class.Minus a more c m = refl
mark_spaced class.Slash a more c m = refl
mark_spaced class.Other a more c m = symbol_mark a more m

class_of-pair : (a b : ℕ) → is_pair a b ≡ true → class_of a ≡ class.Other
class_of-pair a b e = grind (arith, nat_tests)

symbol_pair : (a b : ℕ) (more : List ℕ) → is_pair a b ≡ true → symbol a (b ∷ more) ≡ token kind.Symbol 2
unfolding symbol
symbol_pair a b more h = rw h refl

pair_spaced : (a b : ℕ) (more : List ℕ) → is_pair a b ≡ true → front (a ∷ b ∷ more) ≡ token kind.Symbol 2
pair_spaced a b more h = ap (λ k. front_by k a (b ∷ more)) (class_of-pair a b h) ∙ symbol_pair a b more h

symbol_parameter : (d : ℕ) (ds more : List ℕ) → list_all is_digit (d ∷ ds) ≡ true → symbol 36 (d ∷ (ds ++ 32 ∷ more)) ≡ token kind.Symbol (length (36 ∷ d ∷ ds))
unfolding symbol
symbol_parameter d ds more h =
    let both = and_parts (is_digit d) (list_all is_digit ds) h in
    let r : prefix_len is_digit (ds ++ 32 ∷ more) ≡ length ds = run-stops is_digit ds 32 more both.1 refl in
    let l : 1 + (1 + prefix_len is_digit (ds ++ 32 ∷ more)) ≡ length (36 ∷ d ∷ ds) = omega (arith, r) in
    rw (both.0) (ap (token kind.Symbol) l)

parameter_spaced : (xs more : List ℕ) → IsParameter xs → front (xs ++ 32 ∷ more) ≡ token kind.Symbol (length xs)
parameter_spaced [] more h = absurd h
parameter_spaced (b ∷ []) more h = absurd (omega (arith, h.1.0))
parameter_spaced (b ∷ d ∷ ds) more h = rw (h.0) (symbol_parameter d ds more h.1.1)

symbol_spaced : (xs more : List ℕ) → IsSymbol xs → front (xs ++ 32 ∷ more) ≡ token kind.Symbol (length xs)
symbol_spaced [] more h = absurd h
symbol_spaced (a ∷ []) more h = mark_spaced (class_of a) a more (class_tells a) h
symbol_spaced (a ∷ b ∷ []) more h = elim h [ inl p ↦ pair_spaced a b (32 ∷ more) p | inr p ↦ parameter_spaced (a ∷ b ∷ []) more p ]
symbol_spaced (a ∷ b ∷ c ∷ bs) more h = parameter_spaced (a ∷ b ∷ c ∷ bs) more h

-- a token of any kind
pub token_spaced : (k : TokenKind) (xs more : List ℕ) → IsToken k xs → front (xs ++ 32 ∷ more) ≡ token k (length xs)
token_spaced kind.Word xs more h = word_spaced xs more h
token_spaced kind.Quoted xs more h = quoted_spaced xs more h
token_spaced kind.Whole xs more h = whole_spaced xs more h
token_spaced kind.Decimal xs more h = decimal_spaced xs more h
token_spaced kind.Text xs more h = text_spaced xs more h
token_spaced kind.Symbol xs more h = symbol_spaced xs more h
token_spaced kind.Weight xs more h = absurd h

-- the `;` at the end of a line, and the line feed
pub semicolon_front : (more : List ℕ) → front (59 ∷ 10 ∷ more) ≡ token kind.Symbol 1
unfolding symbol
semicolon_front more = refl
