-- The front that is computed is the lexeme that stands there, and the fault that stands there.
use Rattle.std.proofs.Common.{◌≡◌, ◌≢◌, ℕ, ◌+◌, ◌<◌, ◌≤◌, Bool, true, false, eqb, cond, List, [], ◌∷◌, ◌++◌, length, drop, Option, Some, None, Result, Ok, Err, refl, ap, sym, ◌∙◌, subst, inl, inr, arith}
use Rattle.std.specs.List.{prefix_len, list_all}
use Rattle.std.proofs.lemmas.Bool.Decides.{nat_tests}
use Rattle.std.proofs.lemmas.List.{length-append, append_assoc, drop_at}
use Rattle.sql_tokens.specs.Byte.{begins, is_letter, is_digit, is_name_byte, is_mark}
use Rattle.sql_tokens.specs.Form.{IsForm, IsWhole, IsDecimal, IsQuoted, IsText, IsBlockComment}
use Rattle.sql_tokens.specs.Front.{front, number, number_lexeme, number_behind, apart, quoted, closing, text_lexeme, comment_end, comment_lexeme, lexeme, token}
use Rattle.sql_tokens.specs.Cut.{NoFront, IsOpen, IsBad, OpensText, OpensName, OpensComment, EmptyName, LetterBehind, BeginsNothing, Stands}
use Rattle.sql_tokens.specs.declared.lexeme.Form.{Form}
use Rattle.sql_tokens.specs.declared.lexeme.Form.TheVariants as form
use Rattle.sql_tokens.specs.declared.token.TokenKind.TheVariants as kind
use Rattle.sql_tokens.specs.declared.lexeme.Lexeme.{Lexeme}
use Rattle.sql_tokens.specs.declared.lexeme.NoLexeme.{NoLexeme}
use Rattle.sql_tokens.specs.declared.lexeme.NoLexeme.TheVariants as stop
use Rattle.sql_tokens.proofs.Runs.{run-stops, drop-front}
use Rattle.sql_tokens.proofs.AtLeast.{AtLeast, at_least, front-number, front-decimal, begins-all, number_lexeme-decimal}
use Rattle.sql_tokens.proofs.Sound.{FrontTells, tells, HasFront, has_quoted, first_of_begins}
use Rattle.sql_tokens.proofs.Endings.{is_that}

text_open : (bs : List ℕ) (o : Option ℕ) → closing bs ≡ o → NoFront IsText (39 ∷ bs) → text_lexeme o ≡ Err stop.OpenText
text_open bs None e n = refl
text_open bs (Some m) e n =
    let h : HasFront (form.Token kind.Text) (1 + m) (39 ∷ bs) = subst (λ o. FrontTells (39 ∷ bs) (text_lexeme o)) e (tells 39 bs) in
    absurd (n h.bytes h.rest h.spelled h.is_form)

comment_open : (bs : List ℕ) (o : Option ℕ) → comment_end bs ≡ o → NoFront IsBlockComment (47 ∷ 42 ∷ bs) → comment_lexeme o ≡ Err stop.OpenText
comment_open bs None e n = refl
comment_open bs (Some m) e n =
    let h : HasFront form.BlockComment (2 + m) (47 ∷ 42 ∷ bs) = subst (λ o. FrontTells (47 ∷ 42 ∷ bs) (comment_lexeme o)) e (tells 47 (42 ∷ bs)) in
    absurd (n h.bytes h.rest h.spelled h.is_form)

neither : {A : Type 0} (t z : Bool) (x y w : A) → (t ≡ true → z ≡ true → ⊥) → (t ≡ true → z ≡ false → ⊥) → cond t (cond z x y) w ≡ w
neither true true x y w f g = absurd (f refl refl)
neither true false x y w f g = absurd (g refl refl)
neither false z x y w f g = refl

name_open : (bs : List ℕ) → begins (λ c. eqb c 34) bs ≡ false → NoFront IsQuoted (34 ∷ bs) → quoted bs ≡ Err stop.OpenText
unfolding quoted
name_open bs b n =
    let w : ℕ = prefix_len is_name_byte bs in
    neither (begins (λ c. eqb c 34) (drop w bs)) (eqb w 0) (Err (stop.BadByte 1)) (token kind.Quoted (w + 2)) (Err stop.OpenText)
    (λ t z. let z0 : w ≡ 0 = is_that 0 w z in
    let e : begins (λ c. eqb c 34) bs ≡ true = ap (λ n. begins (λ c. eqb c 34) (drop n bs)) (sym z0) ∙ t in
    absurd (cc))
    (λ t z. let h = has_quoted bs t z in n h.bytes h.rest h.spelled h.is_form)

opens_text : (text : List ℕ) → OpensText text → front text ≡ Err stop.OpenText
opens_text [] h = absurd h
opens_text (b ∷ bs) h =
    let n : NoFront IsText (39 ∷ bs) = subst (λ x. NoFront IsText (x ∷ bs)) h.0 h.1 in
    rw (h.0) (text_open bs (closing bs) refl n)

opens_name : (text : List ℕ) → OpensName text → front text ≡ Err stop.OpenText
opens_name [] h = absurd h
opens_name (b ∷ bs) h =
    let n : NoFront IsQuoted (34 ∷ bs) = subst (λ x. NoFront IsQuoted (x ∷ bs)) h.0 h.2 in
    rw (h.0) (name_open bs h.1 n)

opens_comment : (text : List ℕ) → OpensComment text → front text ≡ Err stop.OpenText
opens_comment [] h = absurd h
opens_comment (b ∷ []) h = absurd h
opens_comment (b ∷ c ∷ bs) h =
    let m : NoFront IsBlockComment (47 ∷ c ∷ bs) = subst (λ x. NoFront IsBlockComment (x ∷ c ∷ bs)) h.0 h.2 in
    let n : NoFront IsBlockComment (47 ∷ 42 ∷ bs) = subst (λ x. NoFront IsBlockComment (47 ∷ x ∷ bs)) h.1 m in
    rw (h.0, h.1) (comment_open bs (comment_end bs) refl n)

-- what is open is computed as open
pub open_front : (text : List ℕ) → IsOpen text → front text ≡ Err stop.OpenText
open_front text h = elim h [ inl a ↦ opens_text text a | inr k ↦ elim k [ inl b ↦ opens_name text b | inr c ↦ opens_comment text c ] ]

empty_quoted : (bs : List ℕ) → begins (λ c. eqb c 34) bs ≡ true → quoted bs ≡ Err (stop.BadByte 1)
unfolding quoted
empty_quoted [] h = absurd (cc)
empty_quoted (c ∷ cs) h = rw (is_that 34 c h) refl

empty_name : (text : List ℕ) (n : ℕ) → EmptyName text n → front text ≡ Err (stop.BadByte n)
empty_name [] n h = absurd h
empty_name (b ∷ bs) n h = rw (h.0, h.2) (empty_quoted bs h.1)

letter_no_digit : (c : ℕ) → is_letter c ≡ true → is_digit c ≡ false
letter_no_digit c e = grind (arith, nat_tests)

letter_no_point : (c : ℕ) → is_letter c ≡ true → eqb c 46 ≡ false
letter_no_point c e = grind (arith, nat_tests)

bad_apart : (p : Lexeme) (front rest : List ℕ) → length front ≡ p.length → begins is_letter rest ≡ true → apart p (front ++ rest) ≡ Err (stop.BadByte p.length)
bad_apart p front rest l h =
    let e : begins is_letter (drop p.length (front ++ rest)) ≡ true = ap (begins is_letter) (drop_at front rest p.length l) ∙ h in
    rw e refl

number_lexeme-whole : (xs : List ℕ) (c : ℕ) (rs : List ℕ) → list_all is_digit xs ≡ true → is_letter c ≡ true → number_lexeme (xs ++ c ∷ rs) ≡ lexeme (form.Token kind.Whole) (length xs)
unfolding number_lexeme
number_lexeme-whole xs c rs d h =
    let r : prefix_len is_digit (xs ++ c ∷ rs) ≡ length xs = run-stops is_digit xs c rs d (letter_no_digit c h) in
    let p : eqb c 46 ≡ false = letter_no_point c h in
    ap (λ n. number_behind n (drop n (xs ++ c ∷ rs))) r
    ∙ (ap (number_behind (length xs)) (drop-front xs (c ∷ rs)) ∙ rw p refl)

letter_whole : (xs : List ℕ) (c : ℕ) (rs : List ℕ) → IsWhole xs → is_letter c ≡ true → front (xs ++ c ∷ rs) ≡ Err (stop.BadByte (length xs))
unfolding number
letter_whole xs c rs w h =
    front-number (xs ++ c ∷ rs) (begins-all is_digit xs (c ∷ rs) w.0 w.1)
    ∙ (ap (λ p. apart p (xs ++ c ∷ rs)) (number_lexeme-whole xs c rs w.1 h)
    ∙ bad_apart (lexeme (form.Token kind.Whole) (length xs)) xs (c ∷ rs) refl h)

letter_decimal : (xs : List ℕ) (c : ℕ) (rs : List ℕ) → IsDecimal xs → is_letter c ≡ true → front (xs ++ c ∷ rs) ≡ Err (stop.BadByte (length xs))
unfolding number
letter_decimal xs c rs w h =
    let rest : List ℕ = w.fraction ++ c ∷ rs in
    let text : List ℕ = w.whole ++ 46 ∷ rest in
    let d : begins is_digit rest ≡ true = begins-all is_digit w.fraction (c ∷ rs) w.fraction_digits.0 w.fraction_digits.1 in
    let r : prefix_len is_digit rest ≡ length w.fraction = run-stops is_digit w.fraction c rs w.fraction_digits.1 (letter_no_digit c h) in
    let e : xs ++ c ∷ rs ≡ text = ap (λ ys. ys ++ c ∷ rs) w.spelled ∙ append_assoc w.whole (46 ∷ w.fraction) (c ∷ rs) in
    let l : length xs ≡ length w.whole + (1 + prefix_len is_digit rest) =
    ap length w.spelled ∙ omega (arith, length-append w.whole (46 ∷ w.fraction), r) in
    let p : Lexeme = lexeme (form.Token kind.Decimal) (length w.whole + (1 + prefix_len is_digit rest)) in
    let n : number text ≡ Err (stop.BadByte (length w.whole + (1 + prefix_len is_digit rest))) =
    ap (λ q. apart q text) (number_lexeme-decimal w.whole rest w.whole_digits d)
    ∙ (ap (apart p) (sym e) ∙ bad_apart p xs (c ∷ rs) l h) in
    ap front e ∙ (front-decimal w.whole rest w.whole_digits d ∙ (n ∙ ap (λ m. Err (stop.BadByte m)) (sym l)))

letter_behind : (text : List ℕ) (n : ℕ) → LetterBehind text n → front text ≡ Err (stop.BadByte n)
letter_behind text n h =
    let f = first_of_begins is_letter h.rest h.letter in
    let e : text ≡ h.number ++ f.first ∷ f.rest = h.spelled ∙ ap (λ ys. h.number ++ ys) f.spelled in
    let b : front (h.number ++ f.first ∷ f.rest) ≡ Err (stop.BadByte (length h.number)) =
    elim h.is_number [ inl w ↦ letter_whole h.number f.first f.rest w f.passes | inr w ↦ letter_decimal h.number f.first f.rest w f.passes ] in
    ap front e ∙ (b ∙ ap (λ m. Err (stop.BadByte m)) (sym h.place))

opens_no_comment : (b : ℕ) (bs : List ℕ) → ((f : Form) → NoFront (IsForm f) (b ∷ bs)) → OpensComment (b ∷ bs) → ⊥
opens_no_comment b [] n h = h
opens_no_comment b (c ∷ bs) n h =
    let m : is_mark b ≡ true = rw (h.0) refl in
    n (form.Token kind.Symbol) (b ∷ []) (c ∷ bs) refl m

nothing_by : (b : ℕ) (bs : List ℕ) (r : Result Lexeme NoLexeme) → b ≢ 39 → b ≢ 34 → ((f : Form) → NoFront (IsForm f) (b ∷ bs)) → FrontTells (b ∷ bs) r → r ≡ Err (stop.BadByte 0)
nothing_by b bs (Ok p) q m n t = absurd (n p.form t.bytes t.rest t.spelled t.is_form)
nothing_by b bs (Err stop.OpenText) q m n t =
    absurd (elim t as (λ _. ⊥) [ inl a ↦ q (a.0) | inr k ↦ elim k as (λ _. ⊥) [ inl c ↦ m (c.0) | inr c ↦ opens_no_comment b bs n c ] ])
nothing_by b bs (Err (stop.BadByte k)) q m n t =
    elim t as (λ _. ◌≡◌ {A = Result Lexeme NoLexeme} (Err (stop.BadByte k)) (Err (stop.BadByte 0))) [
      | inl a ↦ absurd (m (a.0))
      | inr w ↦ elim w as (λ _. ◌≡◌ {A = Result Lexeme NoLexeme} (Err (stop.BadByte k)) (Err (stop.BadByte 0))) [
        | inl c ↦ absurd (elim c.is_number as (λ _. ⊥) [
          | inl x ↦ n (form.Token kind.Whole) c.number c.rest c.spelled x
          | inr x ↦ n (form.Token kind.Decimal) c.number c.rest c.spelled x
        ])
        | inr c ↦ ap (λ i. Err (stop.BadByte i)) (c.3)
      ]
    ]

begins_nothing : (text : List ℕ) (n : ℕ) → BeginsNothing text n → front text ≡ Err (stop.BadByte n)
begins_nothing [] n h = absurd h
begins_nothing (b ∷ bs) n h = rw (h.3) (nothing_by b bs (front (b ∷ bs)) h.0 h.1 h.2 (tells b bs))

-- what is bad is computed as bad
pub bad_front : (text : List ℕ) (n : ℕ) → IsBad text n → front text ≡ Err (stop.BadByte n)
bad_front text n h = elim h [ inl a ↦ empty_name text n a | inr k ↦ elim k [ inl b ↦ letter_behind text n b | inr c ↦ begins_nothing text n c ] ]

-- a lexeme has a byte
pub form_some : (f : Form) (bytes : List ℕ) → IsForm f bytes → 0 < length bytes
form_some form.Blank [] h = absurd h
form_some form.LineComment [] h = absurd h
form_some form.BlockComment [] h = let e = h.spelled in absurd (cc)
form_some (form.Token kind.Word) [] h = absurd h
form_some (form.Token kind.Quoted) [] h = let e = h.spelled in absurd (cc)
form_some (form.Token kind.Whole) [] h = h.0
form_some (form.Token kind.Decimal) [] h = omega (arith, length-append h.whole (46 ∷ h.fraction), ap length h.spelled)
form_some (form.Token kind.Text) [] h = let e = h.spelled in absurd (cc)
form_some (form.Token kind.Symbol) [] h = absurd h
form_some (form.Token kind.Weight) [] h = absurd h
form_some f (b ∷ bs) h = omega arith

pub tells_some : (text : List ℕ) → 0 < length text → FrontTells text (front text)
tells_some [] l = absurd (omega arith)
tells_some (b ∷ bs) l = tells b bs

same_lexeme : (f g : Form) (m n : ℕ) → f ≡ g → m ≡ n → lexeme f m ≡ lexeme g n
same_lexeme f g m n a b = ap (λ h. lexeme h m) a ∙ ap (λ k. lexeme g k) b

stands_by : (r : Result Lexeme NoLexeme) (f : Form) (bytes rest : List ℕ) → Stands f bytes rest → AtLeast r f (length bytes) → FrontTells (bytes ++ rest) r → r ≡ Ok (lexeme f (length bytes))
stands_by (Err stop.OpenText) f bytes rest h a t = absurd (h.closed t)
stands_by (Err (stop.BadByte n)) f bytes rest h a t = absurd (h.good n t)
stands_by (Ok p) f bytes rest h a t =
    let l : length t.bytes ≤ length bytes = h.longest p.form t.bytes t.rest t.spelled t.is_form in
    elim a as (λ _. ◌≡◌ {A = Result Lexeme NoLexeme} (Ok p) (Ok (lexeme f (length bytes)))) [
      | inl k ↦ absurd (omega (arith, k, l, t.long))
      | inr e ↦ ap Ok (same_lexeme p.form f p.length (length bytes) (sym e.1) (sym e.0))
    ]

-- what stands at the front is computed
pub stands_front : (f : Form) (bytes rest : List ℕ) → Stands f bytes rest → front (bytes ++ rest) ≡ Ok (lexeme f (length bytes))
stands_front f bytes rest h =
    let s : 0 < length bytes = form_some f bytes h.is_form in
    stands_by (front (bytes ++ rest)) f bytes rest h (at_least f bytes rest h.is_form)
    (tells_some (bytes ++ rest) (omega (arith, length-append bytes rest)))

at_most : (p : Lexeme) (f : Form) (n : ℕ) → AtLeast (Ok p) f n → n ≤ p.length
at_most p f n a = elim a [ inl k ↦ omega arith | inr e ↦ omega (arith, e.0) ]

-- what is computed stands at the front
pub front_stands : (p : Lexeme) (text : List ℕ) (h : HasFront p.form p.length text) → front text ≡ Ok p → Stands p.form h.bytes h.rest
front_stands p text h e =
    let same : front (h.bytes ++ h.rest) ≡ Ok p = ap front (sym h.spelled) ∙ e in
    record {
      is_form = h.is_form;
      longest = λ f xs ys q i.
          (let a : AtLeast (front (xs ++ ys)) f (length xs) = at_least f xs ys i in
          let b : AtLeast (Ok p) f (length xs) = subst (λ r. AtLeast r f (length xs)) (ap front (sym q) ∙ same) a in
          omega (arith, at_most p f (length xs) b, h.long));
      closed = λ o. (let x : front (h.bytes ++ h.rest) ≡ Err stop.OpenText = open_front (h.bytes ++ h.rest) o in cc);
      good = λ n b. (let x : front (h.bytes ++ h.rest) ≡ Err (stop.BadByte n) = bad_front (h.bytes ++ h.rest) n b in cc);
    }
