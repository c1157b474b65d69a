-- What the front that is computed tells of the text: a lexeme stands there, or a fault.
use Rattle.std.proofs.Common.{◌≡◌, ◌≢◌, ℕ, ◌+◌, ◌<◌, Bool, true, false, ◌&&◌, eqb, cond, List, [], ◌∷◌, ◌++◌, length, take, drop, Option, Some, None, Result, Ok, Err, refl, ap, sym, ◌∙◌, subst, ◌⊎◌, inl, inr, arith}
use Rattle.std.specs.List.{prefix_len, list_all}
use Rattle.std.proofs.lemmas.Bool.{and_parts}
use Rattle.std.proofs.lemmas.Bool.Decides.{nat_tests}
use Rattle.std.proofs.lemmas.List.{length-append, append_assoc, length-take-le, take-append-drop, drop_at}
use Rattle.std.proofs.lemmas.List.Sums.{prefix_len-le-length}
use Rattle.sql_tokens.specs.Byte.{begins, class_of, is_letter, is_word_byte, is_digit, is_mark, is_pair, is_name_byte, is_line_byte}
use Rattle.sql_tokens.specs.Form.{IsWhole, IsDecimal, IsQuoted, IsText, IsSymbol, IsParameter, IsBlockComment, IsForm, doubled}
use Rattle.sql_tokens.specs.Front.{front, front_by, number, number_lexeme, number_behind, apart, begins_fraction, quoted, closing, text_lexeme, comment_end, comment_lexeme, symbol, lexeme, token}
use Rattle.sql_tokens.specs.Cut.{NoFront, IsOpen, IsBad}
use Rattle.sql_tokens.specs.declared.byte.Class.{Class}
use Rattle.sql_tokens.specs.declared.byte.Class.TheVariants as class
use Rattle.sql_tokens.specs.declared.token.TokenKind.TheVariants as kind
use Rattle.sql_tokens.specs.declared.lexeme.Form.{Form}
use Rattle.sql_tokens.specs.declared.lexeme.Form.TheVariants as form
use Rattle.sql_tokens.specs.declared.lexeme.Lexeme.{Lexeme}
use Rattle.sql_tokens.specs.declared.lexeme.NoLexeme.{NoLexeme}
use Rattle.sql_tokens.specs.declared.lexeme.NoLexeme.TheVariants as stop
use Rattle.sql_tokens.proofs.Runs.{list_all-run, class_tells, IsOfClass}
use Rattle.sql_tokens.proofs.AtLeast.{AtLeast, at_least, closing-found, quoted-found, comment_end-found, number_lexeme-decimal, run-some}
use Rattle.sql_tokens.proofs.Endings.{is_that, CommentEnds, comment_ends, TextEnds, text_ends}

-- a lexeme of so many bytes at the front
pub record HasFront (f : Form) (n : ℕ) (text : List ℕ) : Type 0 where
  pub bytes : List ℕ
  pub rest : List ℕ
  pub spelled : text ≡ bytes ++ rest
  pub long : length bytes ≡ n
  pub is_form : IsForm f bytes

-- what a front that is computed says
abbrev pub FrontTells : List ℕ → Result Lexeme NoLexeme → Type 0
FrontTells text (Ok p) = HasFront p.form p.length text
FrontTells text (Err (stop.BadByte n)) = IsBad text n
FrontTells text (Err stop.OpenText) = IsOpen text

tells_if : (text : List ℕ) (t : Bool) (x y : Result Lexeme NoLexeme) → (t ≡ true → FrontTells text x) → (t ≡ false → FrontTells text y) → FrontTells text (cond t x y)
tells_if text true x y f g = f refl
tells_if text false x y f g = g refl

-- a run of bytes of a set is cut off whole
pub record Run (p : ℕ → Bool) (text : List ℕ) : Type 0 where
  pub run : List ℕ
  pub rest : List ℕ
  pub spelled : text ≡ run ++ rest
  pub long : length run ≡ prefix_len p text
  pub in_set : list_all p run ≡ true
  pub behind : rest ≡ drop (prefix_len p text) text

pub run_of : (p : ℕ → Bool) (text : List ℕ) → Run p text
run_of p text = record {
  run = take (prefix_len p text) text;
  rest = drop (prefix_len p text) text;
  spelled = sym (take-append-drop (prefix_len p text) text);
  long = length-take-le (prefix_len p text) text (prefix_len-le-length p text);
  in_set = list_all-run p text;
  behind = refl;
}

tells-word : (b : ℕ) (bs : List ℕ) → is_letter b ≡ true → HasFront (form.Token kind.Word) (1 + prefix_len is_word_byte bs) (b ∷ bs)
tells-word b bs h =
    let r = run_of is_word_byte bs in
    record {
      bytes = b ∷ r.run;
      rest = r.rest;
      spelled = ap (λ ys. b ∷ ys) r.spelled;
      long = omega (arith, r.long);
      is_form = (h, r.in_set);
    }

-- what stands first where the bytes begin with one that passes
pub record First (p : ℕ → Bool) (bs : List ℕ) : Type 0 where
  pub first : ℕ
  pub rest : List ℕ
  pub spelled : bs ≡ first ∷ rest
  pub passes : p first ≡ true

pub first_of_begins : (p : ℕ → Bool) (bs : List ℕ) → begins p bs ≡ true → First p bs
first_of_begins p [] h = absurd (cc)
first_of_begins p (b ∷ bs) h = record { first = b; rest = bs; spelled = refl; passes = h }

tells-line : (bs : List ℕ) → begins (λ c. eqb c 45) bs ≡ true → HasFront form.LineComment (1 + prefix_len is_line_byte bs) (45 ∷ bs)
tells-line [] h = absurd (cc)
tells-line (c ∷ bs) h =
    let r = run_of is_line_byte bs in
    rw (is_that 45 c h) (record {
      bytes = 45 ∷ 45 ∷ r.run;
      rest = r.rest;
      spelled = ap (λ ys. 45 ∷ 45 ∷ ys) r.spelled;
      long = omega (arith, r.long);
      is_form = (refl, refl, r.in_set);
    })

-- a number, which a letter may follow
tells-apart : (p : Lexeme) (text : List ℕ) (h : HasFront p.form p.length text) → IsWhole h.bytes ⊎ IsDecimal h.bytes → FrontTells text (apart p text)
tells-apart p text h k =
    let e : drop p.length text ≡ h.rest = ap (drop p.length) h.spelled ∙ drop_at h.bytes h.rest p.length h.long in
    tells_if text (begins is_letter (drop p.length text)) (Err (stop.BadByte p.length)) (Ok p)
    (λ t. inr (inl (record {
      number = h.bytes;
      rest = h.rest;
      spelled = h.spelled;
      is_number = k;
      letter = ap (begins is_letter) (sym e) ∙ t;
      place = sym h.long;
    })))
    (λ _. h)

-- a number at the front
pub record HasNumber (p : Lexeme) (text : List ℕ) : Type 0 where
  pub front : HasFront p.form p.length text
  pub is_number : IsWhole front.bytes ⊎ IsDecimal front.bytes

has_decimal : (text whole rest : List ℕ) (n : ℕ) → text ≡ whole ++ 46 ∷ rest → list_all is_digit whole ≡ true → begins is_digit rest ≡ true → n ≡ length whole + (1 + prefix_len is_digit rest) → HasNumber (lexeme (form.Token kind.Decimal) n) text
has_decimal text whole rest n e w d l =
    let r = run_of is_digit rest in
    let s : 0 < prefix_len is_digit rest = run-some is_digit is_digit rest (λ _ h. h) d in
    let decimal : IsDecimal (whole ++ 46 ∷ r.run) = record {
      whole = whole;
      fraction = r.run;
      spelled = refl;
      whole_digits = w;
      fraction_digits = (omega (arith, r.long), r.in_set);
    } in
    record {
      front = record {
        bytes = whole ++ 46 ∷ r.run;
        rest = r.rest;
        spelled = e ∙ (ap (λ ys. whole ++ 46 ∷ ys) r.spelled ∙ sym (append_assoc whole (46 ∷ r.run) r.rest));
        long = omega (arith, length-append whole (46 ∷ r.run), r.long);
        is_form = decimal;
      };
      is_number = inr decimal;
    }

has_whole : (text : List ℕ) → begins is_digit text ≡ true → HasNumber (lexeme (form.Token kind.Whole) (prefix_len is_digit text)) text
has_whole text d =
    let r = run_of is_digit text in
    let s : 0 < prefix_len is_digit text = run-some is_digit is_digit text (λ _ h. h) d in
    let whole : IsWhole r.run = (omega (arith, r.long), r.in_set) in
    record {
      front = record { bytes = r.run; rest = r.rest; spelled = r.spelled; long = r.long; is_form = whole };
      is_number = inl whole;
    }

point : (behind : List ℕ) → First (λ b. eqb b 46) behind → behind ≡ 46 ∷ drop 1 behind
point behind f =
    let q : f.first ≡ 46 = is_that 46 f.first f.passes in
    rw (f.spelled) (ap (λ b. b ∷ f.rest) q)

has_number_behind : (text : List ℕ) → begins is_digit text ≡ true → HasNumber (number_behind (prefix_len is_digit text) (drop (prefix_len is_digit text) text)) text
has_number_behind text d =
    let r = run_of is_digit text in
    let w : ℕ = prefix_len is_digit text in
    let behind : List ℕ = drop w text in
    let found : (v : Bool) → begins_fraction behind ≡ v → HasNumber (cond v (lexeme (form.Token kind.Decimal) (w + (1 + prefix_len is_digit (drop 1 behind)))) (lexeme (form.Token kind.Whole) w)) text =
    λ v. elim v as (λ v. begins_fraction behind ≡ v → HasNumber (cond v (lexeme (form.Token kind.Decimal) (w + (1 + prefix_len is_digit (drop 1 behind)))) (lexeme (form.Token kind.Whole) w)) text) [
      | true ↦ λ e.
          (let both = and_parts (begins (λ b. eqb b 46) behind) (begins is_digit (drop 1 behind)) e in
          let f = first_of_begins (λ b. eqb b 46) behind both.0 in
          let at : behind ≡ 46 ∷ drop 1 behind = point behind f in
          has_decimal text r.run (drop 1 behind) (w + (1 + prefix_len is_digit (drop 1 behind))) (r.spelled ∙ ap (λ ys. r.run ++ ys) (r.behind ∙ at)) r.in_set both.1 (ap (λ n. n + (1 + prefix_len is_digit (drop 1 behind))) (sym r.long)))
      | false ↦ λ _. has_whole text d
    ] in
    found (begins_fraction behind) refl

tells-number : (text : List ℕ) → begins is_digit text ≡ true → FrontTells text (number text)
unfolding number number_lexeme
tells-number text d =
    let h = has_number_behind text d in
    tells-apart (number_behind (prefix_len is_digit text) (drop (prefix_len is_digit text) text)) text h.front h.is_number

tells-fraction : (bs : List ℕ) → begins is_digit bs ≡ true → FrontTells (46 ∷ bs) (number (46 ∷ bs))
unfolding number
tells-fraction bs d =
    let h = has_decimal (46 ∷ bs) [] bs (0 + (1 + prefix_len is_digit bs)) refl refl d refl in
    rw (number_lexeme-decimal [] bs refl d) (tells-apart (lexeme (form.Token kind.Decimal) (0 + (1 + prefix_len is_digit bs))) (46 ∷ bs) h.front h.is_number)

quote_first : (bs : List ℕ) → begins (λ b. eqb b 34) bs ≡ true → begins (λ b. eqb b 34) (drop (prefix_len is_name_byte bs) bs) ≡ true
quote_first [] h = absurd (cc)
quote_first (c ∷ cs) h = rw (is_that 34 c h) refl

quote_not_first : (bs : List ℕ) → begins (λ b. eqb b 34) (drop (prefix_len is_name_byte bs) bs) ≡ false → begins (λ b. eqb b 34) bs ≡ false
quote_not_first bs h =
    let found : (v : Bool) → begins (λ b. eqb b 34) bs ≡ v → v ≡ false =
    λ v. elim v as (λ v. begins (λ b. eqb b 34) bs ≡ v → v ≡ false) [
      | true ↦ λ e. (let q = quote_first bs e in cc)
      | false ↦ λ _. refl
    ] in
    found (begins (λ b. eqb b 34) bs) refl

pub has_quoted : (bs : List ℕ) → begins (λ b. eqb b 34) (drop (prefix_len is_name_byte bs) bs) ≡ true → eqb (prefix_len is_name_byte bs) 0 ≡ false → HasFront (form.Token kind.Quoted) (prefix_len is_name_byte bs + 2) (34 ∷ bs)
has_quoted bs t z =
    let r = run_of is_name_byte bs in
    let f = first_of_begins (λ b. eqb b 34) (drop (prefix_len is_name_byte bs) bs) t in
    let q : f.first ≡ 34 = is_that 34 f.first f.passes in
    let s : 0 < prefix_len is_name_byte bs = grind (arith, nat_tests) in
    record {
      bytes = 34 ∷ (r.run ++ 34 ∷ []);
      rest = f.rest;
      spelled = ap (λ ys. 34 ∷ ys) (r.spelled ∙ (ap (λ ys. r.run ++ ys) (r.behind ∙ (f.spelled ∙ ap (λ b. b ∷ f.rest) q)) ∙ sym (append_assoc r.run (34 ∷ []) f.rest)));
      long = omega (arith, length-append r.run (34 ∷ []), r.long);
      is_form = record { name = r.run; spelled = refl; some = omega (arith, r.long); name_bytes = r.in_set };
    }

no_quoted : (bs : List ℕ) → quoted bs ≡ Err stop.OpenText → NoFront IsQuoted (34 ∷ bs)
no_quoted bs q xs ys e h =
    let t : bs ≡ (h.name ++ 34 ∷ []) ++ ys = ap (drop 1) (e ∙ ap (λ zs. zs ++ ys) h.spelled) in
    let f : quoted bs ≡ token kind.Quoted (length h.name + 2) =
    ap quoted (t ∙ append_assoc h.name (34 ∷ []) ys) ∙ quoted-found h.name ys h.some h.name_bytes in
    cc

tells-quoted : (bs : List ℕ) → FrontTells (34 ∷ bs) (quoted bs)
unfolding quoted
tells-quoted bs =
    let r = run_of is_name_byte bs in
    let w : ℕ = prefix_len is_name_byte bs in
    let behind : List ℕ = drop w bs in
    tells_if (34 ∷ bs) (begins (λ b. eqb b 34) behind) (cond (eqb w 0) (Err (stop.BadByte 1)) (token kind.Quoted (w + 2))) (Err stop.OpenText)
    (λ t. tells_if (34 ∷ bs) (eqb w 0) (Err (stop.BadByte 1)) (token kind.Quoted (w + 2))
    (λ z. let z0 : w ≡ 0 = is_that 0 w z in
    inl (refl, ap (λ n. begins (λ b. eqb b 34) (drop n bs)) (sym z0) ∙ t, refl))
    (λ z. has_quoted bs t z))
    (λ t. inr (inl (refl, quote_not_first bs t, no_quoted bs (rw t refl))))

no_text : (bs : List ℕ) → closing bs ≡ None → NoFront IsText (39 ∷ bs)
no_text bs q xs ys e h =
    let t : bs ≡ (doubled h.content ++ 39 ∷ []) ++ ys = ap (drop 1) (e ∙ ap (λ zs. zs ++ ys) h.spelled) in
    let i = closing-found h.content ys in
    let f : closing bs ≡ Some i.end = ap closing (t ∙ append_assoc (doubled h.content) (39 ∷ []) ys) ∙ i.is in
    cc

tells-text : (bs : List ℕ) (o : Option ℕ) → closing bs ≡ o → TextEnds o bs → FrontTells (39 ∷ bs) (text_lexeme o)
tells-text bs None e i = inl (refl, no_text bs e)
tells-text bs (Some n) e i = record {
  bytes = 39 ∷ (doubled i.content ++ 39 ∷ []);
  rest = i.rest;
  spelled = ap (λ ys. 39 ∷ ys) (i.spelled ∙ sym (append_assoc (doubled i.content) (39 ∷ []) i.rest));
  long = omega (arith, length-append (doubled i.content) (39 ∷ []), i.long);
  is_form = record { content = i.content; spelled = refl };
}

no_block : (bs : List ℕ) → comment_end bs ≡ None → NoFront IsBlockComment (47 ∷ 42 ∷ bs)
no_block bs q xs ys e h =
    let t : bs ≡ (h.inside ++ 42 ∷ 47 ∷ []) ++ ys = ap (drop 2) (e ∙ ap (λ zs. zs ++ ys) h.spelled) in
    let f : comment_end bs ≡ Some (length h.inside + 2) =
    ap comment_end (t ∙ append_assoc h.inside (42 ∷ 47 ∷ []) ys) ∙ comment_end-found h.inside ys h.first_end in
    cc

tells-block : (bs : List ℕ) (o : Option ℕ) → comment_end bs ≡ o → CommentEnds o bs → FrontTells (47 ∷ 42 ∷ bs) (comment_lexeme o)
tells-block bs None e i = inr (inr (refl, refl, no_block bs e))
tells-block bs (Some n) e i = record {
  bytes = 47 ∷ 42 ∷ (i.inside ++ 42 ∷ 47 ∷ []);
  rest = i.rest;
  spelled = ap (λ ys. 47 ∷ 42 ∷ ys) (i.spelled ∙ sym (append_assoc i.inside (42 ∷ 47 ∷ []) i.rest));
  long = omega (arith, length-append i.inside (42 ∷ 47 ∷ []), i.long);
  is_form = record { inside = i.inside; spelled = refl; first_end = i.first_end };
}

tells-slash : (bs : List ℕ) → begins (λ c. eqb c 42) bs ≡ true → FrontTells (47 ∷ bs) (comment_lexeme (comment_end (drop 1 bs)))
tells-slash [] h = absurd (cc)
tells-slash (c ∷ bs) h = rw (is_that 42 c h) (tells-block bs (comment_end bs) refl (comment_ends bs))

tells-mark : (b : ℕ) (bs : List ℕ) → is_mark b ≡ true → HasFront (form.Token kind.Symbol) 1 (b ∷ bs)
tells-mark b bs h = record { bytes = b ∷ []; rest = bs; spelled = refl; long = refl; is_form = h }

parameter_is_symbol : (xs : List ℕ) → IsParameter xs → IsSymbol xs
parameter_is_symbol [] h = absurd h
parameter_is_symbol (b ∷ []) h = absurd (omega (arith, h.1.0))
parameter_is_symbol (b ∷ c ∷ []) h = inr h
parameter_is_symbol (b ∷ c ∷ d ∷ ds) h = h

tells-parameter : (b : ℕ) (bs : List ℕ) → (eqb b 36 && begins is_digit bs) ≡ true → HasFront (form.Token kind.Symbol) (1 + prefix_len is_digit bs) (b ∷ bs)
tells-parameter b bs h =
    let both = and_parts (eqb b 36) (begins is_digit bs) h in
    let r = run_of is_digit bs in
    let s : 0 < prefix_len is_digit bs = run-some is_digit is_digit bs (λ _ e. e) both.1 in
    record {
      bytes = b ∷ r.run;
      rest = r.rest;
      spelled = ap (λ ys. b ∷ ys) r.spelled;
      long = omega (arith, r.long);
      is_form = parameter_is_symbol (b ∷ r.run) (is_that 36 b both.0, (omega (arith, r.long), r.in_set));
    }

no_front : (text : List ℕ) → front text ≡ Err (stop.BadByte 0) → (f : Form) → NoFront (IsForm f) text
no_front text e f xs ys q h =
    let a : AtLeast (front (xs ++ ys)) f (length xs) = at_least f xs ys h in
    let g : front (xs ++ ys) ≡ Err (stop.BadByte 0) = ap front (sym q) ∙ e in
    let l : 0 < 0 = subst (λ r. AtLeast r f (length xs)) g a in
    absurd (omega arith)

tells-symbol : (b : ℕ) (bs : List ℕ) → class_of b ≡ class.Other → b ≢ 39 → b ≢ 34 → FrontTells (b ∷ bs) (symbol b bs)
unfolding symbol
tells-symbol b bs k n m =
    let none : Result Lexeme NoLexeme = Err (stop.BadByte 0) in
    let third : Result Lexeme NoLexeme = cond (eqb b 36 && begins is_digit bs) (token kind.Symbol (1 + prefix_len is_digit bs)) none in
    let second : Result Lexeme NoLexeme = cond (is_mark b) (token kind.Symbol 1) third in
    tells_if (b ∷ bs) (begins (is_pair b) bs) (token kind.Symbol 2) second
    (λ t. let f = first_of_begins (is_pair b) bs t in
    record { bytes = b ∷ f.first ∷ []; rest = f.rest; spelled = ap (λ ys. b ∷ ys) f.spelled; long = refl; is_form = inl f.passes })
    (λ t1. tells_if (b ∷ bs) (is_mark b) (token kind.Symbol 1) third
    (λ t. tells-mark b bs t)
    (λ t2. tells_if (b ∷ bs) (eqb b 36 && begins is_digit bs) (token kind.Symbol (1 + prefix_len is_digit bs)) none
    (λ t. tells-parameter b bs t)
    (λ t3. let e : front (b ∷ bs) ≡ none = ap (λ c. front_by c b bs) k ∙ rw (t1, t2, t3) refl in
    inr (inr (n, m, no_front (b ∷ bs) e, refl)))))

tells_by : (k : Class) (b : ℕ) (bs : List ℕ) → class_of b ≡ k → IsOfClass k b → FrontTells (b ∷ bs) (front_by k b bs)
tells_by class.Blank b bs k c = record { bytes = b ∷ []; rest = bs; spelled = refl; long = refl; is_form = c }
tells_by class.Letter b bs k c = tells-word b bs c
tells_by class.Digit b bs k c = tells-number (b ∷ bs) c
tells_by class.Point b bs k c =
    rw c (tells_if (46 ∷ bs) (begins is_digit bs) (number (46 ∷ bs)) (token kind.Symbol 1)
    (λ d. tells-fraction bs d) (λ _. tells-mark 46 bs refl))
tells_by class.Quote b bs k c = rw c (tells-quoted bs)
tells_by class.Apostrophe b bs k c = rw c (tells-text bs (closing bs) refl (text_ends bs))
tells_by class.Minus b bs k c =
    rw c (tells_if (45 ∷ bs) (begins (λ d. eqb d 45) bs) (Ok (lexeme form.LineComment (1 + prefix_len is_line_byte bs))) (token kind.Symbol 1)
    (λ d. tells-line bs d) (λ _. tells-mark 45 bs refl))
tells_by class.Slash b bs k c =
    rw c (tells_if (47 ∷ bs) (begins (λ d. eqb d 42) bs) (comment_lexeme (comment_end (drop 1 bs))) (token kind.Symbol 1)
    (λ d. tells-slash bs d) (λ _. tells-mark 47 bs refl))
tells_by class.Other b bs k c = tells-symbol b bs k c.0 c.1

pub tells : (b : ℕ) (bs : List ℕ) → FrontTells (b ∷ bs) (front (b ∷ bs))
tells b bs = tells_by (class_of b) b bs refl (class_tells b)
