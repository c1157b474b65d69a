-- Which bytes end a comment and a text.
use Rattle.std.proofs.Common.{◌≡◌, ℕ, ◌+◌, Bool, true, false, ◌||◌, ◌&&◌, eqb, cond, List, [], ◌∷◌, ◌++◌, length, Option, Some, None, refl, ap, sym, ◌∙◌, arith}
use Rattle.std.proofs.lemmas.Bool.{and_parts}
use Rattle.std.proofs.lemmas.Bool.Decides.{nat_tests}
use Rattle.sql_tokens.specs.Byte.{ends_comment}
use Rattle.sql_tokens.specs.Form.{doubled, holds_end}
use Rattle.sql_tokens.specs.Front.{front, closing, comment_end, further, further_or}

pub is_that : (n b : ℕ) → eqb b n ≡ true → b ≡ n
is_that n b e = grind (arith, nat_tests)

-- the front of the bytes that ends a comment
pub record CommentEnd (n : ℕ) (bs : List ℕ) : Type 0 where
  pub inside : List ℕ
  pub rest : List ℕ
  pub spelled : bs ≡ inside ++ 42 ∷ 47 ∷ rest
  pub long : length inside + 2 ≡ n
  pub first_end : holds_end (inside ++ 42 ∷ []) ≡ false

abbrev pub CommentEnds : Option ℕ → List ℕ → Type 0
CommentEnds None bs = Unit {0}
CommentEnds (Some n) bs = CommentEnd n bs

and_or_no : (a : Bool) → ((a && false) || false) ≡ false
and_or_no true = refl
and_or_no false = refl

longer_end : (b c : ℕ) (inside rest bs : List ℕ) → c ∷ bs ≡ inside ++ 42 ∷ 47 ∷ rest → ends_comment b c ≡ false → holds_end (inside ++ 42 ∷ []) ≡ false → holds_end (b ∷ (inside ++ 42 ∷ [])) ≡ false
longer_end b c [] rest bs e n h = and_or_no (eqb b 42)
longer_end b c (x ∷ xs) rest bs e n h =
    let q : x ≡ c = cc in
    let m : ends_comment b x ≡ false = rw q n in
    rw m h

comment_longer : (b c : ℕ) (bs : List ℕ) (o : Option ℕ) → ends_comment b c ≡ false → CommentEnds o (c ∷ bs) → CommentEnds (further 1 o) (b ∷ c ∷ bs)
comment_longer b c bs None n i = tt
comment_longer b c bs (Some m) n i = record {
  inside = b ∷ i.inside;
  rest = i.rest;
  spelled = ap (λ ys. b ∷ ys) i.spelled;
  long = omega (arith, i.long);
  first_end = longer_end b c i.inside i.rest bs i.spelled n i.first_end;
}

comment_now : (b c : ℕ) (bs : List ℕ) → ends_comment b c ≡ true → CommentEnd 2 (b ∷ c ∷ bs)
comment_now b c bs e =
    let both = and_parts (eqb b 42) (eqb c 47) e in
    rw (is_that 42 b both.0, is_that 47 c both.1) (record { inside = []; rest = bs; spelled = refl; long = refl; first_end = refl })

pub comment_ends : (bs : List ℕ) → CommentEnds (comment_end bs) bs
comment_ends [] = tt
comment_ends (b ∷ []) = tt
comment_ends (b ∷ c ∷ bs) =
    let i : CommentEnds (comment_end (c ∷ bs)) (c ∷ bs) = comment_ends (c ∷ bs) in
    let found : (v : Bool) → ends_comment b c ≡ v → CommentEnds (cond v (Some 2) (further 1 (comment_end (c ∷ bs)))) (b ∷ c ∷ bs) =
    λ v. elim v as (λ v. ends_comment b c ≡ v → CommentEnds (cond v (Some 2) (further 1 (comment_end (c ∷ bs)))) (b ∷ c ∷ bs)) [
      | true ↦ λ e. comment_now b c bs e
      | false ↦ λ e. comment_longer b c bs (comment_end (c ∷ bs)) e i
    ] in
    found (ends_comment b c) refl

-- the front of the bytes that ends a text
pub record TextEnd (n : ℕ) (bs : List ℕ) : Type 0 where
  pub content : List ℕ
  pub rest : List ℕ
  pub spelled : bs ≡ doubled content ++ 39 ∷ rest
  pub long : length (doubled content) + 1 ≡ n

abbrev pub TextEnds : Option ℕ → List ℕ → Type 0
TextEnds None bs = Unit {0}
TextEnds (Some n) bs = TextEnd n bs

text_now : (b : ℕ) (bs : List ℕ) → eqb b 39 ≡ true → TextEnd 1 (b ∷ bs)
text_now b bs e = rw (is_that 39 b e) (record { content = []; rest = bs; spelled = refl; long = refl })

text_twice : (b c : ℕ) (bs : List ℕ) (o : Option ℕ) → eqb b 39 ≡ true → eqb c 39 ≡ true → TextEnds o bs → TextEnd (further_or 1 2 o) (b ∷ c ∷ bs)
text_twice b c bs None e f i = text_now b (c ∷ bs) e
text_twice b c bs (Some n) e f i =
    rw (is_that 39 b e, is_that 39 c f) (record {
      content = 39 ∷ i.content;
      rest = i.rest;
      spelled = ap (λ ys. 39 ∷ 39 ∷ ys) i.spelled;
      long = omega (arith, i.long);
    })

doubled-other : (b : ℕ) (bs : List ℕ) → eqb b 39 ≡ false → doubled (b ∷ bs) ≡ b ∷ doubled bs
doubled-other b bs e = rw e refl

text_longer : (b c : ℕ) (bs : List ℕ) (o : Option ℕ) → eqb b 39 ≡ false → TextEnds o (c ∷ bs) → TextEnds (further 1 o) (b ∷ c ∷ bs)
text_longer b c bs None e i = tt
text_longer b c bs (Some n) e i = record {
  content = b ∷ i.content;
  rest = i.rest;
  spelled = ap (λ ys. b ∷ ys) i.spelled ∙ ap (λ ys. ys ++ 39 ∷ i.rest) (sym (doubled-other b i.content e));
  long = ap (λ ys. length ys + 1) (doubled-other b i.content e) ∙ omega (arith, i.long);
}

pub text_ends : (bs : List ℕ) → TextEnds (closing bs) bs
text_ends [] = tt
text_ends (b ∷ []) =
    let found : (v : Bool) → eqb b 39 ≡ v → TextEnds (cond v (Some 1) None) (b ∷ []) =
    λ v. elim v as (λ v. eqb b 39 ≡ v → TextEnds (cond v (Some 1) None) (b ∷ [])) [ true ↦ λ e. text_now b [] e | false ↦ λ e. tt ] in
    found (eqb b 39) refl
text_ends (b ∷ c ∷ bs) =
    let i : TextEnds (closing (c ∷ bs)) (c ∷ bs) = text_ends (c ∷ bs) in
    let j : TextEnds (closing bs) bs = text_ends bs in
    let second : (v : Bool) → eqb b 39 ≡ true → eqb c 39 ≡ v → TextEnds (cond v (Some (further_or 1 2 (closing bs))) (Some 1)) (b ∷ c ∷ bs) =
    λ v. elim v as (λ v. eqb b 39 ≡ true → eqb c 39 ≡ v → TextEnds (cond v (Some (further_or 1 2 (closing bs))) (Some 1)) (b ∷ c ∷ bs)) [
      | true ↦ λ e f. text_twice b c bs (closing bs) e f j
      | false ↦ λ e f. text_now b (c ∷ bs) e
    ] in
    let found : (v : Bool) → eqb b 39 ≡ v → TextEnds (cond v (cond (eqb c 39) (Some (further_or 1 2 (closing bs))) (Some 1)) (further 1 (closing (c ∷ bs)))) (b ∷ c ∷ bs) =
    λ v. elim v as (λ v. eqb b 39 ≡ v → TextEnds (cond v (cond (eqb c 39) (Some (further_or 1 2 (closing bs))) (Some 1)) (further 1 (closing (c ∷ bs)))) (b ∷ c ∷ bs)) [
      | true ↦ λ e. second (eqb c 39) e refl
      | false ↦ λ e. text_longer b c bs (closing (c ∷ bs)) e i
    ] in
    found (eqb b 39) refl
