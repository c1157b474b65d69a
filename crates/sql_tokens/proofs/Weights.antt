-- The weight that is computed is the one that the comment holds.
use Rattle.std.proofs.Common.{◌≡◌, ℕ, ◌+◌, ◌<◌, Bool, true, false, ◌&&◌, eqb, ltb, cond, List, [], ◌∷◌, ◌++◌, length, take, drop, map, ◌↔◌, Option, Some, None, refl, ap, sym, ◌∙◌, arith}
use Rattle.std.specs.List.{prefix_len, list_all}
use Rattle.std.specs.Char.{to_ascii_lowercase}
use Rattle.std.specs.Str.{str_eq_ignore_ascii_case}
use Rattle.std.proofs.lemmas.Bool.{and_parts}
use Rattle.std.proofs.lemmas.Bool.Decides.{nat_tests}
use Rattle.std.proofs.lemmas.List.{length-append, length-map, take_at, drop_at, take-append-drop, append-nil, take_all}
use lib.Pointwise.{pointwise_long}
use Rattle.sql_tokens.specs.Byte.{begins, is_digit, is_space, is_margin}
use Rattle.sql_tokens.specs.Form.{IsWhole, IsLineComment}
use Rattle.sql_tokens.specs.Front.{further}
use Rattle.sql_tokens.specs.Weight.{weight_word, is_margins, number_end, weight_end, weight_length, HoldsWeight}
use Rattle.sql_tokens.proofs.Runs.{run-append, drop-front, list_all-run}
use Rattle.sql_tokens.proofs.Sound.{run_of}
use Rattle.sql_tokens.proofs.Endings.{is_that}

run-ends : (p : ℕ → Bool) (xs ys : List ℕ) → list_all p xs ≡ true → begins p ys ≡ false → prefix_len p (xs ++ ys) ≡ length xs
run-ends p xs [] h b = run-append p xs [] h ∙ omega arith
run-ends p xs (y ∷ ys) h b =
    let z : prefix_len p (y ∷ ys) ≡ 0 = rw b refl in
    run-append p xs (y ∷ ys) h ∙ omega (arith, z)

begins-other : (p q : ℕ → Bool) (xs ys : List ℕ) → ((b : ℕ) → p b ≡ true → q b ≡ false) → 0 < length xs → list_all p xs ≡ true → begins q (xs ++ ys) ≡ false
begins-other p q [] ys s l h = absurd (omega arith)
begins-other p q (x ∷ xs) ys s l h = s x (and_parts (p x) (list_all p xs) h).0

none_begins : (p q : ℕ → Bool) (xs : List ℕ) → ((b : ℕ) → p b ≡ true → q b ≡ false) → list_all p xs ≡ true → begins q xs ≡ false
none_begins p q [] s h = refl
none_begins p q (x ∷ xs) s h = s x (and_parts (p x) (list_all p xs) h).0

digit_no_space : (b : ℕ) → is_digit b ≡ true → is_space b ≡ false
digit_no_space b e = grind (arith, nat_tests)

margin_no_digit : (b : ℕ) → is_margin b ≡ true → is_digit b ≡ false
margin_no_digit b e = grind (arith, nat_tests)

is_margins-all : (tail : List ℕ) → list_all is_margin tail ≡ true → is_margins tail ≡ true
is_margins-all tail h =
    let e : prefix_len is_margin (tail ++ []) ≡ length tail = run-ends is_margin tail [] h refl in
    let f : prefix_len is_margin tail ≡ length tail = ap (prefix_len is_margin) (sym (append-nil tail)) ∙ e in
    grind (arith, nat_tests)

some_test : (n : ℕ) → 0 < n → ltb 0 n ≡ true
some_test n l = grind (arith, nat_tests)

number_end-found : (gap digits tail : List ℕ) → 0 < length gap → list_all is_space gap ≡ true → IsWhole digits → list_all is_margin tail ≡ true → number_end (gap ++ (digits ++ tail)) ≡ Some (length gap + length digits)
unfolding number_end
number_end-found gap digits tail l g d t =
    let text : List ℕ = gap ++ (digits ++ tail) in
    let a : prefix_len is_space text ≡ length gap =
    run-ends is_space gap (digits ++ tail) g (begins-other is_digit is_space digits tail digit_no_space d.0 d.1) in
    let b : prefix_len is_digit (digits ++ tail) ≡ length digits =
    run-ends is_digit digits tail d.1 (none_begins is_margin is_digit tail margin_no_digit t) in
    let x : drop (length gap) text ≡ digits ++ tail = drop-front gap (digits ++ tail) in
    let y : drop (length digits) (digits ++ tail) ≡ tail = drop-front digits tail in
    let u : ltb 0 (length gap) ≡ true = some_test (length gap) l in
    let v : ltb 0 (length digits) ≡ true = some_test (length digits) d.0 in
    let w : is_margins tail ≡ true = is_margins-all tail t in
    rw (a, x, b, y, u, v, w) refl

-- the word and its first byte
record Word6 (word : List ℕ) : Type 0 where
  long : length word ≡ 6
  first : (ys : List ℕ) → begins is_margin (word ++ ys) ≡ false

first_letter : (b : ℕ) → eqb (to_ascii_lowercase b) 119 ≡ true → is_margin b ≡ false
first_letter b e = grind (arith, nat_tests)

word6 : (word : List ℕ) → str_eq_ignore_ascii_case word weight_word ≡ true → Word6 word
word6 [] h = absurd (cc)
word6 (b ∷ bs) h = record { long = sym (length-map (b ∷ bs) to_ascii_lowercase) ∙ pointwise_long eqb (map to_ascii_lowercase (b ∷ bs)) (map to_ascii_lowercase weight_word) h; first = λ ys. first_letter b (and_parts (eqb (to_ascii_lowercase b) 119) _ h).0 }

weight_end-found : (word behind : List ℕ) (m : ℕ) → str_eq_ignore_ascii_case word weight_word ≡ true → number_end behind ≡ Some m → weight_end (word ++ behind) ≡ Some (6 + m)
unfolding weight_end
weight_end-found word behind m h e =
    let w = word6 word h in
    let a : take 6 (word ++ behind) ≡ word = take_at word behind 6 w.long in
    let b : drop 6 (word ++ behind) ≡ behind = drop_at word behind 6 w.long in
    let l : 5 < length (word ++ behind) = omega (arith, length-append word behind, w.long) in
    let c : ltb 5 (length (word ++ behind)) ≡ true = grind (arith, nat_tests) in
    rw (c, a, b, h, e) refl

-- a weight is found
pub weight_found : (comment : List ℕ) (n : ℕ) → HoldsWeight comment n → weight_length comment ≡ Some n
unfolding weight_length
weight_found comment n h =
    let behind : List ℕ = h.gap ++ (h.digits ++ h.tail) in
    let text : List ℕ = h.blanks ++ (h.word ++ behind) in
    let d : drop 2 comment ≡ text = ap (drop 2) h.spelled in
    let w = word6 h.word h.named in
    let a : prefix_len is_margin text ≡ length h.blanks = run-ends is_margin h.blanks (h.word ++ behind) h.before (w.first behind) in
    let b : drop (length h.blanks) text ≡ h.word ++ behind = drop-front h.blanks (h.word ++ behind) in
    let e : weight_end (h.word ++ behind) ≡ Some (6 + (length h.gap + length h.digits)) =
    weight_end-found h.word behind (length h.gap + length h.digits) h.named
    (number_end-found h.gap h.digits h.tail h.some_gap h.spaces h.number h.behind) in
    let z : 2 + length h.blanks + (6 + (length h.gap + length h.digits)) ≡ n = omega (arith, h.place, w.long) in
    rw (d, a, b, e) (ap Some z)

-- what the number's end tells
record NumberAt (m : ℕ) (bs : List ℕ) : Type 0 where
  gap : List ℕ
  digits : List ℕ
  tail : List ℕ
  spelled : bs ≡ gap ++ (digits ++ tail)
  some_gap : 0 < length gap
  spaces : list_all is_space gap ≡ true
  number : IsWhole digits
  behind : list_all is_margin tail ≡ true
  place : m ≡ length gap + length digits

abbrev NumberTells : Option ℕ → List ℕ → Type 0
NumberTells None bs = Unit {0}
NumberTells (Some m) bs = NumberAt m bs

tells_if : (P : Option ℕ → Type 0) (t : Bool) (o : Option ℕ) → P None → (t ≡ true → P o) → P (cond t o None)
tells_if P true o n f = f refl
tells_if P false o n f = n

test_some : (n : ℕ) → ltb 0 n ≡ true → 0 < n
test_some n l = grind (arith, nat_tests)

all_margins : (tail : List ℕ) → is_margins tail ≡ true → list_all is_margin tail ≡ true
all_margins tail h =
    let r = run_of is_margin tail in
    let e : prefix_len is_margin tail ≡ length tail = is_that (length tail) (prefix_len is_margin tail) h in
    let t : take (length tail) tail ≡ tail = take_all (length tail) tail (omega arith) in
    ap (list_all is_margin) (sym t ∙ ap (λ n. take n tail) (sym e)) ∙ list_all-run is_margin tail

number_tells : (bs : List ℕ) → NumberTells (number_end bs) bs
unfolding number_end
number_tells bs =
    let gap : ℕ = prefix_len is_space bs in
    let text : List ℕ = drop gap bs in
    let digits : ℕ = prefix_len is_digit text in
    let tail : List ℕ = drop digits text in
    let g = run_of is_space bs in
    let d = run_of is_digit text in
    tells_if (λ o. NumberTells o bs) (ltb 0 gap && ltb 0 digits && is_margins tail) (Some (gap + digits)) tt
    (λ t.
    let a = and_parts (ltb 0 gap && ltb 0 digits) (is_margins tail) t in
    let b = and_parts (ltb 0 gap) (ltb 0 digits) a.0 in
    let s : 0 < gap = test_some gap b.0 in
    let k : 0 < digits = test_some digits b.1 in
    record {
      gap = g.run;
      digits = d.run;
      tail = d.rest;
      spelled = g.spelled ∙ ap (λ ys. g.run ++ ys) (g.behind ∙ d.spelled);
      some_gap = omega (arith, g.long, s);
      spaces = g.in_set;
      number = (omega (arith, d.long, k), d.in_set);
      behind = ap (list_all is_margin) (d.behind) ∙ all_margins tail a.1;
      place = omega (arith, g.long, d.long);
    })

-- what the weight's end tells
record WordAt (m : ℕ) (bs : List ℕ) : Type 0 where
  word : List ℕ
  rest : List ℕ
  spelled : bs ≡ word ++ rest
  named : str_eq_ignore_ascii_case word weight_word ≡ true
  more : ℕ
  found : NumberAt more rest
  place : m ≡ length word + more

abbrev WordTells : Option ℕ → List ℕ → Type 0
WordTells None bs = Unit {0}
WordTells (Some m) bs = WordAt m bs

word_tells_by : (o : Option ℕ) (bs : List ℕ) → str_eq_ignore_ascii_case (take 6 bs) weight_word ≡ true → NumberTells o (drop 6 bs) → WordTells (further 6 o) bs
word_tells_by None bs h i = tt
word_tells_by (Some m) bs h i = record {
  word = take 6 bs;
  rest = drop 6 bs;
  spelled = sym (take-append-drop 6 bs);
  named = h;
  more = m;
  found = i;
  place = ap (λ k. k + m) (sym (word6 (take 6 bs) h).long);
}

word_tells : (bs : List ℕ) → WordTells (weight_end bs) bs
unfolding weight_end
word_tells bs =
    tells_if (λ o. WordTells o bs) (ltb 5 (length bs) && str_eq_ignore_ascii_case (take 6 bs) weight_word) (further 6 (number_end (drop 6 bs))) tt
    (λ t. word_tells_by (number_end (drop 6 bs)) bs
    (and_parts (ltb 5 (length bs)) (str_eq_ignore_ascii_case (take 6 bs) weight_word) t).1 (number_tells (drop 6 bs)))

holds_by : (bs : List ℕ) (o : Option ℕ) (n : ℕ) → WordTells o (drop (prefix_len is_margin bs) bs) → further (2 + prefix_len is_margin bs) o ≡ Some n → HoldsWeight (45 ∷ 45 ∷ bs) n
holds_by bs None n i e = absurd (cc)
holds_by bs (Some m) n i e =
    let r = run_of is_margin bs in
    let k : 2 + prefix_len is_margin bs + m ≡ n = cc in
    let f = i.found in
    record {
      blanks = r.run;
      word = i.word;
      gap = f.gap;
      digits = f.digits;
      tail = f.tail;
      spelled = ap (λ ys. 45 ∷ 45 ∷ ys)
          (r.spelled ∙ ap (λ ys. r.run ++ ys) (r.behind ∙ (i.spelled ∙ ap (λ ys. i.word ++ ys) f.spelled)));
      before = r.in_set;
      named = i.named;
      some_gap = f.some_gap;
      spaces = f.spaces;
      number = f.number;
      behind = f.behind;
      place = omega (arith, k, r.long, i.place, f.place);
    }

-- what is found is a weight
pub weight_holds : (comment : List ℕ) (n : ℕ) → IsLineComment comment → weight_length comment ≡ Some n → HoldsWeight comment n
unfolding weight_length
weight_holds [] n l h = absurd l
weight_holds (b ∷ []) n l h = absurd l
weight_holds (b ∷ c ∷ bs) n l h =
    rw (l.0, l.1) (holds_by bs (weight_end (drop (prefix_len is_margin bs) bs)) n (word_tells (drop (prefix_len is_margin bs) bs)) h)

pub weight_is : (comment : List ℕ) (n : ℕ) → IsLineComment comment → (weight_length comment ≡ Some n) ↔ HoldsWeight comment n
weight_is comment n l = (weight_holds comment n l, weight_found comment n)
