-- Readings by good rules are exact.
use Rattle.std.proofs.Common.{◌≡◌, ℕ, zero, suc, true, not, List, [], ◌∷◌, ◌++◌, sym, refl, ap, ◌∙◌, subst, inl, inr, append-nil}
use Rattle.std.proofs.lemmas.Bool.{and_parts, not-true}
use Rattle.sql_reader.specs.declared.terminal.Terminal.{Terminal}
use Rattle.sql_reader.specs.Kinds.{within}
use Rattle.sql_reader.specs.Rule.{Nesting, State, Rule, Meaning, IsOver, Grammar, IsNested, Reading, Read, Stuck, Reader, read_over, read_nested, Borders, may_be_empty, first_of_rule, more_of_rule, closes, good}
use Rattle.sql_reader.specs.Exact.{GoesOn, NoneGoesOn, IsExact, IsGood, IsRead, reads}
use Rattle.sql_reader.proofs.KindSets.{not_both, in_wider, begins_narrower, no_front}
use Rattle.sql_reader.proofs.Theory.{Sensible, left_of, moved, Viable, Explains, empty_only, first_in, right, complete, local, closing}

no_level : (borders : Borders) (grammar : Grammar) → Sensible borders (IsNested grammar zero) (read_nested grammar zero)
unfolding IsNested read_nested
no_level borders grammar = record {
  something = λ x a b h. h;
  begun = λ x a p ps b h. absurd h;
  right = λ x a ps. ([], refl, inl refl);
  complete = λ x a front b rest h stop. absurd h;
  local = λ x a front rest other same l. ap Stuck (nothing_before front rest other l);
}
  where
    nothing_before : (front rest other : List Terminal) → front ++ rest ≡ rest → front ++ other ≡ other
    nothing_before front rest other l = ap (λ (f : List Terminal). f ++ other) (no_front front rest l)

one_level : (borders : Borders) (grammar : Grammar) → IsGood borders grammar → (n : ℕ) → Sensible borders (IsNested grammar n) (read_nested grammar n) →
    Sensible borders (IsNested grammar (suc n)) (read_nested grammar (suc n))
unfolding IsNested read_nested
one_level borders grammar g n s =
    let is_good : (x : Nesting) → good borders (grammar x) ≡ true = λ x. (and_parts (good borders (grammar x)) _ (g x)).0 in
    let others = λ (x : Nesting). and_parts (not (may_be_empty (grammar x))) _ (and_parts (good borders (grammar x)) _ (g x)).1 in
    let wide = λ (x : Nesting). and_parts (within (first_of_rule borders (grammar x)) (borders.first x)) (within (more_of_rule borders (grammar x)) (borders.more x)) (others x).1 in
    record {
      something = λ x a b h. not_both (may_be_empty (grammar x)) (empty_only borders (IsNested grammar n) (read_nested grammar n) s (grammar x) a b h) (not-true (may_be_empty (grammar x)) (others x).0);
      begun = λ x a p ps b h. in_wider (first_of_rule borders (grammar x)) (borders.first x) p.kind (wide x).0 (first_in borders (IsNested grammar n) (read_nested grammar n) s (grammar x) a b p ps h);
      right = λ x a ps. right borders (IsNested grammar n) (read_nested grammar n) s (grammar x) (is_good x) a ps;
      complete = λ x a front b rest h stop. complete borders (IsNested grammar n) (read_nested grammar n) s (grammar x) (is_good x) a b front rest h (begins_narrower (more_of_rule borders (grammar x)) (borders.more x) rest (wide x).1 stop);
      local = λ x a front rest other same l. local borders (IsNested grammar n) (read_nested grammar n) s (grammar x) (is_good x) a front rest other same l;
    }

pub levels_sensible : (borders : Borders) (grammar : Grammar) → IsGood borders grammar → (n : ℕ) → Sensible borders (IsNested grammar n) (read_nested grammar n)
levels_sensible borders grammar g zero = no_level borders grammar
levels_sensible borders grammar g (suc n) = one_level borders grammar g n (levels_sensible borders grammar g n)

module _ (borders : Borders) (deeper : (x : Nesting) → Meaning (State x) (State x)) (reader : (x : Nesting) → Reader (State x) (State x)) (s : Sensible borders deeper reader) where
  -- what is meant is read whole
  whole : {A B : Type 0} (r : Rule A B) → good borders r ≡ true → (a : A) (ps : List Terminal) (b : B) → IsOver deeper r a ps b → read_over reader r a ps ≡ Read b []
  whole r g a ps b h =
      ap (read_over reader r a) (sym (append-nil ps)) ∙ complete borders deeper reader s r g a b ps [] h refl

  -- where something is left of a reading, nothing goes on with what is there
  none_on : {A B : Type 0} (r : Rule A B) → good borders r ≡ true → (a : A) (front : List Terminal) (p : Terminal) (rest : List Terminal) (x : Reading B) →
      read_over reader r a (front ++ p ∷ rest) ≡ x → left_of x ≡ p ∷ rest → NoneGoesOn (IsOver deeper r) a front (p ∷ rest)
  none_on {A} {B} r g a front p rest x e l q more b k h =
      let there = local borders deeper reader s r g a front (p ∷ rest) (q ∷ more) (sym k) (ap left_of e ∙ l) in
      let all = whole r g a (front ++ q ∷ more) b h in
      clash x (sym all ∙ there ∙ ap (moved (q ∷ more)) e)
    where
      clash : (x : Reading B) → Read b [] ≡ moved (q ∷ more) x → ⊥
      clash (Read c old) e = cc
      clash (Stuck old) e = cc

  none_at_end : {A B : Type 0} (r : Rule A B) → good borders r ≡ true → (a : A) (ps : List Terminal) → read_over reader r a ps ≡ Stuck [] → NoneGoesOn (IsOver deeper r) a ps []
  none_at_end r g a ps e b h = let all = whole r g a ps b h in cc

  on_from : {A B : Type 0} (r : Rule A B) → closes r ≡ true → (a : A) (front : List Terminal) → Viable (IsOver deeper r) a front → GoesOn (IsOver deeper r) a front
  on_from r c a front (inl e) =
      let (more, b, h) = closing borders deeper reader s r c a in
      (more, b, subst (λ (f : List Terminal). IsOver deeper r a (f ++ more) b) (sym e) h)
  on_from r c a front (inr h) = h

  pub exact : {A B : Type 0} (r : Rule A B) → good borders r ≡ true → closes r ≡ true → (a : A) (ps : List Terminal) (x : Reading B) → read_over reader r a ps ≡ x →
      Explains (IsOver deeper r) a ps x → IsExact (IsOver deeper r) a ps x
  exact r g c a ps (Read b []) e (front, split, h) =
      subst (λ (f : List Terminal). IsOver deeper r a f b) (sym (split ∙ append-nil front)) h
  exact r g c a ps (Read b (p ∷ rest)) e (front, split, h) = record {
    front = front;
    split = split;
    before = ([], b, subst (λ (f : List Terminal). IsOver deeper r a f b) (sym (append-nil front)) h);
    none = none_on r g a front p rest (Read b (p ∷ rest)) (ap (read_over reader r a) (sym split) ∙ e) refl;
  }
  exact r g c a ps (Stuck []) e (front, split, v) = record {
    front = front;
    split = split;
    before = on_from r c a front v;
    none = none_at_end r g a front (ap (read_over reader r a) (sym (split ∙ append-nil front)) ∙ e);
  }
  exact r g c a ps (Stuck (p ∷ rest)) e (front, split, v) = record {
    front = front;
    split = split;
    before = on_from r c a front v;
    none = none_on r g a front p rest (Stuck (p ∷ rest)) (ap (read_over reader r a) (sym split) ∙ e) refl;
  }

read_value : {B : Type 0} (b c : B) (ps : List Terminal) → Read b ps ≡ Read c ps → b ≡ c
read_value b c ps e = cc

-- each reading by a good rule that closes is exact
pub reads_exactly : (borders : Borders) (grammar : Grammar) (levels : ℕ) {A B : Type 0} (rule : Rule A B) → IsGood borders grammar →
    good borders rule ≡ true → closes rule ≡ true → (a : A) (terminals : List Terminal) →
    IsExact (IsRead grammar levels rule) a terminals (reads grammar levels rule a terminals)
reads_exactly borders grammar levels rule g good_rule closes_rule a terminals =
    let s = levels_sensible borders grammar g levels in
    exact borders (IsNested grammar levels) (read_nested grammar levels) s rule good_rule closes_rule a terminals (reads grammar levels rule a terminals) refl
    (right borders (IsNested grammar levels) (read_nested grammar levels) s rule good_rule a terminals)

-- terminals have at most one meaning
pub has_one_meaning : (borders : Borders) (grammar : Grammar) (levels : ℕ) {A B : Type 0} (rule : Rule A B) → IsGood borders grammar →
    good borders rule ≡ true → (a : A) (terminals : List Terminal) (b c : B) →
    IsRead grammar levels rule a terminals b → IsRead grammar levels rule a terminals c → b ≡ c
has_one_meaning borders grammar levels rule g good_rule a terminals b c hb hc =
    let s = levels_sensible borders grammar g levels in
    read_value b c [] (sym (whole borders (IsNested grammar levels) (read_nested grammar levels) s rule good_rule a terminals b hb)
    ∙ whole borders (IsNested grammar levels) (read_nested grammar levels) s rule good_rule a terminals c hc)
