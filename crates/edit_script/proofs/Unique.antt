-- A text has one reading.
use Rattle.std.proofs.Common.{◌≡◌, ◌∙◌, ◌⊎◌, inl, inr, ℕ, suc, ◌+◌, ◌≤◌, List, [], ◌∷◌, ◌++◌, length, decimal, append_assoc, refl, sym, ap, subst, drop, get_or, arith}
use Rattle.std.specs.Prelude.{All}
use Rattle.std.proofs.lemmas.Fmt.{decimal_injective}
use Rattle.std.proofs.lemmas.List.{append-nil}
use Rattle.adv_base.proofs.LineLaws.{one_line}
use Rattle.edit_script.specs.Scripts.{TheEdit, Add, Remove, Weigh, Advise, edit_text, script_text, IsEdit, AreEdits, IsScript, IsBadLine}
use Rattle.edit_script.proofs.Numbers.{one_number}
use Rattle.edit_script.proofs.Texts.{edits-front}

-- a line is one edit
one-edit : (x y : TheEdit) → IsEdit x → IsEdit y → edit_text x ≡ edit_text y → x ≡ y
one-edit (Add weight sql) (Add other more) h g e =
    let same = one_number weight other sql more (omega (arith, h.range.0.1)) (omega (arith, g.range.0.1)) (ap (drop 4) e) in
    let first = same.0 in let second = same.1 in
    cc
one-edit (Remove number) (Remove other) h g e = ap Remove (decimal_injective number other (omega (arith, h.range.1)) (omega (arith, g.range.1)) (ap (drop 7) e))
one-edit (Weigh number weight) (Weigh other heavy) h g e =
    let same = one_number number other (decimal weight) (decimal heavy) (omega (arith, h.range.0.1)) (omega (arith, g.range.0.1)) (ap (drop 6) e) in
    let first = same.0 in
    let second = decimal_injective weight heavy (omega (arith, h.range.1.1)) (omega (arith, g.range.1.1)) same.1 in
    cc
one-edit Advise Advise h g e = refl
one-edit (Add weight sql) Advise h g e = absurd (omega (arith, ap (λ (t : List ℕ). get_or t 2 0) e))
one-edit Advise (Add weight sql) h g e = absurd (omega (arith, ap (λ (t : List ℕ). get_or t 2 0) e))
one-edit x y h g e = absurd (omega (arith, ap (λ (t : List ℕ). get_or t 0 0) e))

-- one list of edits goes on where another ends
record Longer (xs ys : List TheEdit) (r s : List ℕ) : Type 0 where
  pub next : TheEdit
  pub more : List TheEdit
  pub all : ys ≡ xs ++ next ∷ more
  pub text : r ≡ edit_text next ++ 10 ∷ (script_text more ++ s)

abbrev Meet : List TheEdit → List TheEdit → List ℕ → List ℕ → Type 0
Meet xs ys r s = ((xs ≡ ys) × (r ≡ s)) ⊎ (Longer xs ys r s ⊎ Longer ys xs s r)

cut : (edit : TheEdit) (edits : List TheEdit) (rest : List ℕ) → script_text (edit ∷ edits) ++ rest ≡ edit_text edit ++ 10 ∷ (script_text edits ++ rest)
cut edit edits rest = append_assoc (edit_text edit) (10 ∷ script_text edits) rest

tail-all : (x : TheEdit) (xs : List TheEdit) → All IsEdit (x ∷ xs) → All IsEdit xs
tail-all x xs h = λ k d within. h (suc k) d (omega (arith, within))

longer-more : (x y : TheEdit) (xs ys : List TheEdit) (r s : List ℕ) → x ≡ y → Longer xs ys r s → Longer (x ∷ xs) (y ∷ ys) r s
longer-more x y xs ys r s same h =
    record { next = h.next; more = h.more; all = ap (λ (e : TheEdit). e ∷ ys) (sym same) ∙ ap (λ (es : List TheEdit). x ∷ es) h.all; text = h.text }

-- two lists of edits with the same text, and what follows each
meet : (xs ys : List TheEdit) (r s : List ℕ) → All IsEdit xs → All IsEdit ys → script_text xs ++ r ≡ script_text ys ++ s → Meet xs ys r s
meet [] [] r s h g e = inl (refl, e)
meet [] (y ∷ ys) r s h g e = inr (inl (record { next = y; more = ys; all = refl; text = e ∙ cut y ys s }))
meet (x ∷ xs) [] r s h g e = inr (inr (record { next = x; more = xs; all = refl; text = sym e ∙ cut x xs r }))
meet (x ∷ xs) (y ∷ ys) r s h g e =
    let mine = h 0 x (omega arith) in
    let yours = g 0 y (omega arith) in
    let lines = one_line (script_text (x ∷ xs) ++ r) (edit_text x) (script_text xs ++ r) (edit_text y) (script_text ys ++ s)
    (record { parts = cut x xs r; whole = mine.line }) (record { parts = e ∙ cut y ys s; whole = yours.line }) in
    let same = one-edit x y mine yours lines.0 in
    elim (meet xs ys r s (tail-all x xs h) (tail-all y ys g) lines.1) [
      | inl equal ↦ inl (ap (λ (e : TheEdit). e ∷ xs) same ∙ ap (λ (es : List TheEdit). y ∷ es) equal.0, equal.1)
      | inr apart ↦
          elim apart [
            | inl less ↦ inr (inl (longer-more x y xs ys r s same less))
            | inr more ↦ inr (inr (longer-more y x ys xs s r (sym same) more))
          ]
    ]

not-nothing : (front rest : List ℕ) (x : ℕ) → [] ≡ front ++ x ∷ rest → ⊥
not-nothing [] rest x e = cc
not-nothing (y ∷ ys) rest x e = cc

to-end : (bytes : List ℕ) (edits : List TheEdit) → IsScript bytes edits → bytes ≡ script_text edits ++ []
to-end bytes edits h = h.text ∙ sym (append-nil (script_text edits))

pub one_script : (bytes : List ℕ) (edits others : List TheEdit) → IsScript bytes edits → IsScript bytes others → edits ≡ others
one_script bytes edits others h g =
    elim (meet edits others [] [] h.limits.each g.limits.each (sym (to-end bytes edits h) ∙ to-end bytes others g)) [
      | inl equal ↦ equal.0
      | inr apart ↦
          elim apart [
            | inl less ↦ absurd (not-nothing (edit_text less.next) (script_text less.more ++ []) 10 less.text)
            | inr more ↦ absurd (not-nothing (edit_text more.next) (script_text more.more ++ []) 10 more.text)
          ]
    ]

-- no edits go on at a bad line
stuck : (bytes : List ℕ) (number : ℕ) (h : IsBadLine bytes number) (ys : List TheEdit) (s : List ℕ) → AreEdits ys → Longer h.before ys h.rest s → ⊥
stuck bytes number h ys s are less =
    let next : List TheEdit = less.next ∷ [] in
    let all : ys ≡ (h.before ++ next) ++ less.more = less.all ∙ sym (append_assoc h.before next less.more) in
    h.none less.next (script_text less.more ++ s) less.text (edits-front (h.before ++ next) less.more (subst AreEdits all are))

pub one_bad_line : (bytes : List ℕ) (a b : ℕ) → IsBadLine bytes a → IsBadLine bytes b → a ≡ b
one_bad_line bytes a b h g =
    elim (meet h.before g.before h.rest g.rest h.limits.each g.limits.each (sym h.text ∙ g.text)) [
      | inl equal ↦ h.place ∙ ap (λ (es : List TheEdit). length es + 1) equal.0 ∙ sym g.place
      | inr apart ↦
          elim apart [
            | inl less ↦ absurd (stuck bytes a h g.before g.rest g.limits less)
            | inr more ↦ absurd (stuck bytes b g h.before h.rest h.limits more)
          ]
    ]

pub no_bad_line : (bytes : List ℕ) (edits : List TheEdit) (a : ℕ) → IsScript bytes edits → ¬ (IsBadLine bytes a)
no_bad_line bytes edits a h g =
    elim (meet g.before edits g.rest [] g.limits.each h.limits.each (sym g.text ∙ to-end bytes edits h)) [
      | inl equal ↦ let stands : 1 ≤ length g.rest = g.stands in let none : length g.rest ≡ 0 = ap length equal.1 in omega arith
      | inr apart ↦
          elim apart [
            | inl less ↦ stuck bytes a g edits [] h.limits less
            | inr more ↦ not-nothing (edit_text more.next) (script_text more.more ++ g.rest) 10 more.text
          ]
    ]
