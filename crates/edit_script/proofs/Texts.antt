-- Texts of edits, as a loop reads them.
use Rattle.std.proofs.Common.{◌≡◌, ◌∙◌, ℕ, suc, ◌+◌, ◌≤◌, List, [], ◌∷◌, ◌++◌, length, count_by, cond, append_assoc, length-append, refl, sym, ap, arith}
use Rattle.std.specs.Prelude.{All}
use Rattle.std.proofs.lemmas.List.Elements.{All-append, All-nil, All-cons}
use Rattle.std.proofs.lemmas.List.Sums.{sum_by-append}
use Rattle.edit_script.specs.declared.edit.TheConstants.{MOST_LINES, MOST_ADVICES}
use Rattle.edit_script.specs.Scripts.{TheEdit, edit_text, script_text, IsEdit, AreEdits, is_advise}

-- one line more
script-more : (edits : List TheEdit) (edit : TheEdit) → script_text (edits ++ edit ∷ []) ≡ script_text edits ++ (edit_text edit ++ 10 ∷ [])
script-more [] edit = refl
script-more (e ∷ edits) edit =
    ap (λ (t : List ℕ). edit_text e ++ 10 ∷ t) (script-more edits edit) ∙ sym (append_assoc (edit_text e) (10 ∷ script_text edits) (edit_text edit ++ 10 ∷ []))

pub text-more : (bytes rest more : List ℕ) (edits : List TheEdit) (edit : TheEdit) → bytes ≡ script_text edits ++ rest → rest ≡ edit_text edit ++ 10 ∷ more →
    bytes ≡ script_text (edits ++ edit ∷ []) ++ more
text-more bytes rest more edits edit is e =
    is ∙ ap (λ (t : List ℕ). script_text edits ++ t) (e ∙ sym (append_assoc (edit_text edit) (10 ∷ []) more))
    ∙ sym (append_assoc (script_text edits) (edit_text edit ++ 10 ∷ []) more) ∙ ap (λ (t : List ℕ). t ++ more) (sym (script-more edits edit))

abbrev pub one_if : TheEdit → ℕ
one_if edit = cond (is_advise edit) 1 0

pub count-more : (edits : List TheEdit) (edit : TheEdit) → count_by is_advise (edits ++ edit ∷ []) ≡ count_by is_advise edits + one_if edit
count-more edits edit = omega (arith, sum_by-append one_if edits (edit ∷ []))

pub edits-more : (edits : List TheEdit) (edit : TheEdit) → AreEdits edits → IsEdit edit → length edits + 1 ≤ MOST_LINES → count_by is_advise edits + one_if edit ≤ MOST_ADVICES →
    AreEdits (edits ++ edit ∷ [])
edits-more edits edit h is few seldom =
    record {
      each = All-append IsEdit edits (edit ∷ []) h.each (All-cons IsEdit edit [] is (All-nil IsEdit));
      lines = omega (arith, length-append edits (edit ∷ []));
      advices = omega (arith, count-more edits edit);
    }

-- the front of edits
all-front : {X : Type 0} (P : X → Type 0) (xs ys : List X) → All P (xs ++ ys) → All P xs
all-front P [] ys h = All-nil P
all-front P (x ∷ xs) ys h = All-cons P x xs (h 0 x (omega arith)) (all-front P xs ys (λ k d within. h (suc k) d (omega (arith, within))))

pub edits-front : (xs ys : List TheEdit) → AreEdits (xs ++ ys) → AreEdits xs
edits-front xs ys h =
    record {
      each = all-front IsEdit xs ys h.each;
      lines = omega (arith, length-append xs ys, h.lines);
      advices = omega (arith, sum_by-append one_if xs ys, h.advices);
    }
