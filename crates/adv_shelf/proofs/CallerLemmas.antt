-- Laws for callers: counts that rose, files where they are told, and output that grows.
use Rattle.std.proofs.Common.{◌≡◌, ◌≢◌, ℕ, ◌≤◌, List, ◌++◌, Option, None, Some, IsSomeAnd, Bool, true, false, nat_lt, cond, arith, ap, subst, ◌∙◌, inl, inr, refl, append_assoc}
use Rattle.std.proofs.lemmas.Bool.{ltb-true, ltb-false, false_from_ne_true}
use Rattle.std.proofs.lemmas.Map.Text.{is_eq-slice_cmp}
use Rattle.std.proofs.lemmas.Slice.Eq.{bytes_eq-Decides}
use Rattle.std.specs.Str.{bytes_eq}
use Rattle.std.specs.Cmp.Lexicographic.{nat_list_cmp_total}
use Rattle.std.specs.FinMap.{get, insert, get-insert}
use Rattle.adv_shelf.specs.Faults.{Rose}
use Rattle.adv_shelf.specs.Shelf.{Files, HasFile}
use Rattle.adv_shelf.specs.Sink.{append_to}

-- a count that rose in a later call rose in both
pub rose_later : (before between after : ℕ) → before ≤ between → Rose between after → Rose before after
rose_later before between after keeps (inl more) = inl (omega arith)
rose_later before between after keeps (inr end) = inr end

-- a count that has come to its end rose, unless it stood there
at_end : (before between after : ℕ) (b : Bool) → nat_lt before after ≡ b → before ≤ between → between ≡ 18446744073709551615
    → between ≤ after → Rose before after
at_end before between after true e first end keeps = inl (ltb-true before after e)
at_end before between after false e first end keeps = inr (omega (arith, ltb-false before after e))

-- a fact on the file of a name, where the files are told
pub told_fact : (files : Option Files) (m : Files) (name bytes : List ℕ) (P : List ℕ → Type 0) → files ≡ Some m
    → get m name ≡ Some bytes → HasFile files name P → P bytes
told_fact files m name bytes P told there holds =
    subst (λ o. IsSomeAnd o P) there (subst (λ f. HasFile f name P) told holds)

-- the test of two names in a map of files
same_name : (other name : List ℕ) (m : Files) (bytes : List ℕ)
    → get (insert m name bytes) other ≡ cond (bytes_eq other name) (Some bytes) (get m other)
same_name other name m bytes =
    get-insert nat_list_cmp_total m name bytes other
    ∙ ap (λ b. cond b (Some bytes) (get m other)) (is_eq-slice_cmp other name)

-- the file that was put is there
pub put_is_there : (m : Files) (name bytes : List ℕ) → get (insert m name bytes) name ≡ Some bytes
put_is_there m name bytes =
    same_name name name m bytes ∙ ap (λ b. cond b (Some bytes) (get m name)) ((bytes_eq-Decides name name).1 refl)

-- every other file is as it was
pub others_stay : (m : Files) (name bytes other : List ℕ) → other ≢ name → get (insert m name bytes) other ≡ get m other
others_stay m name bytes other apart =
    same_name other name m bytes
    ∙ ap (λ b. cond b (Some bytes) (get m other)) (false_from_ne_true _ (λ e. apart ((bytes_eq-Decides other name).0 e)))

-- two pieces that were written one behind the other
pub append_to-append_to : (written : Option (List ℕ)) (first next : List ℕ)
    → append_to (append_to written first) next ≡ append_to written (first ++ next)
append_to-append_to None first next = refl
append_to-append_to (Some before) first next = ap Some (append_assoc before first next)
