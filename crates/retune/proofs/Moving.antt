-- An item that moves to the end of a list, and back.
use Rattle.std.proofs.Common.{◌≡◌, ◌∙◌, ℕ, zero, suc, ◌+◌, ◌-◌, ◌<◌, List, [], ◌∷◌, ◌++◌, length, take, drop, append_assoc, length-append, refl, sym, ap, arith}
use Rattle.std.proofs.Math.Seq.{take-append_seam, drop-append_seam}
use Rattle.std.specs.List.{remove}

-- the item at a place, and what stands before and behind it
pub record Split {A : Type 0} (xs : List A) (at : ℕ) : Type 0 where
  pub front : List A
  pub item : A
  pub back : List A
  pub is : xs ≡ front ++ item ∷ back
  pub place : at ≡ length front

pub split : {A : Type 0} (xs : List A) (at : ℕ) → at < length xs → Split xs at
split [] at h = absurd (omega arith)
split (x ∷ xs) zero h = record { front = []; item = x; back = xs; is = refl; place = refl }
split (x ∷ xs) (suc at) h =
    let more = split xs at (omega arith) in
    record { front = x ∷ more.front; item = more.item; back = more.back; is = ap (λ t. x ∷ t) more.is; place = ap suc more.place }

-- the list with an item at its end
abbrev pub at_end : {A : Type 0} → List A → ℕ → List A
at_end xs at = take at xs ++ (drop 1 (drop at xs) ++ take 1 (drop at xs))

behind : {A : Type 0} (front back : List A) (x : A) → drop 1 (drop (length front) (front ++ x ∷ back)) ≡ back
behind front back x = ap (drop 1) (drop-append_seam front (x ∷ back))

past : {A : Type 0} (front back : List A) (x : A) → drop (suc (length front)) (front ++ x ∷ back) ≡ back
past [] back x = refl
past (y ∷ front) back x = past front back x

moved : {A : Type 0} (front back : List A) (x : A) → at_end (front ++ x ∷ back) (length front) ≡ front ++ (back ++ x ∷ [])
moved front back x =
    ap (λ t. t ++ (drop 1 (drop (length front) (front ++ x ∷ back)) ++ take 1 (drop (length front) (front ++ x ∷ back)))) (take-append_seam front (x ∷ back))
    ∙ ap (λ t. front ++ (t ++ take 1 (drop (length front) (front ++ x ∷ back)))) (behind front back x)
    ∙ ap (λ t. front ++ (back ++ take 1 t)) (drop-append_seam front (x ∷ back))

pub at_end-is : {A : Type 0} (xs : List A) (at : ℕ) (s : Split xs at) → at_end xs at ≡ s.front ++ (s.back ++ s.item ∷ [])
at_end-is xs at s =
    ap (λ t. at_end t at) s.is ∙ ap (λ n. at_end (s.front ++ s.item ∷ s.back) n) s.place ∙ moved s.front s.back s.item

pub removed-is : {A : Type 0} (xs : List A) (at : ℕ) (s : Split xs at) → remove xs at ≡ s.front ++ s.back
removed-is xs at s =
    ap (λ t. remove t at) s.is ∙ ap (λ n. remove (s.front ++ s.item ∷ s.back) n) s.place
    ∙ ap (λ t. t ++ drop (suc (length s.front)) (s.front ++ s.item ∷ s.back)) (take-append_seam s.front (s.item ∷ s.back))
    ∙ ap (λ t. s.front ++ t) (past s.front s.back s.item)

-- the list without the item, with that at its place again
pub removed-back : {A : Type 0} (xs : List A) (at : ℕ) (s : Split xs at) → take at (remove xs at) ++ s.item ∷ drop at (remove xs at) ≡ xs
removed-back xs at s =
    ap (λ t. take at t ++ s.item ∷ drop at t) (removed-is xs at s)
    ∙ ap (λ n. take n (s.front ++ s.back) ++ s.item ∷ drop n (s.front ++ s.back)) s.place
    ∙ ap (λ t. t ++ s.item ∷ drop (length s.front) (s.front ++ s.back)) (take-append_seam s.front s.back)
    ∙ ap (λ t. s.front ++ s.item ∷ t) (drop-append_seam s.front s.back)
    ∙ sym s.is

-- all but the end are the list without the item
pub front-of-moved : {A : Type 0} (xs : List A) (at count : ℕ) → at < length xs → count + 1 ≡ length xs → take count (at_end xs at) ≡ remove xs at
front-of-moved xs at count h counted =
    let s = split xs at h in
    let long : count ≡ length (s.front ++ s.back) = omega (arith, ap length s.is, length-append s.front (s.item ∷ s.back), length-append s.front s.back) in
    ap (take count) (at_end-is xs at s ∙ sym (append_assoc s.front s.back (s.item ∷ [])))
    ∙ ap (λ n. take n ((s.front ++ s.back) ++ s.item ∷ [])) long
    ∙ take-append_seam (s.front ++ s.back) (s.item ∷ []) ∙ sym (removed-is xs at s)

-- the list with the last item moved to a place
abbrev pub put_back : {A : Type 0} → List A → ℕ → List A
put_back xs at = take at xs ++ (drop (length xs - 1) xs ++ take (length xs - 1 - at) (drop at xs))

returned : {A : Type 0} (front back : List A) (x : A) → put_back (front ++ (back ++ x ∷ [])) (length front) ≡ front ++ x ∷ back
returned {A = A} front back x =
    let whole : List A = front ++ (back ++ x ∷ []) in
    let long : length whole - 1 ≡ length (front ++ back) = omega (arith, length-append front (back ++ x ∷ []), length-append back (x ∷ []), length-append front back) in
    let rest : length whole - 1 - length front ≡ length back = omega (arith, length-append front (back ++ x ∷ []), length-append back (x ∷ [])) in
    ap (λ t. t ++ (drop (length whole - 1) whole ++ take (length whole - 1 - length front) (drop (length front) whole))) (take-append_seam front (back ++ x ∷ []))
    ∙ ap (λ n. front ++ (drop n whole ++ take (length whole - 1 - length front) (drop (length front) whole))) long
    ∙ ap (λ t. front ++ (drop (length (front ++ back)) t ++ take (length whole - 1 - length front) (drop (length front) whole))) (sym (append_assoc front back (x ∷ [])))
    ∙ ap (λ t. front ++ (t ++ take (length whole - 1 - length front) (drop (length front) whole))) (drop-append_seam (front ++ back) (x ∷ []))
    ∙ ap (λ n. front ++ x ∷ take n (drop (length front) whole)) rest
    ∙ ap (λ t. front ++ x ∷ take (length back) t) (drop-append_seam front (back ++ x ∷ []))
    ∙ ap (λ t. front ++ x ∷ t) (take-append_seam back (x ∷ []))

-- an item that is moved to the end and back
pub moved-back : {A : Type 0} (xs : List A) (at : ℕ) → at < length xs → put_back (at_end xs at) at ≡ xs
moved-back xs at h =
    let s = split xs at h in
    ap (λ t. put_back t at) (at_end-is xs at s) ∙ ap (λ n. put_back (s.front ++ (s.back ++ s.item ∷ [])) n) s.place ∙ returned s.front s.back s.item ∙ sym s.is

-- a list without an item that was put at its end
pub all-but-last : {A : Type 0} (xs : List A) (x : A) → take (length (xs ++ x ∷ []) - 1) (xs ++ x ∷ []) ≡ xs
all-but-last xs x =
    let long : length (xs ++ x ∷ []) - 1 ≡ length xs = omega (arith, length-append xs (x ∷ [])) in
    ap (λ n. take n (xs ++ x ∷ [])) long ∙ take-append_seam xs (x ∷ [])

-- and without one that was moved there
pub without-moved : {A : Type 0} (xs : List A) (at : ℕ) → at < length xs → take (length (at_end xs at) - 1) (at_end xs at) ≡ remove xs at
without-moved xs at h =
    let s = split xs at h in
    let long : (length (at_end xs at) - 1) + 1 ≡ length xs =
    omega (arith, ap length (at_end-is xs at s), ap length s.is, length-append s.front (s.back ++ s.item ∷ []), length-append s.back (s.item ∷ []), length-append s.front (s.item ∷ s.back)) in
    front-of-moved xs at (length (at_end xs at) - 1) h long

-- ## As lists are kept

pub at_end-length : {A : Type 0} (xs : List A) (at : ℕ) → at < length xs → length (at_end xs at) ≡ length xs
at_end-length xs at h =
    let s = split xs at h in
    omega (arith, ap length (at_end-is xs at s), ap length s.is, length-append s.front (s.back ++ s.item ∷ []), length-append s.back (s.item ∷ []), length-append s.front (s.item ∷ s.back))

-- all but the last, where one was moved to the end
pub front-left : {A : Type 0} (xs kept : List A) (at count : ℕ) → at < length xs → kept ≡ at_end xs at → count + 1 ≡ length xs → take count kept ≡ remove xs at
front-left xs kept at count h moved counted = ap (take count) moved ∙ front-of-moved xs at count h counted

pub last-gone : {A : Type 0} (xs kept left : List A) (at : ℕ) → at < length xs → kept ≡ at_end xs at → left ≡ take (length kept - 1) kept → left ≡ remove xs at
last-gone xs kept left at h moved is = is ∙ ap (λ t. take (length t - 1) t) moved ∙ without-moved xs at h

pub put-back : {A : Type 0} (xs kept after : List A) (at : ℕ) → at < length xs → kept ≡ at_end xs at → after ≡ put_back kept at → after ≡ xs
put-back xs kept after at h moved is = is ∙ ap (λ t. put_back t at) moved ∙ moved-back xs at h
