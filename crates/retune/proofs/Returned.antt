-- A list of which an item was moved to the end, with that at its place again.
use Rattle.std.proofs.Common.{◌≡◌, ◌∙◌, ℕ, ◌+◌, ◌<◌, List, [], ◌∷◌, ◌++◌, length, get_or, take, drop, append_assoc, length-append, refl, sym, ap, arith}
use Rattle.std.specs.List.{remove}
use Rattle.retune.proofs.Moving.{at_end, at_end-is, front-left, removed-back, split}

at-seam : {A : Type 0} (xs : List A) (x d : A) → get_or (xs ++ x ∷ []) (length xs) d ≡ x
at-seam [] x d = refl
at-seam (y ∷ ys) x d = at-seam ys x d

pub with-last : {A : Type 0} (xs kept : List A) (at count : ℕ) (item : A) → at < length xs → kept ≡ at_end xs at → count + 1 ≡ length xs → item ≡ get_or kept count item →
    take at (take count kept) ++ item ∷ drop at (take count kept) ≡ xs
with-last xs kept at count item h moved counted is =
    let s = split xs at h in
    let long : count ≡ length (s.front ++ s.back) = omega (arith, ap length s.is, length-append s.front (s.item ∷ s.back), length-append s.front s.back) in
    let last : item ≡ s.item =
    is ∙ ap (λ (t : List _). get_or t count item) (moved ∙ at_end-is xs at s ∙ sym (append_assoc s.front s.back (s.item ∷ [])))
    ∙ ap (λ (n : ℕ). get_or ((s.front ++ s.back) ++ s.item ∷ []) n item) long ∙ at-seam (s.front ++ s.back) s.item item in
    ap (λ (t : List _). take at t ++ item ∷ drop at t) (front-left xs kept at count h moved counted)
    ∙ ap (λ (x : _). take at (remove xs at) ++ x ∷ drop at (remove xs at)) last ∙ removed-back xs at s
