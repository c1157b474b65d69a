-- A list of which an element is looked at, seen by a function.
use Rattle.std.proofs.Common.{◌≡◌, ℕ, suc, ◌+◌, ◌<◌, List, [], ◌∷◌, ◌++◌, take, drop, length, get_or, map, add-one, drop-cons, sym, ap, ◌∙◌}
use Rattle.std.proofs.lemmas.List.{take_more, map-append, take-append-drop}

pub map_more : {A B : Type 0} (f : A → B) (xs : List A) (i : ℕ) (x : A) → i < length xs → x ≡ get_or xs i x → map f (take (i + 1) xs) ≡ map f (take i xs) ++ f x ∷ []
map_more {A = A} f xs i x h e =
    ap (map f) (take_more xs i x h ∙ ap (λ (y : A). take i xs ++ y ∷ []) (sym e)) ∙ map-append f (take i xs) (x ∷ [])

-- the elements before one, that one, and those behind it
pub parted : {A : Type 0} (xs : List A) (i : ℕ) (x : A) → i < length xs → x ≡ get_or xs i x → xs ≡ take i xs ++ x ∷ drop (i + 1) xs
parted {A = A} xs i x h e =
    let rest : drop i xs ≡ x ∷ drop (suc i) xs = drop-cons xs i x h ∙ ap (λ (y : A). y ∷ drop (suc i) xs) (sym e) in
    let there : drop i xs ≡ x ∷ drop (i + 1) xs = rw add-one rest in
    sym (take-append-drop i xs) ∙ ap (λ (ys : List A). take i xs ++ ys) there

pub map_parted : {A B : Type 0} (f : A → B) (xs : List A) (i : ℕ) (x : A) → i < length xs → x ≡ get_or xs i x → map f xs ≡ map f (take i xs) ++ f x ∷ map f (drop (i + 1) xs)
map_parted {A = A} f xs i x h e =
    ap (map f) (parted xs i x h e) ∙ map-append f (take i xs) (x ∷ drop (i + 1) xs)
