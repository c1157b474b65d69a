-- What a file has from a place on, while it is read.
use Rattle.std.proofs.Common.{◌≡◌, ◌∙◌, ℕ, zero, suc, ◌+◌, ◌≤◌, List, [], ◌∷◌, ◌++◌, length, take, drop, Option, Some, None, refl, sym, ap, subst, arith, length-append}
use Rattle.std.specs.Prelude.{IfSome, IsSomeAnd, MatchOption}
use Rattle.std.specs.FinMap.{get}
use Rattle.std.proofs.Math.Seq.{take-add}
use Rattle.std.proofs.lemmas.List.{append-nil, length-take-le, take-append-drop}
use Rattle.adv_shelf.specs.Shelf.{Files, HasFile, IsRead}
use Rattle.gap_checker.specs.At.{IsBehind}

-- bytes that were read are the front of that
abbrev pub IsFrontBehind : Option Files → List ℕ → ℕ → List ℕ → Type 0
IsFrontBehind files name at text = IfSome files (λ m. MatchOption (get m name) (text ≡ []) (λ file. take (length text) (drop at file) ≡ text))

drop-none : (n : ℕ) → drop {A = ℕ} n [] ≡ []
drop-none zero = refl
drop-none (suc n) = refl

drop-sum : (m n : ℕ) (xs : List ℕ) → drop (m + n) xs ≡ drop n (drop m xs)
drop-sum zero n xs = let none : 0 + n ≡ n = omega arith in ap (λ (k : ℕ). drop k xs) none
drop-sum (suc m) n [] = drop-none (suc m + n) ∙ sym (drop-none n)
drop-sum (suc m) n (x ∷ xs) = let next : suc m + n ≡ suc (m + n) = omega arith in ap (λ (k : ℕ). drop k (x ∷ xs)) next ∙ drop-sum m n xs

pub front-none : (files : Option Files) (name : List ℕ) (at : ℕ) → IsFrontBehind files name at []
front-none None name at = tt
front-none (Some m) name at = elim (get m name) as (λ o. MatchOption o (◌≡◌ {A = List ℕ} [] []) (λ file. take 0 (drop at file) ≡ [])) [
  | None ↦ refl
  | Some file ↦ refl
]

front-file : (file text buf : List ℕ) (at place n : ℕ) → place ≡ at + length text → take (length text) (drop at file) ≡ text → IsRead file place n buf → n ≤ length buf →
    take (length (text ++ take n buf)) (drop at file) ≡ text ++ take n buf
front-file file text buf at place n same front read fits =
    let D : List ℕ = drop at file in
    let size : length (text ++ take n buf) ≡ length text + n = length-append text (take n buf) ∙ ap (λ (k : ℕ). length text + k) (length-take-le n buf fits) in
    let rest : drop place file ≡ drop (length text) D = ap (λ (k : ℕ). drop k file) same ∙ drop-sum at (length text) file in
    ap (λ (k : ℕ). take k D) size ∙ take-add (length text) n D ∙ ap (λ (xs : List ℕ). xs ++ take n (drop (length text) D)) front
    ∙ ap (λ (xs : List ℕ). text ++ xs) (sym (read.bytes ∙ ap (take n) rest))

-- and with the bytes that a read gave
pub front-more : (files now : Option Files) (name text buf : List ℕ) (at place n : ℕ) → now ≡ files → place ≡ at + length text → IsFrontBehind files name at text → HasFile now name (λ file. IsRead file place n buf) → n ≤ length buf →
    IsFrontBehind files name at (text ++ take n buf)
front-more files now name text buf at place n same place_is front read fits =
    case files front (subst (λ (f : Option Files). HasFile f name (λ file. IsRead file place n buf)) same read)
  where
    case : (f : Option Files) → IsFrontBehind f name at text → HasFile f name (λ file. IsRead file place n buf) → IsFrontBehind f name at (text ++ take n buf)
    case None front read = tt
    case (Some m) front read =
        elim (get m name) as (λ o. MatchOption o (text ≡ []) (λ file. take (length text) (drop at file) ≡ text) → IsSomeAnd o (λ file. IsRead file place n buf) →
        MatchOption o (text ++ take n buf ≡ []) (λ file. take (length (text ++ take n buf)) (drop at file) ≡ text ++ take n buf)) [
          | None ↦ λ here none. absurd none
          | Some file ↦ λ here more. front-file file text buf at place n place_is here more fits
        ] front read

whole-file : (file text buf : List ℕ) (at place : ℕ) → place ≡ at + length text → take (length text) (drop at file) ≡ text → IsRead file place 0 buf → drop at file ≡ text
whole-file file text buf at place same front read =
    let D : List ℕ = drop at file in
    let none : drop (length text) D ≡ [] = sym (ap (λ (k : ℕ). drop k file) same ∙ drop-sum at (length text) file) ∙ read.none_at_end refl in
    sym (take-append-drop (length text) D) ∙ ap (λ (xs : List ℕ). take (length text) D ++ xs) none ∙ append-nil (take (length text) D) ∙ front

-- nothing more comes at the file's end
pub front-whole : (files now : Option Files) (name text buf : List ℕ) (at place n : ℕ) → now ≡ files → place ≡ at + length text → n ≡ 0 → IsFrontBehind files name at text → HasFile now name (λ file. IsRead file place n buf) → IsBehind files name at text
front-whole files now name text buf at place n same place_is none front read =
    case files front (subst (λ (k : ℕ). HasFile files name (λ file. IsRead file place k buf)) none (subst (λ (f : Option Files). HasFile f name (λ file. IsRead file place n buf)) same read))
  where
    case : (f : Option Files) → IsFrontBehind f name at text → HasFile f name (λ file. IsRead file place 0 buf) → IsBehind f name at text
    case None front read = tt
    case (Some m) front read =
        elim (get m name) as (λ o. MatchOption o (text ≡ []) (λ file. take (length text) (drop at file) ≡ text) → IsSomeAnd o (λ file. IsRead file place 0 buf) →
        MatchOption o (text ≡ []) (λ file. drop at file ≡ text)) [
          | None ↦ λ here none. absurd none
          | Some file ↦ λ here more. whole-file file text buf at place place_is here more
        ] front read

-- the front and what is behind it
pub front-on : (files : Option Files) (name : List ℕ) (at : ℕ) (text : List ℕ) → IsFrontBehind files name at text → (more : List ℕ) × IsBehind files name at (text ++ more)
front-on None name at text front = ([], tt)
front-on (Some m) name at text front =
    elim (get m name) as (λ o. MatchOption o (text ≡ []) (λ file. take (length text) (drop at file) ≡ text) → (more : List ℕ) × MatchOption o (text ++ more ≡ []) (λ file. drop at file ≡ text ++ more)) [
      | None ↦ λ here. ([], append-nil text ∙ here)
      | Some file ↦ λ here. (drop (length text) (drop at file), sym (take-append-drop (length text) (drop at file)) ∙ ap (λ (xs : List ℕ). xs ++ drop (length text) (drop at file)) here)
    ] front
