-- A file that is handed on from its front.
use Rattle.std.proofs.Common.{◌≡◌, ◌∙◌, ℕ, ◌+◌, ◌≤◌, List, ◌++◌, take, length, Option, sym, ap, subst, refl, length-append}
use Rattle.std.proofs.lemmas.List.{append_assoc, length-take-le, take-append-le}
use Rattle.adv_shelf.specs.Shelf.{Files, HasFile, IsRead}
use Rattle.adv_shelf.specs.Taker.{GoesOn, IsFront}
use Rattle.adv_shelf.proofs.Fronts.{front_goes_on}

-- so many bytes of the front of the file were handed on
pub record HasFed {T : Type 0} (files : Option Files) (name : List ℕ) (done : ℕ) (StandsFor : T → List ℕ → Type 0) (before after : T) (bytes : List ℕ) : Type 0 where
  pub front : IsFront files name bytes
  pub count : length bytes ≡ done
  pub grown : GoesOn StandsFor before bytes after

-- one more piece
pub feeds_on : {T : Type 0} (files now : Option Files) (name bytes buf rest : List ℕ) (done n : ℕ) (StandsFor : T → List ℕ → Type 0) (before between after : T) →
    HasFed files name done StandsFor before between bytes → now ≡ files → HasFile now name (λ file. IsRead file done n buf) → n ≤ length buf →
    GoesOn StandsFor between (take n (buf ++ rest)) after → (more : List ℕ) × HasFed files name (done + n) StandsFor before after more
feeds_on files now name bytes buf rest done n StandsFor before between after fed same read fits next =
    let piece : List ℕ = take n (buf ++ rest) in (
      bytes ++ piece,
      record {
        front = front_goes_on files now name bytes buf rest (bytes ++ piece) done n same (sym fed.count) fed.front read fits refl;
        count = length-append bytes piece ∙ ap (λ xs. length bytes + length xs) (take-append-le n buf rest fits) ∙ ap (λ k. length bytes + k) (length-take-le n buf fits) ∙ ap (λ k. k + n) fed.count;
        grown = λ text stands. subst (StandsFor after) (append_assoc text bytes piece) (next (text ++ bytes) (fed.grown text stands));
      },
    )
