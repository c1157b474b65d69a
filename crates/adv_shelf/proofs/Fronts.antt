-- A file that is read from its front, and an output that is written from its front.
use Rattle.std.proofs.Common.{◌≡◌, ℕ, ◌+◌, ◌-◌, ◌<◌, ◌≤◌, List, [], ◌++◌, take, drop, length, Option, Some, None, IsSomeAnd, MatchOption, arith, length-append, sym, ap, ◌∙◌, subst}
use Rattle.std.proofs.lemmas.List.{length-take-le, length-take, take-append-le, take_rest}
use Rattle.std.proofs.Math.Seq.{take-add}
use Rattle.std.specs.FinMap.{get}
use Rattle.adv_shelf.specs.Shelf.{Files, HasFile, IsRead}
use Rattle.adv_shelf.specs.Sink.{append_to}
use Rattle.adv_shelf.specs.Taker.{IsFront}
use Rattle.adv_shelf.proofs.CallerLemmas.{append_to-append_to}

-- a front and the bytes that a read finds behind it are a front
front_of_file : (file bytes buf : List ℕ) (n : ℕ) → take (length bytes) file ≡ bytes
    → IsRead file (length bytes) n buf → n ≤ length buf
    → take (length (bytes ++ take n buf)) file ≡ bytes ++ take n buf
front_of_file file bytes buf n front read fits =
    ap (λ k. take k file) (length-append bytes (take n buf) ∙ ap (λ k. length bytes + k) (length-take-le n buf fits))
    ∙ take-add (length bytes) n file
    ∙ ap (λ xs. xs ++ take n (drop (length bytes) file)) front
    ∙ ap (λ xs. bytes ++ xs) (sym read.bytes)

front_in_files : (files : Option Files) (name bytes buf : List ℕ) (n : ℕ) → IsFront files name bytes
    → HasFile files name (λ file. IsRead file (length bytes) n buf) → n ≤ length buf
    → IsFront files name (bytes ++ take n buf)
front_in_files None name bytes buf n front read fits = tt
front_in_files (Some m) name bytes buf n front read fits =
    elim (get m name) as (λ o. MatchOption o (bytes ≡ []) (λ file. take (length bytes) file ≡ bytes)
    → IsSomeAnd o (λ file. IsRead file (length bytes) n buf)
    → MatchOption o (bytes ++ take n buf ≡ []) (λ file. take (length (bytes ++ take n buf)) file ≡ bytes ++ take n buf)) [
      | None ↦ λ here none. absurd none
      | Some file ↦ λ here more. front_of_file file bytes buf n here more fits
    ] front read

-- a read into the front of a longer buffer, of which the bytes that came are kept
pub front_goes_on : (files now : Option Files) (name bytes buf rest after : List ℕ) (from n : ℕ) → now ≡ files
    → from ≡ length bytes → IsFront files name bytes → HasFile now name (λ file. IsRead file from n buf) → n ≤ length buf
    → after ≡ bytes ++ take n (buf ++ rest) → IsFront files name after
front_goes_on files now name bytes buf rest after from n same place front read fits grown =
    let there : HasFile files name (λ file. IsRead file (length bytes) n buf) =
    subst (λ k. HasFile files name (λ file. IsRead file k n buf)) place
    (subst (λ f. HasFile f name (λ file. IsRead file from n buf)) same read) in
    subst (λ b. IsFront files name b) (sym (grown ∙ ap (λ xs. bytes ++ xs) (take-append-le n buf rest fits)))
    (front_in_files files name bytes buf n front there fits)

-- a file is no shorter than its front
no_shorter : (file bytes : List ℕ) (most : ℕ) → take (length bytes) file ≡ bytes → most < length bytes → most < length file
no_shorter file bytes most front long = omega (arith, ap length front, length-take (length bytes) file)

pub front_is_long : (files : Option Files) (name bytes : List ℕ) (most : ℕ) → IsFront files name bytes
    → most < length bytes → HasFile files name (λ file. most < length file)
front_is_long None name bytes most front long = tt
front_is_long (Some m) name bytes most front long =
    elim (get m name) as (λ o. MatchOption o (bytes ≡ []) (λ file. take (length bytes) file ≡ bytes)
    → IsSomeAnd o (λ file. most < length file)) [
      | None ↦ λ none. absurd (omega (arith, ap length none))
      | Some file ↦ λ here. no_shorter file bytes most here long
    ] front

-- the next piece behind the front that was written makes a longer front
pub written_goes_on : (written : Option (List ℕ)) (bytes : List ℕ) (done n : ℕ)
    → append_to (append_to written (take done bytes)) (take n (take (length bytes - done) (drop done bytes)))
    ≡ append_to written (take (done + n) bytes)
written_goes_on written bytes done n =
    append_to-append_to written (take done bytes) (take n (take (length bytes - done) (drop done bytes)))
    ∙ ap (append_to written) (ap (λ xs. take done bytes ++ take n xs) (take_rest bytes done) ∙ sym (take-add done n bytes))
