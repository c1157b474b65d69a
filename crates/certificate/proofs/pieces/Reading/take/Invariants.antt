use Rattle.std.proofs.Common.{◌≡◌, ℕ, List, ◌++◌, length}
use Rattle.certificate.specs.inner.Pieces.{IsRead, IsReached}
use Rattle.certificate.proofs.pieces.Reading.take.Given as goal

-- the bytes before the rest were read
abbrev pub invariant-lines : goal.invariant-lines
invariant-lines l = record {
  read : (done : List ℕ) × (l.piece ≡ done ++ l.rest) × ((text : List ℕ) → IsRead l.fn.self text → IsRead l.self (text ++ done));
  reached : ∥ IsReached l.self ∥₁;
}

abbrev pub decreases-lines : goal.decreases-lines
decreases-lines l = length l.rest
