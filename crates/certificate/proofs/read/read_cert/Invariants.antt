use Rattle.std.proofs.Common.{ℕ, List, length}
use Rattle.certificate.specs.inner.Outlines.{with_tree}
use Rattle.certificate.proofs.ReadLaws.{HasRead}
use Rattle.certificate.proofs.read.read_cert.Given as goal

-- the lines so far lead to the draft
abbrev pub invariant-lines : goal.invariant-lines
invariant-lines l = (lines : List (List ℕ)) × HasRead l.bytes l.rest (with_tree l.outline l.tree) l.number lines

abbrev pub decreases-lines : goal.decreases-lines
decreases-lines l = length l.rest
