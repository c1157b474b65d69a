use Rattle.std.proofs.Common.{◌≡◌, ◌+◌, ◌++◌, drop}
use Rattle.report.specs.Listings.{candidate_lines}
use Rattle.report.proofs.listed.push_candidates.Given as goal

-- the lines so far, and those of the candidates that are left, are those of all
abbrev pub invariant-shapes : goal.invariant-shapes
invariant-shapes l =
    l.out.items ++ candidate_lines l.cat (l.at + 1) (drop l.at l.shapes) ≡ l.initial.out.items ++ candidate_lines l.cat 1 l.shapes
