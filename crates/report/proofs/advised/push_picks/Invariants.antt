use Rattle.std.proofs.Common.{◌≡◌, ◌+◌, ◌++◌, drop}
use Rattle.report.specs.Listings.{pick_lines}
use Rattle.report.proofs.advised.push_picks.Given as goal

-- the lines so far, and those of the candidates that are left, are those of all
abbrev pub invariant-shapes : goal.invariant-shapes
invariant-shapes l =
    l.out.items ++ pick_lines l.cat l.config (l.at + 1) (drop l.at l.shapes) ≡ l.initial.out.items ++ pick_lines l.cat l.config 1 l.shapes
