use Rattle.std.proofs.Common.{◌≡◌, ◌+◌, ◌++◌, drop}
use Rattle.adv_base.specs.Settings.{the_setting}
use Rattle.report.specs.Sweeps.{point_lines}
use Rattle.report.proofs.swept.push_points.Given as goal

-- the lines so far, and those of the points that are left, are those of all
abbrev pub invariant-points : goal.invariant-points
invariant-points l =
    l.out.items ++ point_lines (the_setting l.setting) (l.at + 1) (drop l.at l.points) ≡ l.initial.out.items ++ point_lines (the_setting l.setting) 1 l.points
