use Rattle.std.proofs.Common.{◌≡◌, ◌+◌, ◌++◌, drop}
use Rattle.report.specs.Texts.{cost_lines}
use Rattle.report.proofs.printed.push_costs.Given as goal

-- the lines so far, and those of the statements that are left, are those of all
abbrev pub invariant-costs : goal.invariant-costs
invariant-costs l =
    l.out.items ++ cost_lines (l.at + 1) (drop l.at l.statements) (drop l.at l.costs)
    ≡ l.initial.out.items ++ cost_lines 1 l.statements l.costs
