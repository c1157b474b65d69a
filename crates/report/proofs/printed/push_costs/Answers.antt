use Rattle.std.proofs.Common.{◌+◌, ◌++◌, ap, sym, ◌∙◌, append_assoc, append-nil, refl, arith}
use Rattle.report.specs.Texts.{cost_line}
use Rattle.report.proofs.CostLines.{cost_lines-turn, cost_lines-end}
use Rattle.report.proofs.printed.push_costs.Goals as goal

pub costs-preserved : goal.costs-preserved
costs-preserved c =
    let i = c.costs.at in
    let statements = c.args.statements.now in
    let costs = c.args.costs.now in
    let statement = c.index-statements-at.result in
    let turn = cost_lines-turn (i + 1) i statements costs statement _ (omega arith) c.costs-test.true c.index-statements-at.is refl in
    let e = ap (λ xs. c.costs.out.items ++ xs) (sym turn) in
    rw c.in_ok-push_cost.ensures (append_assoc c.costs.out.items (cost_line (i + 1) statement.weight _) _ ∙ e ∙ c.costs.invariant)

pub returns : goal.returns
returns c =
    let end = cost_lines-end (c.costs.at + 1) c.costs.at c.args.statements.now c.args.costs.now c.costs-test.false in
    sym (append-nil c.costs.out.items) ∙ ap (λ xs. c.costs.out.items ++ xs) (sym end) ∙ c.costs.invariant
