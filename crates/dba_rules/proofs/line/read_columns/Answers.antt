use Rattle.std.proofs.Common.{◌≡◌, ℕ, ◌+◌, ◌-◌, ◌<◌, Bool, false, List, Ok, Result, ap, subst, ◌∙◌, arith}
use Rattle.dba_rules.specs.declared.fault.RuleFault.{RuleFault}
use Rattle.dba_rules.specs.Lines.{column_step, columns_from}
use Rattle.dba_rules.proofs.Columns.{columns_go}
use Rattle.dba_rules.proofs.line.read_columns.Goals as goal

abbrev stepped : List (List ℕ) → List ℕ → Bool → Result (List (List ℕ) × Bool × List ℕ) RuleFault
stepped columns rest last = Ok (columns, last, rest)

pub columns-preserved : goal.columns-preserved
columns-preserved c =
    let number = c.args.number in
    let all = columns_from number 8 c.args.columns.now c.args.bytes.now in
    let more = c.in_ok-closed.more.now in
    let some : 0 < 8 - c.columns._count = omega (arith, c.columns-test.true) in
    let next : (8 - c.columns._count) - 1 ≡ 8 - (c.columns._count + 1) = omega arith in
    let step : column_step number c.columns.columns c.columns.rest.now ≡ stepped c.column_step.new.columns more false =
    c.in_ok-closed.ensures ∙ ap (stepped c.column_step.new.columns more) c.if-closed.false in
    subst (λ (n : ℕ). columns_from number n c.column_step.new.columns more ≡ all) next
    (columns_go number (8 - c.columns._count) c.columns.columns c.column_step.new.columns c.columns.rest.now more all some step c.columns.invariant)
