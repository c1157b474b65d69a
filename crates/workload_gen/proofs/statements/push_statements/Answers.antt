use Rattle.std.proofs.Common.{◌≡◌, ◌+◌, ◌-◌, ◌++◌, arith}
use Rattle.std.specs.Prelude.{string_bytes}
use Rattle.workload_gen.specs.Statements.{statements_text, statement_text, drawn_choice}
use Rattle.workload_gen.proofs.Steps.{statements_text-suc, append-piece}
use Rattle.workload_gen.proofs.statements.push_statements.Goals as goal

pub statements-preserved : goal.statements-preserved
statements-preserved c =
    let at = c.statements.counter in
    let x = c.statements.draws.state in
    let text = statement_text c.args.tables (drawn_choice c.args.tables x) in
    let step = statements_text-suc (c.args.count - at) (c.args.count - (at + 1)) c.args.tables x (omega arith) in
    let added : string_bytes c.push_statement.new.out ≡ string_bytes c.statements.out ++ text = cc (c.in_ok-push_statement.ensures) in
    let parts : statements_text (c.args.count - at) c.args.tables x ≡ text ++ statements_text (c.args.count - (at + 1)) c.args.tables c.draw_choice-choice.new.draws.state = cc in
    append-piece _ _ _ added parts c.statements.invariant
