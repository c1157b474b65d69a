use Rattle.std.proofs.Common.{◌≡◌, ◌-◌, ◌++◌}
use Rattle.std.specs.Prelude.{string_bytes}
use Rattle.workload_gen.specs.Statements.{statements_text}
use Rattle.workload_gen.proofs.statements.push_statements.Given as goal

abbrev pub invariant-statements : goal.invariant-statements
invariant-statements l =
    string_bytes l.out ++ statements_text (l.count - l.counter) l.tables l.draws.state ≡ string_bytes l.initial.out ++ statements_text l.count l.tables l.initial.draws.state
