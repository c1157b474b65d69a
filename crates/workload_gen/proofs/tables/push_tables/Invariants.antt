use Rattle.std.proofs.Common.{◌≡◌, ◌+◌, ◌-◌, ◌*◌, ◌++◌}
use Rattle.std.specs.Prelude.{string_bytes}
use Rattle.workload_gen.specs.Draws.{after}
use Rattle.workload_gen.specs.Tables.{tables_text}
use Rattle.workload_gen.proofs.tables.push_tables.Given as goal

abbrev pub invariant-tables : goal.invariant-tables
invariant-tables l =
    (l.draws.state ≡ after (3 * l.at) l.initial.draws.state)
    × (string_bytes l.out ++ tables_text (l.count - l.at) (l.at + 1) l.draws.state ≡ string_bytes l.initial.out ++ tables_text l.count 1 l.initial.draws.state)
