use Rattle.std.proofs.Common.{◌≡◌, ◌+◌, ◌-◌, ◌*◌, ◌++◌, arith}
use Rattle.std.specs.Prelude.{string_bytes}
use Rattle.workload_gen.specs.Tables.{tables_text, table_text, drawn_sizes}
use Rattle.workload_gen.proofs.Steps.{after-three, tables_text-suc, append-piece}
use Rattle.workload_gen.proofs.tables.push_tables.Goals as goal

pub tables-preserved : goal.tables-preserved
tables-preserved c =
    let at = c.tables.at in
    let x = c.tables.draws.state in
    let drawn = after-three (3 * at) (3 * (at + 1)) c.args.draws.now.state (omega arith) in
    let step = tables_text-suc (c.args.count - at) (c.args.count - (at + 1)) (at + 1) x (omega arith) in
    let added : string_bytes c.push_table.new.out ≡ string_bytes c.tables.out ++ table_text (at + 1) (drawn_sizes x) = cc (c.in_ok-push_table.ensures) in
    let parts : tables_text (c.args.count - at) (at + 1) x ≡ table_text (at + 1) (drawn_sizes x) ++ tables_text (c.args.count - (at + 1)) (at + 1 + 1) c.draw_sizes-sizes.new.draws.state = cc in
    ((cc), append-piece _ _ _ added parts c.tables.invariant.1)
