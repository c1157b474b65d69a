use Rattle.std.proofs.Common.{◌≡◌, ◌+◌, ◌∷◌, ◌++◌, [], length, ap, sym, ◌∙◌, arith}
use Rattle.std.proofs.lemmas.Result.{err_from_is_err_and}
use Rattle.std.proofs.lemmas.List.{map_push, length-append}
use Rattle.toml.specs.View.{view}
use Rattle.catalogue.specs.Catalogue.{next_table}
use Rattle.catalogue.specs.Content.{PlainTable, plain_table, plain_tables}
use Rattle.catalogue.specs.Values.{folded}
use Rattle.catalogue.proofs.IndexLists.{next_table-is, index_count-push, AreOwnFrom-push, own-same, length-table_names, CatalogueLimits-from}
use Rattle.catalogue.proofs.Loops.{goes_on, ends, is_done}
use Rattle.catalogue.proofs.tables.read_tables.Goals as goal

pub returns-in_err-next-clause-exact : goal.returns-in_err-next-clause-exact
returns-in_err-next-clause-exact c =
    let p = err_from_is_err_and c.from_residual.result c.from_residual.ensures.1 in
    let v = c.value-item.result in
    let is = next_table-is c.args.version c.loop-value.before c.loop-value.names c.loop-value.tables (view v) c.loop-value.invariant.indexes c.loop-value.invariant.names in
    rw (p.1, p.2) (ends (next_table c.args.version) (plain_tables c.loop-value.tables) c.args.items.now c.loop-value.value-index v c.in_err-next.field-0.0 _
    c.loop-value-test.true c.value-item.is (λ no_memory. is ∙ c.in_err-next.ensures.exact no_memory) c.loop-value.invariant.read)

pub loop-value-preserved : goal.loop-value-preserved
loop-value-preserved c =
    let x = c.in_ok-next.next in
    let v = c.value-item.result in
    let before = c.loop-value.tables in
    let is = next_table-is c.args.version c.loop-value.before c.loop-value.names before (view v) c.loop-value.invariant.indexes c.loop-value.invariant.names in
    let e : plain_tables c.put.new.tables ≡ plain_tables before ++ plain_table x ∷ [] = rw c.in_ok-put.ensures (map_push plain_table before x) in
    record {
      read = rw e (goes_on (next_table c.args.version) (plain_tables before) c.args.items.now c.loop-value.value-index v (plain_table x) _
          c.loop-value-test.true c.value-item.is (is ∙ c.in_ok-next.ensures.exact) c.loop-value.invariant.read);
      names = rw (e, c.in_ok-next.ensures.joins, c.loop-value.invariant.names) (sym (map_push (λ (y : PlainTable). folded y.name) (plain_tables before) (plain_table x)));
      indexes = rw (e, index_count-push before x) (omega (arith, c.loop-value.invariant.indexes));
      room = omega (arith, c.in_ok-next.ensures.room);
      own = rw c.in_ok-put.ensures (AreOwnFrom-push 0 before x c.loop-value.invariant.own (own-same (length c.loop-value.names) (0 + length before) x.indexes (omega (arith, length-table_names before c.loop-value.names c.loop-value.invariant.names)) c.in_ok-next.ensures.own));
      count = omega (arith, simp length-append at (ap length c.in_ok-put.ensures), c.loop-value.invariant.count);
    }

pub returns-clause-exact : goal.returns-clause-exact
returns-clause-exact c = is_done (next_table c.args.version) (plain_tables c.loop-value.tables) c.args.items.now c.loop-value.value-index _ c.loop-value-test.false c.loop-value.invariant.read

pub returns-clause-limits : goal.returns-clause-limits
returns-clause-limits c = CatalogueLimits-from c.loop-value.tables (omega arith) (omega (arith, c.loop-value.invariant.indexes)) c.loop-value.invariant.own
