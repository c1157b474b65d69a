use Rattle.std.proofs.Common.{◌≡◌, ◌∷◌, ◌++◌, [], length, ap, sym, arith}
use Rattle.std.proofs.lemmas.Result.{err_from_is_err_and}
use Rattle.std.proofs.lemmas.List.{map_push, length-append}
use Rattle.catalogue.specs.Catalogue.{next_column}
use Rattle.catalogue.specs.Content.{PlainColumn, plain_column, plain_columns}
use Rattle.catalogue.specs.Values.{folded}
use Rattle.catalogue.proofs.Loops.{goes_on, ends, is_done}
use Rattle.catalogue.proofs.columns.read_columns.Goals as goal

pub returns-in_err-next-clause-exact : goal.returns-in_err-next-clause-exact
returns-in_err-next-clause-exact c =
    let p = err_from_is_err_and c.from_residual.result c.from_residual.ensures.1 in
    rw (p.1, p.2) (ends (next_column c.args.version c.args.table) (plain_columns c.loop-value.columns) c.args.items.now c.loop-value.value-index c.value-item.result c.in_err-next.field-0.0 _
    c.loop-value-test.true c.value-item.is (rw (← c.loop-value.invariant.names) c.in_err-next.ensures.exact) c.loop-value.invariant.read)

pub loop-value-preserved : goal.loop-value-preserved
loop-value-preserved c =
    let x = c.in_ok-next.next in
    let before = c.loop-value.columns in
    let e : plain_columns c.put.new.columns ≡ plain_columns before ++ plain_column x ∷ [] = rw c.in_ok-put.ensures (map_push plain_column before x) in
    record {
      read = rw e (goes_on (next_column c.args.version c.args.table) (plain_columns before) c.args.items.now c.loop-value.value-index c.value-item.result (plain_column x) _
          c.loop-value-test.true c.value-item.is (rw (← c.loop-value.invariant.names) c.in_ok-next.ensures.exact) c.loop-value.invariant.read);
      names = rw (e, c.in_ok-next.ensures.joins, c.loop-value.invariant.names) (sym (map_push (λ (y : PlainColumn). folded y.name) (plain_columns before) (plain_column x)));
      count = omega (arith, simp length-append at (ap length c.in_ok-put.ensures), c.loop-value.invariant.count);
    }

pub returns-clause-exact : goal.returns-clause-exact
returns-clause-exact c = is_done (next_column c.args.version c.args.table) (plain_columns c.loop-value.columns) c.args.items.now c.loop-value.value-index _ c.loop-value-test.false c.loop-value.invariant.read
