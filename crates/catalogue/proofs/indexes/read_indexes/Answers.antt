use Rattle.std.proofs.Common.{◌≡◌, ◌<◌, ◌+◌, ◌∷◌, ◌++◌, [], length, All, refl, ap, sym, ◌∙◌, arith}
use Rattle.std.proofs.lemmas.Result.{err_from_is_err_and}
use Rattle.std.proofs.lemmas.List.{map_push, length-append}
use Rattle.std.proofs.lemmas.List.Elements.{All-push}
use Rattle.toml.specs.View.{view}
use Rattle.adv_base.specs.declared.catalogue.index.Index.{Index}
use Rattle.catalogue.specs.Catalogue.{next_index}
use Rattle.catalogue.specs.Content.{PlainIndex, plain_index, plain_indexes}
use Rattle.catalogue.specs.Values.{folded}
use Rattle.catalogue.proofs.IndexLists.{next_index-is, clustered-push}
use Rattle.catalogue.proofs.Loops.{goes_on, ends, is_done}
use Rattle.catalogue.proofs.indexes.read_indexes.Goals as goal

pub returns-in_err-next-clause-exact : goal.returns-in_err-next-clause-exact
returns-in_err-next-clause-exact c =
    let p = err_from_is_err_and c.from_residual.result c.from_residual.ensures.1 in
    let v = c.value-item.result in
    let is = next_index-is c.args.table c.args.before (c.args.before + c.len.result) c.args.columns.now c.loop-value.names c.loop-value.indexes c.loop-value.taken (view v)
    (omega (arith, c.len.ensures)) c.loop-value.invariant.names c.loop-value.invariant.taken in
    rw (p.1, p.2) (ends (next_index c.args.table c.args.columns.now c.args.before) (plain_indexes c.loop-value.indexes) c.args.items.now c.loop-value.value-index v c.in_err-next.field-0.0 _
    c.loop-value-test.true c.value-item.is (λ no_memory. is ∙ c.in_err-next.ensures.exact no_memory) c.loop-value.invariant.read)

pub loop-value-preserved : goal.loop-value-preserved
loop-value-preserved c =
    let x = c.in_ok-next.next in
    let v = c.value-item.result in
    let before = c.loop-value.indexes in
    let is = next_index-is c.args.table c.args.before (c.args.before + c.len.result) c.args.columns.now c.loop-value.names before c.loop-value.taken (view v)
    (omega (arith, c.len.ensures)) c.loop-value.invariant.names c.loop-value.invariant.taken in
    let e : plain_indexes c.put.new.indexes ≡ plain_indexes before ++ plain_index x ∷ [] = rw c.in_ok-put.ensures (map_push plain_index before x) in
    record {
      read = rw e (goes_on (next_index c.args.table c.args.columns.now c.args.before) (plain_indexes before) c.args.items.now c.loop-value.value-index v (plain_index x) _
          c.loop-value-test.true c.value-item.is (is ∙ c.in_ok-next.ensures.exact) c.loop-value.invariant.read);
      names = rw (e, c.in_ok-next.ensures.joins, c.loop-value.invariant.names) (sym (map_push (λ (y : PlainIndex). folded y.name) (plain_indexes before) (plain_index x)));
      taken = rw (e, clustered-push (plain_indexes before) (plain_index x), c.loop-value.invariant.taken) refl;
      room = omega (arith, simp length-append at (ap length c.in_ok-put.ensures), c.in_ok-next.ensures.room, c.len.ensures);
      own = rw c.in_ok-put.ensures (All-push (λ (y : Index). y.shape.table + 1 ≡ c.args.table) before x c.loop-value.invariant.own c.in_ok-next.ensures.own);
      known = rw c.in_ok-put.ensures (All-push (λ (y : Index). All (λ k. k < length c.args.columns.now) y.shape.keys) before x c.loop-value.invariant.known c.in_ok-next.ensures.known);
    }

pub returns-clause-exact : goal.returns-clause-exact
returns-clause-exact c = is_done (next_index c.args.table c.args.columns.now c.args.before) (plain_indexes c.loop-value.indexes) c.args.items.now c.loop-value.value-index _ c.loop-value-test.false c.loop-value.invariant.read
