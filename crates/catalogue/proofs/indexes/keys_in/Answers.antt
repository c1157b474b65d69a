use Rattle.std.proofs.Common.{◌≡◌, ◌<◌, ◌∷◌, ◌++◌, [], length, arith}
use Rattle.std.proofs.lemmas.Result.{err_from_is_err_and}
use Rattle.std.proofs.lemmas.List.Elements.{All-push}
use Rattle.catalogue.specs.Catalogue.{next_key}
use Rattle.catalogue.proofs.KeyLists.{apart-push, KeyLimits-from}
use Rattle.catalogue.proofs.Loops.{goes_on, ends, is_done}
use Rattle.catalogue.proofs.indexes.keys_in.Goals as goal

pub returns-in_err-key-clause-exact : goal.returns-in_err-key-clause-exact
returns-in_err-key-clause-exact c =
    let p = err_from_is_err_and c.from_residual.result c.from_residual.ensures.1 in
    rw (p.1, p.2) (ends (next_key c.args.table c.args.index c.args.columns.now) c.loop-value.keys.items c.args.items.now c.loop-value.value-index c.value-item.result c.in_err-key.field-0.0 _
    c.loop-value-test.true c.value-item.is (rw (← c.as_slice.ensures.value) c.in_err-key.ensures.exact) c.loop-value.invariant.read)

pub loop-value-preserved : goal.loop-value-preserved
loop-value-preserved c =
    let k = c.in_ok-key.key in
    let before = c.loop-value.keys.items in
    let e : c.push.new.self.items ≡ before ++ k ∷ [] = c.in_ok-push.ensures.items in
    record {
      read = rw e (goes_on (next_key c.args.table c.args.index c.args.columns.now) before c.args.items.now c.loop-value.value-index c.value-item.result k _
          c.loop-value-test.true c.value-item.is (rw (← c.as_slice.ensures.value) c.in_ok-key.ensures.exact) c.loop-value.invariant.read);
      known = rw e (All-push (λ n. n < length c.args.columns.now) before k c.loop-value.invariant.known c.in_ok-key.ensures.known);
      apart = rw e (apart-push before k c.loop-value.invariant.apart (rw (← c.as_slice.ensures.value) c.in_ok-key.ensures.apart));
      count = omega (arith, c.in_ok-push.ensures.len, c.loop-value.invariant.count);
    }

pub returns-clause-exact : goal.returns-clause-exact
returns-clause-exact c = is_done (next_key c.args.table c.args.index c.args.columns.now) c.loop-value.keys.items c.args.items.now c.loop-value.value-index _ c.loop-value-test.false c.loop-value.invariant.read

pub returns-clause-limits : goal.returns-clause-limits
returns-clause-limits c = KeyLimits-from c.loop-value.keys.items (omega arith) (omega arith) c.loop-value.invariant.apart
