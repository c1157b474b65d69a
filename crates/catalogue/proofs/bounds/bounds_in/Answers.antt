use Rattle.std.proofs.Common.{◌≡◌, ◌∷◌, ◌++◌, [], rules, arith, ap, ◌∙◌, FitsSigned, w64}
use Rattle.std.proofs.lemmas.Int.{to_z-of_z}
use Rattle.std.proofs.lemmas.Result.{err_from_is_err_and}
use Rattle.std.proofs.lemmas.List.Elements.{All-push}
use Rattle.adv_base.specs.Limits.Numbers.{EndLimits}
use Rattle.catalogue.specs.Catalogue.{next_bound}
use Rattle.catalogue.proofs.BoundLists.{rising-push, BoundsLimits-from}
use Rattle.catalogue.proofs.Loops.{goes_on, ends, is_done}
use Rattle.catalogue.proofs.bounds.bounds_in.Goals as goal

pub returns-in_err-end-clause-exact : goal.returns-in_err-end-clause-exact
returns-in_err-end-clause-exact c =
    let p = err_from_is_err_and c.from_residual.result c.from_residual.ensures.1 in
    rw (p.1, p.2) (ends (next_bound c.args.table c.args.column c.args.kind) c.loop-value.ends.items c.args.items.now c.loop-value.value-index c.value-item.result c.in_err-end.field-0.0 _
    c.loop-value-test.true c.value-item.is (rw (← c.as_slice.ensures.value) c.in_err-end.ensures.exact) c.loop-value.invariant.read)

pub loop-value-preserved : goal.loop-value-preserved
loop-value-preserved c =
    let z = c.in_ok-end.end in
    let before = c.loop-value.ends.items in
    let fits : FitsSigned w64 z = search rules in
    let e : c.push.new.self.items ≡ before ++ z ∷ [] = c.in_ok-push.ensures.items ∙ ap (λ y. before ++ y ∷ []) (to_z-of_z w64 z fits) in
    record {
      read = rw e (goes_on (next_bound c.args.table c.args.column c.args.kind) before c.args.items.now c.loop-value.value-index c.value-item.result z _
          c.loop-value-test.true c.value-item.is (rw (← c.as_slice.ensures.value) c.in_ok-end.ensures.exact) c.loop-value.invariant.read);
      within = rw e (All-push EndLimits before z c.loop-value.invariant.within c.in_ok-end.ensures.within);
      rising = rw e (rising-push before z c.loop-value.invariant.rising (rw (← c.as_slice.ensures.value) c.in_ok-end.ensures.rising));
      count = omega (arith, c.in_ok-push.ensures.len, c.loop-value.invariant.count);
    }

pub returns-clause-exact : goal.returns-clause-exact
returns-clause-exact c = is_done (next_bound c.args.table c.args.column c.args.kind) c.loop-value.ends.items c.args.items.now c.loop-value.value-index _ c.loop-value-test.false c.loop-value.invariant.read

pub returns-clause-limits : goal.returns-clause-limits
returns-clause-limits c = BoundsLimits-from c.loop-value.ends.items (omega arith) (omega arith) c.loop-value.invariant.rising c.loop-value.invariant.within
