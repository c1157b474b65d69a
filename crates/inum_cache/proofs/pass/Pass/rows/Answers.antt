use Rattle.std.proofs.Common.{◌≡◌, ◌+◌, List, length, ◌∙◌, ap, sym, subst, arith}
use Rattle.std.proofs.lemmas.List.{length_push}
use Rattle.plan_model.specs.declared.template.Template.{Template}
use Rattle.planner.specs.Rows.{sets_of}
use Rattle.inum_cache.specs.inner.Passes.{row_in, AreRowsOf, IsRowOf}
use Rattle.inum_cache.proofs.Rowing.{rows-push}
use Rattle.inum_cache.proofs.pass.Pass.rows.Goals as goal

pub loop-set-init : goal.loop-set-init
loop-set-init c =
    record { count = ap length c.new-rows.ensures.items; done = record { each = λ s below. absurd (omega (arith, below)) } }

pub row_of-requires : goal.row_of-requires
row_of-requires c =
    let self = c.args.self.now in
    let is = c.as_slice.ensures.value in
    record {
      set_in = omega (arith, c.loop-set-test.true, c.loop-set.auto.set-end, c.len-set-end.ensures);
      count = ap length is ∙ c.loop-set.invariant.count;
      done = subst (λ (rows : List (List (List Template))). AreRowsOf self.ways self.choices.now.orders rows c.loop-set.set) (sym is) c.loop-set.invariant.done;
    }

pub loop-set-preserved : goal.loop-set-preserved
loop-set-preserved c =
    let self = c.args.self.now in
    let orders = self.choices.now.orders in
    let set = c.loop-set.set in
    let rows = c.loop-set.rows.items in
    let row = c.in_ok-row.row in
    let here = subst (λ (xs : List (List (List Template))). IsRowOf self.ways orders (row_in xs) set row) c.as_slice.ensures.value c.in_ok-row.ensures in
    record {
      count = ap length c.in_ok-push.ensures.items ∙ length_push rows row ∙ ap (λ n. n + 1) c.loop-set.invariant.count;
      done = subst (λ (xs : List (List (List Template))). AreRowsOf self.ways orders xs (set + 1)) (sym c.in_ok-push.ensures.items) (rows-push self.ways orders rows row set c.loop-set.invariant.count c.loop-set.invariant.done here);
    }

pub returns : goal.returns
returns c =
    let self = c.args.self.now in
    let all = c.loop-set.invariant.count in
    let same : c.loop-set.set ≡ sets_of self.ways = omega (arith, c.loop-set-test.false, c.loop-set.auto.set-end, c.len-set-end.ensures) in
    record {
      count = all ∙ same;
      done = subst (AreRowsOf self.ways self.choices.now.orders c.loop-set.rows.items) same c.loop-set.invariant.done;
    }
