use Rattle.std.proofs.Common.{◌≡◌, ◌+◌, ◌++◌, ◌∷◌, [], List, All, sym, ap, ◌∙◌, subst, arith}
use Rattle.plan_model.specs.declared.template.Template.{Template}
use Rattle.inum_cache.specs.inner.Cells.{Takes}
use Rattle.inum_cache.specs.inner.Passes.{cell_in, row_in, IsFor, IsGiven, IsRowOf}
use Rattle.inum_cache.proofs.Rowing.{AreCells, cells-push, first-cell, row-is, row-none}
use Rattle.inum_cache.proofs.pass.Pass.row_of.Goals as goal

pub returns-then-not-is_covered : goal.returns-then-not-is_covered
returns-then-not-is_covered c =
    let self = c.args.self.now in
    subst (IsRowOf self.ways self.choices.now.orders (row_in c.args.rows.now) c.args.set) (sym c.new-row.ensures.items) (row-none self.ways self.choices.now.orders (row_in c.args.rows.now) c.args.set c.requires.set_in (sym c.if-not-is_covered.ensures))

pub loop-front-init : goal.loop-front-init
loop-front-init c =
    let self = c.args.self.now in
    let orders = self.choices.now.orders in
    let rows = row_in c.args.rows.now in
    let row : c.push.new.self.items ≡ c.in_ok-first.first ∷ [] = c.in_ok-push.ensures.items ∙ ap (λ (xs : List (List Template)). xs ++ c.in_ok-first.first ∷ []) c.new-row.ensures.items in
    subst (λ (xs : List (List Template)). AreCells self.ways orders rows c.args.set xs 1) (sym row) (first-cell self.ways orders rows c.args.set c.in_ok-first.first c.in_ok-first.ensures.takes c.in_ok-first.ensures.plans)

pub cell_of-requires-in-loop-front : goal.cell_of-requires-in-loop-front
cell_of-requires-in-loop-front c =
    let self = c.args.self.now in
    let row = c.loop-front.row.items in
    let input : c.cell_at-input.result.now ≡ cell_in row 0 = c.cell_at-input.ensures ∙ ap (λ (r : List (List Template)). cell_in r 0) c.as_slice.ensures.value in
    let first = c.loop-front.auto.front in
    record {
      set_in = c.requires.set_in;
      front_in = omega (arith, c.loop-front-test.true, c.loop-front.auto.front-end, c.len-front-end.ensures, self.ways.fronts.ok.0);
      count = c.requires.count;
      done = c.requires.done;
      input = λ some. subst (All (IsFor self.ways self.choices.now.orders c.args.set 0)) (sym input) (c.loop-front.invariant.plans 0 (omega arith));
    }

pub loop-front-preserved : goal.loop-front-preserved
loop-front-preserved c =
    let self = c.args.self.now in
    let orders = self.choices.now.orders in
    let rows = row_in c.args.rows.now in
    let front = c.loop-front.front in
    let row = c.loop-front.row.items in
    let input : c.cell_at-input.result.now ≡ cell_in row 0 = c.cell_at-input.ensures ∙ ap (λ (r : List (List Template)). cell_in r 0) c.as_slice.ensures.value in
    let takes = subst (λ (x : List Template). Takes orders (IsGiven self.ways orders rows x c.args.set front) [] c.in_ok-cell.cell) input c.in_ok-cell.ensures.takes in
    subst (λ (xs : List (List Template)). AreCells self.ways orders rows c.args.set xs (front + 1)) (sym c.in_ok-push-2.ensures.items)
    (cells-push self.ways orders rows c.args.set row c.in_ok-cell.cell front (omega (arith, c.loop-front.auto.front)) c.loop-front.invariant takes c.in_ok-cell.ensures.plans)

pub returns : goal.returns
returns c =
    let self = c.args.self.now in
    let some = self.ways.known.needs.some in
    row-is self.ways self.choices.now.orders (row_in c.args.rows.now) c.args.set c.loop-front.row.items c.loop-front.front
    (omega (arith, c.loop-front-test.false, c.loop-front.auto.front-end, c.len-front-end.ensures, self.ways.fronts.ok.0, some)) (sym c.if-not-is_covered.ensures) c.loop-front.invariant
