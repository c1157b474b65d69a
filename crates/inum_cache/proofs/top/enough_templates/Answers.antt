use Rattle.std.proofs.Common.{◌≡◌, ◌-◌, ℕ, List, [], length, All, sym, ap, ◌∙◌, subst}
use Rattle.std.specs.Prelude.{AllPairs}
use Rattle.adv_base.specs.Items.{Order}
use Rattle.adv_base.specs.OfferTables.{OfferLimits}
use Rattle.adv_base.specs.Sets.{all_slots}
use Rattle.plan_model.specs.declared.template.Template.{Template}
use Rattle.plan_model.specs.Costs.{rows_in}
use Rattle.planner.specs.declared.ways.Ways.{Ways}
use Rattle.planner.specs.Rows.{sets_of}
use Rattle.planner.proofs.Finding.{full_is}
use Rattle.inum_cache.specs.Numbering.{order_in}
use Rattle.inum_cache.specs.inner.Cells.{IsSmall, Precedes, RaiseGives, Takes}
use Rattle.inum_cache.specs.inner.Passes.{cell_in, row_in, AreRowsOf}
use Rattle.inum_cache.specs.inner.Tops.{OrderedGives, UnorderedGives, TopGives}
use Rattle.inum_cache.proofs.Enough.{enough, fits}
use Rattle.inum_cache.proofs.Passing.{cell-small, every-limits}
use Rattle.inum_cache.proofs.Taking.{takes-both, takes-moved, takes-thinned}
use Rattle.inum_cache.proofs.top.enough_templates.Goals as goal

small : (ways : Ways) (orders : List (List Order)) (rows : List (List (List Template))) (row : List (List Template)) (full f : ℕ) → ((slot place : ℕ) → OfferLimits slot (order_in orders slot place, 0)) → full ≡ length ways.task.now.rows - 1 → AreRowsOf ways orders rows (sets_of ways) → row ≡ row_in rows full → All IsSmall (cell_in row f)
small ways orders rows row full f own last done is =
    subst (λ (r : List (List Template)). All IsSmall (cell_in r f)) (sym is) (cell-small ways orders full f (cell_in (row_in rows full) f) (every-limits orders own) ((done.each full (full_is ways.task.now full last).1).plans f))

pub add_ordered-requires-clause-small : goal.add_ordered-requires-clause-small
add_ordered-requires-clause-small c =
    let pass = c.args.pass.now in
    let rows = c.in_ok-rows.rows in
    let full : ℕ = c.len-full.result - 1 in
    small pass.ways pass.choices.now.orders rows c.row_at-row.result.now full 1 pass.choices.now.own (ap (λ n. n - 1) c.len-full.ensures) c.in_ok-rows.ensures.done (c.row_at-row.ensures ∙ ap (λ (xs : List (List (List Template))). row_in xs full) c.as_slice.ensures)

pub raise_each-requires-clause-small : goal.raise_each-requires-clause-small
raise_each-requires-clause-small c =
    let pass = c.args.pass.now in
    let rows = c.in_ok-rows.rows in
    let full : ℕ = c.len-full.result - 1 in
    subst (All IsSmall) (sym c.cell_at-unordered.ensures) (small pass.ways pass.choices.now.orders rows c.row_at-row.result.now full 0 pass.choices.now.own (ap (λ n. n - 1) c.len-full.ensures) c.in_ok-rows.ensures.done (c.row_at-row.ensures ∙ ap (λ (xs : List (List (List Template))). row_in xs full) c.as_slice.ensures))

pub kept-requires : goal.kept-requires
kept-requires c =
    subst (AllPairs Precedes) (sym c.as_slice-2.ensures.value) c.put_in_order.ensures.ordered

pub returns : goal.returns
returns c =
    let pass = c.args.pass.now in
    let task = pass.ways.task.now in
    let orders = pass.choices.now.orders in
    let rows = c.in_ok-rows.rows in
    let full : ℕ = c.len-full.result - 1 in
    let last = full_is task full (ap (λ n. n - 1) c.len-full.ensures) in
    let row : c.row_at-row.result.now ≡ row_in rows (all_slots task.slots) = c.row_at-row.ensures ∙ ap (λ (xs : List (List (List Template))). row_in xs full) c.as_slice.ensures ∙ ap (row_in rows) last.0 in
    let count : c.rows_of-all.result ≡ rows_in task (all_slots task.slots) = c.rows_of-all.ensures.exact ∙ ap (rows_in task) last.0 in
    let plain = subst (λ (x : List Template). Takes orders (RaiseGives x c.unordered_price-price.result) c.new-templates.result.items c.raise_each.new.cell.items) c.cell_at-unordered.ensures c.in_ok-raise_each.ensures in
    let first = subst (λ (p : ℕ). Takes orders (RaiseGives (cell_in c.row_at-row.result.now 0) p) c.new-templates.result.items c.raise_each.new.cell.items) c.unordered_price-price.ensures.exact plain in
    let made = takes-both orders (UnorderedGives task c.row_at-row.result.now c.rows_of-all.result) (OrderedGives task c.row_at-row.result.now c.rows_of-all.result) c.new-templates.result.items c.raise_each.new.cell.items c.add_ordered.new.templates.items first c.in_ok-add_ordered.ensures in
    let a = subst (λ (xs : List Template). Takes orders (TopGives task c.row_at-row.result.now c.rows_of-all.result) xs c.add_ordered.new.templates.items) c.new-templates.ensures.items made in
    let b = subst (λ (r : List (List Template)). Takes orders (TopGives task r c.rows_of-all.result) [] c.add_ordered.new.templates.items) row a in
    let all = subst (λ n. Takes orders (TopGives task (row_in rows (all_slots task.slots)) n) [] c.add_ordered.new.templates.items) count b in
    let thin = c.in_ok-least.ensures in
    let moved = takes-moved orders (TopGives task (row_in rows (all_slots task.slots)) (rows_in task (all_slots task.slots))) c.add_ordered.new.templates.items c.put_in_order.new.templates.items c.put_in_order.ensures.moved all in
    let given = subst (λ (xs : List Template). Takes orders (TopGives task (row_in rows (all_slots task.slots)) (rows_in task (all_slots task.slots))) [] xs) (sym c.as_slice-2.ensures.value) moved in
    let takes = takes-thinned orders (TopGives task (row_in rows (all_slots task.slots)) (rows_in task (all_slots task.slots))) c.as_slice-2.result.now c.in_ok-least.least given thin.takes in
    record {
      enough = enough c.args.alloc pass.ways orders c.requires pass.choices.now.own pass.choices.now.first rows c.in_ok-rows.ensures.done c.in_ok-least.least takes;
      thin = thin.thin;
      fit = fits c.args.alloc pass.ways orders c.requires pass.choices.now.own pass.choices.now.first rows c.in_ok-rows.ensures.done c.in_ok-least.least takes;
    }
