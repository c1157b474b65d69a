use Rattle.std.proofs.Common.{◌≡◌, ℕ, sym, subst, ◌∙◌}
use Rattle.planner.specs.Cells.{row_of}
use Rattle.planner.proofs.Tabling.{rows_skip, rows_put, table_put}
use Rattle.planner.proofs.fill.fill_set.Goals as goal

pub returns-then-not-is_covered-clause-done : goal.returns-then-not-is_covered-clause-done
returns-then-not-is_covered-clause-done g c =
    rows_skip c.args.ways.now (g.O.Offers.table c.args.offers.now) c.args.cells.now c.args.set c.requires.table c.requires.set_in (sym c.is_covered.ensures ∙ c.if-not-is_covered.true) c.requires.done

pub returns-clause-table : goal.returns-clause-table
returns-clause-table g c =
    let n = c.width_of.ensures in
    let here = subst (λ n. row_of n c.put_row.new.cells c.args.set ≡ c.plan_row.new.row) n c.put_row.ensures.here in
    let others = subst (λ n. (s : ℕ) → ¬ (s ≡ c.args.set) → row_of n c.put_row.new.cells s ≡ row_of n c.args.cells.now s) n c.put_row.ensures.others in
    table_put c.args.ways.now (g.O.Offers.table c.args.offers.now) c.args.cells.now c.put_row.new.cells c.plan_row.new.row c.args.set c.requires.set_in c.put_row.auto.cells here others (sym c.is_covered.ensures ∙ c.if-not-is_covered.false) c.requires.table

pub returns-clause-done : goal.returns-clause-done
returns-clause-done g c =
    let n = c.width_of.ensures in
    let here = subst (λ n. row_of n c.put_row.new.cells c.args.set ≡ c.plan_row.new.row) n c.put_row.ensures.here in
    let others = subst (λ n. (s : ℕ) → ¬ (s ≡ c.args.set) → row_of n c.put_row.new.cells s ≡ row_of n c.args.cells.now s) n c.put_row.ensures.others in
    rows_put c.args.ways.now (g.O.Offers.table c.args.offers.now) c.args.cells.now c.put_row.new.cells c.plan_row.new.row c.args.set c.requires.set_in c.put_row.auto.cells here others c.plan_row.ensures c.requires.done
