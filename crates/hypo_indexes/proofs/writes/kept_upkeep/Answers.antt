use Rattle.std.proofs.Common.{◌≡◌, ◌∙◌, ◌<◌, ◌≤◌, ◌+◌, ◌*◌, ℕ, List, length, get_or, take, subst, sym, ap, arith, rules}
use Rattle.std.specs.Prelude.{sum_by}
use Rattle.std.proofs.lemmas.List.Sums.{sum_by_more_le, sum_by-take-le}
use Rattle.adv_base.specs.declared.catalogue.table.Table.{Table}
use Rattle.adv_base.specs.Upkeep.{kept_upkeep}
use Rattle.hypo_indexes.specs.inner.Writes.{table_upkeep}
use Rattle.adv_base.specs.declared.limits.TheConstants.{MOST_INDEXES, MOST_UPKEEP}
use Rattle.adv_base.proofs.UpkeepBounds.{kept_upkeep-most}
use Rattle.hypo_indexes.proofs.writes.kept_upkeep.Goals as goal

pub overflow_add-sum : goal.overflow_add-sum
unfolding kept_upkeep
overflow_add-sum c =
    let read : Table → ℕ = table_upkeep c.args.cat.now c.args.statement.now.work in
    let kept : sum_by read c.args.cat.now.tables ≤ MOST_INDEXES * MOST_UPKEEP = kept_upkeep-most c.args.cat.now c.args.statement.now.weight c.args.statement.now.work c.args.statement.now.limits in
    let same : c.deref-table-items.result.now ≡ c.args.cat.now.tables = search rules in
    let within : c.loop-table.table-index < length c.args.cat.now.tables = subst (λ (tables : List Table). c.loop-table.table-index < length tables) same c.loop-table-test.true in
    let here : c.table-item.result ≡ get_or c.args.cat.now.tables c.loop-table.table-index c.table-item.result =
    c.table-item.is ∙ ap (λ (tables : List Table). get_or tables c.loop-table.table-index c.table-item.result) same in
    let step = sum_by_more_le read c.args.cat.now.tables c.loop-table.table-index c.table-item.result within in
    let next : sum_by read (take c.loop-table.table-index c.args.cat.now.tables) + read c.table-item.result ≤ sum_by read c.args.cat.now.tables =
    subst (λ (t : Table). sum_by read (take c.loop-table.table-index c.args.cat.now.tables) + read t ≤ sum_by read c.args.cat.now.tables) (sym here) step in
    record { fits = omega (arith, kept, next, c.loop-table.invariant, c.table_upkeep-sum.ensures) }

pub returns-clause-most : goal.returns-clause-most
unfolding kept_upkeep
returns-clause-most c =
    let read : Table → ℕ = table_upkeep c.args.cat.now c.args.statement.now.work in
    let kept : sum_by read c.args.cat.now.tables ≤ MOST_INDEXES * MOST_UPKEEP = kept_upkeep-most c.args.cat.now c.args.statement.now.weight c.args.statement.now.work c.args.statement.now.limits in
    omega (arith, kept, sum_by-take-le read c.args.cat.now.tables c.loop-table.table-index, c.loop-table.invariant)
