use Rattle.std.proofs.Common.{◌<◌, length, ap, ◌∙◌, subst, arith}
use Rattle.std.proofs.lemmas.List.{get_or_default}
use Rattle.planner.specs.declared.cuts.Merge.{Merge}
use Rattle.planner.specs.Cuts.{merge_at, no_merge}
use Rattle.planner.specs.Rows.{merges_in}
use Rattle.inum_cache.specs.inner.Cells.{Takes}
use Rattle.inum_cache.specs.inner.Passes.{row_in, MergeGives}
use Rattle.inum_cache.proofs.Taking.{takes-all, takes-more, takes-start}
use Rattle.inum_cache.proofs.pass.Pass.join_merges.Goals as goal

pub loop-merge-init : goal.loop-merge-init
loop-merge-init c =
    let self = c.args.self.now in
    takes-start self.choices.now.orders (λ j. MergeGives self.ways (row_in c.args.rows.now) c.args.front c.args.cut.now (merge_at (merges_in self.ways c.args.cut.now) j)) c.args.cell.now.items

pub loop-merge-preserved : goal.loop-merge-preserved
loop-merge-preserved c =
    let self = c.args.self.now in
    let orders = self.choices.now.orders in
    let merges = c.merges_at-merges.result.now in
    let j = c.loop-merge.merge-index in
    let within : j < length merges = omega (arith, c.loop-merge-test.true, c.loop-merge.auto.merge-index-end) in
    let is = get_or_default merges j _ no_merge within ∙ ap (λ ms. merge_at ms j) c.merges_at-merges.ensures in
    takes-more orders (λ k. MergeGives self.ways (row_in c.args.rows.now) c.args.front c.args.cut.now (merge_at (merges_in self.ways c.args.cut.now) k)) j c.args.cell.now.items c.loop-merge.cell.items c.join_merge.new.cell.items c.loop-merge.invariant
    (subst (λ (m : Merge). Takes orders (MergeGives self.ways (row_in c.args.rows.now) c.args.front c.args.cut.now m) c.loop-merge.cell.items c.join_merge.new.cell.items) is c.in_ok-join_merge.ensures)

pub returns : goal.returns
returns c =
    let self = c.args.self.now in
    takes-all self.choices.now.orders (λ k. MergeGives self.ways (row_in c.args.rows.now) c.args.front c.args.cut.now (merge_at (merges_in self.ways c.args.cut.now) k)) c.loop-merge.merge-index (length (merges_in self.ways c.args.cut.now)) c.args.cell.now.items c.loop-merge.cell.items
    (omega (arith, c.loop-merge-test.false, c.loop-merge.auto.merge-index-end, ap length c.merges_at-merges.ensures)) c.loop-merge.invariant
