use Rattle.std.proofs.Common.{◌≡◌, ℕ, ◌+◌, ◌<◌, length, None, slice_index_or, below_more, subst, arith}
use Rattle.std.proofs.lemmas.List.{get_or_default}
use Rattle.planner.specs.declared.cuts.Merge.{Merge}
use Rattle.planner.specs.Fronts.{longer_front}
use Rattle.planner.specs.Cells.{any_at, cell_at, cost_at}
use Rattle.planner.specs.inner.Steps.{merged}
use Rattle.planner.specs.Cuts.{merge_at, no_merge}
use Rattle.planner.specs.Choices.{IsMerged, MergeBound}
use Rattle.planner.proofs.Steps.{merge_step, merge_bound, merge_falls, step_then}
use Rattle.planner.proofs.join.merge_rows.Goals as goal

pub loop-merge-preserved : goal.loop-merge-preserved
loop-merge-preserved c =
    let heads = c.args.heads.now in
    let left = c.args.left.now in
    let right = c.args.right.now in
    let price = c.args.price in
    let merges = c.args.merges.now in
    let j = c.loop-merge.merge-index in
    let within : j < length merges = omega (arith, c.loop-merge-test.true, c.loop-merge.auto.merge-index-end) in
    let old = c.loop-merge.row in
    let new = c.merge_row.new.row in
    let base : ℕ = c.any_of.result + price in
    let is = get_or_default merges j _ no_merge within in
    let each = subst (λ (m : Merge). (f : ℕ) → f < length old → cell_at new f ≡ merged (cell_at old f) (longer_front (slice_index_or heads m.left_need None) (slice_index_or heads f None) m.left_need f) left base) is c.merge_row.ensures in
    let read = subst (λ (m : Merge). c.any_of.result ≡ any_at right m.right_front) is c.any_of.ensures in
    let base_is : base ≡ any_at right (merge_at merges j).right_front + price = omega (arith, read) in
    let same : length new ≡ length old = c.merge_row.auto.row in
    let count : length old ≡ length c.args.row.now = c.loop-merge.auto.row in
    let P : ℕ → Type 0 = λ i. (f : ℕ) → f < length c.args.row.now → MergeBound heads left right price (merge_at merges i) f (cost_at new f) in
    let step = merge_step heads left right old new price merges j within base base_is same each in
    record {
      step = step_then (length c.args.row.now) (IsMerged heads left right price merges) c.args.row.now old new c.loop-merge.invariant.step (subst (λ n. Rattle.planner.specs.inner.Steps.IsStep n (IsMerged heads left right price merges) old new) count step);
      bounds = below_more P j (λ i h f inside. merge_falls heads left right price (merge_at merges i) f (cost_at old f) (cost_at new f) (step.lower f) (c.loop-merge.invariant.bounds i h f inside)) (λ f inside. merge_bound heads left right old new price merges j within base base_is same each f (omega arith));
    }
