use Rattle.std.proofs.Common.{◌≡◌, ℕ, ◌+◌, length, sym, subst, ◌∙◌, arith}
use Rattle.planner.specs.Cells.{cost_at, row_of}
use Rattle.planner.specs.Choices.{IsHashed, IsMerged}
use Rattle.planner.specs.inner.Steps.{IsStep}
use Rattle.planner.specs.Rows.{width, IsCapped}
use Rattle.planner.proofs.Steps.{hash_step, hash_bound}
use Rattle.planner.proofs.Tabling.{left_less, right_less, hash_small, merge_small, merges_mean, cut_step, cut_bound}
use Rattle.planner.proofs.row.join_cut.Goals as goal

pub row_in-right-requires-clause-set_in : goal.row_in-right-requires-clause-set_in
row_in-right-requires-clause-set_in c =
    omega (arith, right_less c.args.ways.now c.args.set c.args.k c.args.cut.now c.requires.set_in c.requires.number c.requires.cut_is, c.requires.set_in)

pub overflow_add-cost-2 : goal.overflow_add-cost-2
overflow_add-cost-2 c =
    let left = (subst IsCapped (sym c.row_in-left.ensures.row) (c.requires.done c.args.cut.now.left (left_less c.args.ways.now c.args.set c.args.k c.args.cut.now c.requires.set_in c.requires.number c.requires.cut_is))).cost 0 in
    let right = (subst IsCapped (sym c.row_in-right.ensures.row) (c.requires.done c.args.cut.now.right (right_less c.args.ways.now c.args.set c.args.k c.args.cut.now c.requires.set_in c.requires.number c.requires.cut_is))).cost 0 in
    let small = hash_small c.args.ways.now c.args.set c.args.k c.args.cut.now c.requires.set_in c.requires.number c.requires.cut_is in
    omega (arith, left, right, small, c.cost_of.ensures, c.cost_of-2.ensures)

pub merge_rows-requires-clause-left_capped : goal.merge_rows-requires-clause-left_capped
merge_rows-requires-clause-left_capped c =
    subst IsCapped (sym c.row_in-left.ensures.row) (c.requires.done c.args.cut.now.left (left_less c.args.ways.now c.args.set c.args.k c.args.cut.now c.requires.set_in c.requires.number c.requires.cut_is))

pub merge_rows-requires-clause-right_capped : goal.merge_rows-requires-clause-right_capped
merge_rows-requires-clause-right_capped c =
    subst IsCapped (sym c.row_in-right.ensures.row) (c.requires.done c.args.cut.now.right (right_less c.args.ways.now c.args.set c.args.k c.args.cut.now c.requires.set_in c.requires.number c.requires.cut_is))

pub merge_rows-requires-clause-price_most : goal.merge_rows-requires-clause-price_most
merge_rows-requires-clause-price_most c =
    merge_small c.args.ways.now c.args.set c.args.k c.args.cut.now c.requires.set_in c.requires.number c.requires.cut_is

pub merge_rows-requires-clause-needs_in : goal.merge_rows-requires-clause-needs_in
merge_rows-requires-clause-needs_in c =
    λ j h.
    let m = merges_mean c.args.ways.now c.args.set c.args.k c.args.cut.now c.requires.set_in c.requires.number c.requires.cut_is c.merges_at.result.now c.merges_at.ensures j h in
    omega (arith, m.0, c.requires.row_each, c.hash_row.auto.row)

pub merge_rows-requires-clause-fronts_in : goal.merge_rows-requires-clause-fronts_in
merge_rows-requires-clause-fronts_in c =
    λ j h.
    let m = merges_mean c.args.ways.now c.args.set c.args.k c.args.cut.now c.requires.set_in c.requires.number c.requires.cut_is c.merges_at.result.now c.merges_at.ensures j h in
    omega (arith, m.1, c.requires.row_each, c.hash_row.auto.row)

pub returns-clause-step : goal.returns-clause-step
returns-clause-step c =
    let ways = c.args.ways.now in
    let cut = c.args.cut.now in
    let heads = c.as_slice-heads.result.now in
    let left = c.row_in-left.result.now in
    let right = c.row_in-right.result.now in
    let old = c.args.row.now in
    let mid = c.hash_row.new.row in
    let cost : ℕ = c.cost_of.result + c.cost_of-2.result + cut.hash_price in
    let cost_is : cost ≡ cost_at left 0 + cost_at right 0 + cut.hash_price = omega (arith, c.cost_of.ensures, c.cost_of-2.ensures) in
    let hash = hash_step heads left right old mid cut.hash_price cost cost_is c.hash_row.auto.row c.hash_row.ensures in
    let hash' = subst (λ n. IsStep n (IsHashed heads left right cut.hash_price) old mid) c.requires.row_each hash in
    let count : length mid ≡ width ways = c.hash_row.auto.row ∙ c.requires.row_each in
    let merge = subst (λ n. IsStep n (IsMerged heads left right cut.merge_price c.merges_at.result.now) mid c.merge_rows.new.row) count c.merge_rows.ensures.step in
    cut_step ways (row_of (width ways) c.args.cells.now) cut left right old mid c.merge_rows.new.row c.merges_at.result.now heads c.as_slice-heads.ensures.value c.row_in-left.ensures.row c.row_in-right.ensures.row c.merges_at.ensures hash' merge

pub returns-clause-bounds : goal.returns-clause-bounds
returns-clause-bounds c =
    λ f within.
    let ways = c.args.ways.now in
    let cut = c.args.cut.now in
    let heads = c.as_slice-heads.result.now in
    let left = c.row_in-left.result.now in
    let right = c.row_in-right.result.now in
    let old = c.args.row.now in
    let mid = c.hash_row.new.row in
    let new = c.merge_rows.new.row in
    let cost : ℕ = c.cost_of.result + c.cost_of-2.result + cut.hash_price in
    let cost_is : cost ≡ cost_at left 0 + cost_at right 0 + cut.hash_price = omega (arith, c.cost_of.ensures, c.cost_of-2.ensures) in
    let hash = hash_bound heads left right old mid cut.hash_price cost cost_is c.hash_row.auto.row c.hash_row.ensures f (omega (arith, c.requires.row_each)) in
    cut_bound ways (row_of (width ways) c.args.cells.now) cut left right c.merges_at.result.now heads f (cost_at mid f) (cost_at new f) c.as_slice-heads.ensures.value c.row_in-left.ensures.row c.row_in-right.ensures.row c.merges_at.ensures (c.merge_rows.ensures.step.lower f) hash (c.merge_rows.ensures.bounds f (omega (arith, c.requires.row_each, c.hash_row.auto.row)))
