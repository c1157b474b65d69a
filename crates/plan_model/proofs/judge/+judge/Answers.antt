use Rattle.std.proofs.Common.{true, false}
use Rattle.plan_model.proofs.CostBound.{judged-limits}
use Rattle.plan_model.proofs.judge.+judge.Goals as goal

pub judge_sort-requires : goal.judge_sort-requires
judge_sort-requires g t c =
    let exact = c.in_ok-input-in-Sort.ensures.exact in
    rw exact.1 (judged-limits false c.args.task.now _ c.deref.result.now c.requires exact.0)

pub judge_merge-requires-clause-left : goal.judge_merge-requires-clause-left
judge_merge-requires-clause-left g t c =
    let exact = c.in_ok-left_side-in-Merge.ensures.exact in
    rw exact.1 (judged-limits true c.args.task.now _ c.deref-in-Merge.result.now c.requires exact.0)

pub judge_merge-requires-clause-right : goal.judge_merge-requires-clause-right
judge_merge-requires-clause-right g t c =
    let exact = c.in_ok-right_side-in-Merge.ensures.exact in
    rw exact.1 (judged-limits true c.args.task.now _ c.deref-in-Merge-2.result.now c.requires exact.0)

pub judge_hash-requires-clause-left : goal.judge_hash-requires-clause-left
judge_hash-requires-clause-left g t c =
    let exact = c.in_ok-left_side-in-Hash.ensures.exact in
    rw exact.1 (judged-limits false c.args.task.now _ c.deref-in-Hash.result.now c.requires exact.0)

pub judge_hash-requires-clause-right : goal.judge_hash-requires-clause-right
judge_hash-requires-clause-right g t c =
    let exact = c.in_ok-right_side-in-Hash.ensures.exact in
    rw exact.1 (judged-limits false c.args.task.now _ c.deref-in-Hash-2.result.now c.requires exact.0)
