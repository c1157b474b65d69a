use Rattle.std.proofs.Common.{◌<◌, ◌-◌, length, get_or, arith}
use Rattle.std.proofs.lemmas.List.{get_or_default}
use Rattle.std.proofs.lemmas.List.Edits.{map_over_more}
use Rattle.adv_shelf.proofs.failing.count_call.Goals as goal

pub loop-calls-preserved : goal.loop-calls-preserved
loop-calls-preserved c =
    let here : c.loop-calls.calls-index < length c.loop-calls.failing = omega arith in
    let there : c.loop-calls.calls-index < length c.args.failing.now = omega arith in
    rw c.saturating_sub.ensures
    (map_over_more (λ calls. calls - 1) _ _ _ _ there c.loop-calls.invariant (get_or_default c.loop-calls.failing _ 0 (get_or c.loop-calls.failing c.loop-calls.calls-index 0) here))
