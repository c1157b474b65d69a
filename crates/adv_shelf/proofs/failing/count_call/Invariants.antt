use Rattle.std.proofs.Common.{◌≡◌, ◌++◌, ◌-◌, map, take, drop}
use Rattle.adv_shelf.proofs.failing.count_call.Given as goal

abbrev pub invariant-loop-calls : goal.invariant-loop-calls
invariant-loop-calls l =
    l.failing ≡ map (λ calls. calls - 1) (take l.calls-index l.initial.failing) ++ drop l.calls-index l.initial.failing
