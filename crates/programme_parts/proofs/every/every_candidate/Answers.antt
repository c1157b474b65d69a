use Rattle.std.proofs.Common.{◌≢◌, ◌<◌, length, arith, rules, below_more, get_or-set_other, get_or-set_same}
use Rattle.programme_parts.proofs.every.every_candidate.Goals as goal

pub loop-a-preserved : goal.loop-a-preserved
loop-a-preserved c =
    record {
      sized = search (rules, c.loop-a.invariant.sized);
      on =
          below_more _ _ (λ k h. let other : k ≢ c.loop-a.a = omega arith in rw get_or-set_other (c.loop-a.invariant.on k h))
          (let within : c.loop-a.a < length c.loop-a.on = omega (arith, c.loop-a.invariant.sized, c.requires, c.loop-a-test.true) in rw get_or-set_same);
    }
