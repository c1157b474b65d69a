use Rattle.std.proofs.Common.{◌≡◌, ◌*◌, ◌≤◌, take}
use Rattle.std.specs.Prelude.{sum_by}
use Rattle.adv_base.specs.declared.limits.TheConstants.{MOST_CANDIDATES, MOST_SLOTS}
use Rattle.bip_model.specs.Values.{part_grants}
use Rattle.bip_model.proofs.multipliers.grant_count.Given as goal

abbrev pub invariant-loop-part : goal.invariant-loop-part
invariant-loop-part l =
    record {
      sum : l.count ≡ sum_by part_grants (take l.part-index l.programme.parts);
      most : l.count ≤ l.part-index * (MOST_SLOTS * MOST_CANDIDATES);
    }
