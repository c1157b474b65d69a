use Rattle.std.proofs.Common.{◌≡◌, take}
use Rattle.std.specs.List.{flat_map}
use Rattle.std.specs.Prelude.{sum_by}
use Rattle.bip_model.specs.Values.{part_grants}
use Rattle.lagrange_bound.specs.Rents.{part_list}
use Rattle.lagrange_bound.proofs.sharing.write_rents.Given as goal

abbrev pub invariant-loop-part : goal.invariant-loop-part
invariant-loop-part l =
    record {
      place : l.at ≡ sum_by part_grants (take l.part-index l.parts);
      front : take l.at l.rents ≡ flat_map (part_list l.programme l.mu) (take l.part-index l.parts);
    }
