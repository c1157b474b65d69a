use Rattle.std.proofs.Common.{◌≡◌, ◌≤◌, map, take}
use Rattle.std.specs.Prelude.{fold}
use Rattle.std.specs.List.{flat_map}
use Rattle.adv_base.specs.Access.{point_keys}
use Rattle.adv_base.specs.Parts.{pred_part}
use Rattle.adv_base.specs.Predicates.{is_point, preds_on}
use Rattle.adv_base.specs.Sums.{times_part}
use Rattle.access_paths.proofs.matching.matched_part.Given as goal

abbrev pub invariant-loop-key : goal.invariant-loop-key
invariant-loop-key l = record {
  part : l.part ≡ fold times_part 1000000000
      (map (pred_part l.cat l.block) (flat_map (preds_on is_point l.block.preds l.slot) (take l.key-index (point_keys l.block l.slot l.keys))));
  least : 1 ≤ l.part;
  most : l.part ≤ 1000000000;
}
