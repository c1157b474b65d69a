use Rattle.std.proofs.Common.{◌≡◌, ◌≤◌, map, take}
use Rattle.std.specs.Prelude.{fold}
use Rattle.adv_base.specs.Parts.{pred_part}
use Rattle.adv_base.specs.Predicates.{is_point, preds_on}
use Rattle.adv_base.specs.Sums.{times_part}
use Rattle.access_paths.proofs.matching.through_points.Given as goal

abbrev pub invariant-loop-pred : goal.invariant-loop-pred
invariant-loop-pred l = record {
  part : l.part ≡ fold times_part l.start (map (pred_part l.cat l.block) (preds_on is_point (take l.pred-index l.block.preds) l.slot l.column));
  least : 1 ≤ l.part;
  most : l.part ≤ 1000000000;
}
