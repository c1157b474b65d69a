use Rattle.std.proofs.Common.{◌≡◌, ◌≤◌, map, take}
use Rattle.std.specs.Prelude.{filter, fold}
use Rattle.adv_base.specs.Parts.{edge_part}
use Rattle.adv_base.specs.Rows.{ties_back}
use Rattle.adv_base.specs.Sums.{times_part}
use Rattle.adv_base.specs.declared.limits.TheConstants.{MOST_ROWS}
use Rattle.cardinality.proofs.ties.Ties.through.Given as goal

abbrev pub invariant-loop-i : goal.invariant-loop-i
invariant-loop-i l = record {
  left : l.left ≡ fold times_part l.rows (map (edge_part l.self.cat.now l.self.block.now) (filter (ties_back l.set l.slot) (take l.i l.self.block.now.edges)));
  least : 1 ≤ l.left;
  most : l.left ≤ MOST_ROWS;
}
