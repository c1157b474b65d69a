use Rattle.std.proofs.Common.{◌≡◌, ◌≤◌, ◌*◌, take}
use Rattle.std.specs.Prelude.{sum_by}
use Rattle.adv_base.specs.Sizes.{column_width}
use Rattle.adv_base.specs.declared.limits.TheConstants.{MOST_WIDTH}
use Rattle.hypo_indexes.proofs.size.entry_bytes.Given as goal

abbrev pub invariant-loop-key : goal.invariant-loop-key
invariant-loop-key l = record {
  widths : l.bytes ≡ sum_by (column_width l.table) (take l.key-index l.keys);
  most : l.bytes ≤ MOST_WIDTH * l.key-index;
}
