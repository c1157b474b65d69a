use Rattle.std.proofs.Common.{◌≡◌, ◌==◌, ◌≤◌, take, map}
use Rattle.std.specs.Prelude.{filter, fold}
use Rattle.std.specs.Option.{option_map_or}
use Rattle.adv_base.specs.Lookups.{slot_table}
use Rattle.adv_base.specs.Parts.{pred_part}
use Rattle.adv_base.specs.Rows.{table_rows}
use Rattle.adv_base.specs.Sums.{times_part}
use Rattle.adv_base.specs.declared.limits.TheConstants.{MOST_ROWS}
use Rattle.cardinality.proofs.rows.slot_rows.Given as goal

abbrev pub invariant-loop-pred : goal.invariant-loop-pred
invariant-loop-pred l = record {
  rows : l.rows ≡ fold times_part (option_map_or table_rows (slot_table l.cat l.block l.slot) 1)
      (map (pred_part l.cat l.block) (filter (λ pred. pred.slot == l.slot) (take l.pred-index l.block.preds)));
  least : 1 ≤ l.rows;
  most : l.rows ≤ MOST_ROWS;
}
