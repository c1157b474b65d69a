use Rattle.std.proofs.Common.{◌≡◌, ◌≤◌, ◌*◌, take}
use Rattle.std.specs.Prelude.{sum_by}
use Rattle.adv_base.specs.Upkeep.{upkeep}
use Rattle.adv_base.specs.declared.limits.TheConstants.{MOST_UPKEEP}
use Rattle.hypo_indexes.proofs.writes.table_upkeep.Given as goal

abbrev pub invariant-loop-index : goal.invariant-loop-index
invariant-loop-index l = record {
  sums : l.sum ≡ sum_by (λ index. upkeep l.cat l.statement.work index.shape) (take l.index-index l.table.indexes);
  most : l.sum ≤ l.index-index * MOST_UPKEEP;
}
