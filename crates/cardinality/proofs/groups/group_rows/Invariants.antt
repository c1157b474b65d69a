use Rattle.std.proofs.Common.{◌≡◌, ◌≤◌, take}
use Rattle.adv_base.specs.Rows.{group_product}
use Rattle.adv_base.specs.Sums.{capped}
use Rattle.adv_base.specs.declared.limits.TheConstants.{MOST_ROWS}
use Rattle.cardinality.proofs.groups.group_rows.Given as goal

abbrev pub invariant-loop-item : goal.invariant-loop-item
invariant-loop-item l = record {
  product : l.groups ≡ capped (group_product l.cat l.block (take l.item-index l.items));
  least : 1 ≤ l.groups;
  most : l.groups ≤ MOST_ROWS;
}
