use Rattle.std.proofs.Common.{length, ◌^◌, refl}
use Rattle.adv_base.specs.declared.catalogue.Catalogue.{Catalogue}
use Rattle.adv_base.specs.declared.workload.block.Block.{Block}
use Rattle.plan_model.specs.Limits.Tasks.{RowLimits}
use Rattle.cardinality.specs.Tables.{HoldsRows}
use Rattle.access_paths.proofs.TaskLemmas.{task_limits, rows_listed}
use Rattle.access_paths.proofs.block_task.task.Goals as goal

pub invariant_of-result : goal.invariant_of-result
invariant_of-result c =
    let cat : Catalogue = c.args.cat.now in
    let block : Block = c.args.block.now in
    let holds : HoldsRows cat block (2 ^ length block.slots) c.in_ok-rows.rows.of = c.in_ok-rows.ensures in
    let are : RowLimits c.rows_of_groups-group_rows.result =
    record { some = c.rows_of_groups-group_rows.ensures.least; most = c.rows_of_groups-group_rows.ensures.most } in
    record {
      limits = rw (c.len.ensures, c.in_ok-edges.ensures, c.in_ok-group.ensures, c.in_ok-order.ensures)
          (task_limits cat block c.requires c.in_ok-rows.rows.of holds c.rows_of_groups-group_rows.result are);
    }

pub returns : goal.returns
returns c =
    let cat : Catalogue = c.args.cat.now in
    let block : Block = c.args.block.now in
    record {
      slots_are = c.len.ensures;
      edges_are = c.in_ok-edges.ensures;
      rows_are = rows_listed cat block (2 ^ length block.slots) c.in_ok-rows.rows.of c.in_ok-rows.ensures;
      group_is = c.in_ok-group.ensures;
      group_rows_are = c.rows_of_groups-group_rows.ensures.exact;
      order_is = c.in_ok-order.ensures;
      rates_are = refl;
    }
