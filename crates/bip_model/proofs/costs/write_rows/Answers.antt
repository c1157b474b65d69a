use Rattle.std.proofs.Common.{◌≤◌, length, arith, rules}
use Rattle.bip_model.proofs.Pricing.{get-some, rows-step}
use Rattle.bip_model.proofs.costs.write_rows.Goals as goal

pub loop-s-preserved : goal.loop-s-preserved
loop-s-preserved c =
    let few : length c.args.slots.now ≤ 8 = c.requires.few in
    record {
      are =
          rows-step c.args.config.now c.args.slots.now c.loop-s.rows c.loop-s.s c.index-slots-s.result _ (omega (arith, c.loop-s.invariant.count, few, c.loop-s-test.true))
          (get-some c.args.slots.now c.loop-s.s c.index-slots-s.result c.loop-s-test.true c.index-slots-s.is) c.loop-s.invariant.are c.write_row.ensures;
      count = search (rules, c.loop-s.invariant.count);
    }
