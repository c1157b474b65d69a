use Rattle.std.proofs.Common.{arith}
use Rattle.bip_model.specs.Views.{node_of}
use Rattle.gap_checker.specs.inner.Sums as sums
use Rattle.gap_checker.proofs.Valuing.{inside-step}
use Rattle.gap_checker.proofs.lagrangian.costs_inside.Goals as goal

pub loop-a-preserved : goal.loop-a-preserved
loop-a-preserved c =
    record {
      sum_is = inside-step c.args.judge.now (sums.the_multipliers c.args.set.now.rents) (node_of c.args.at.now) c.loop-a.a c.loop-a.sum c.cost_inside-sum.result c.loop-a-test.true c.loop-a.invariant.sum_is c.cost_inside-sum.ensures.exact;
      most = omega (arith, c.loop-a.invariant.most, c.cost_inside-sum.ensures.most);
    }
