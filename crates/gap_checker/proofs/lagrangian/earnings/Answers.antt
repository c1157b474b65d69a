use Rattle.std.proofs.Common.{arith}
use Rattle.bip_model.specs.Views.{node_of}
use Rattle.gap_checker.proofs.Valuing.{earning-step}
use Rattle.gap_checker.proofs.lagrangian.earnings.Goals as goal

pub loop-a-preserved : goal.loop-a-preserved
loop-a-preserved c =
    record {
      sum_is = earning-step c.args.judge.now c.args.set.now c.args.judge.now.claims.budget (node_of c.args.at.now) c.args.config.now c.loop-a.a c.loop-a.sum c.earning-sum.result c.requires.earned c.loop-a-test.true c.requires.available c.loop-a.invariant.sum_is c.earning-sum.ensures.exact;
      most = omega (arith, c.loop-a.invariant.most, c.earning-sum.ensures.most);
    }
