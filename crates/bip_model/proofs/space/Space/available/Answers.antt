use Rattle.std.proofs.Common.{Bool, List, ap, arith}
use Rattle.adv_base.specs.Nodes as nodes
use Rattle.bip_model.specs.Views as views
use Rattle.bip_model.proofs.Spaces.{config-is}
use Rattle.bip_model.proofs.space.Space.available.Goals as goal

pub returns : goal.returns
returns c =
    ap (λ (on : List Bool). record { on = on })
    (config-is (nodes.is_available_in (views.the_space c.args.self.now) (views.node_of c.args.fix.now)) c.loop-a.on c.loop-a.invariant.count
    (λ k below. c.loop-a.invariant.done k (omega (arith, below, c.loop-a-test.false))))
