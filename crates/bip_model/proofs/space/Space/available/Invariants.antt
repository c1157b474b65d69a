use Rattle.std.proofs.Common.{◌≡◌, ◌+◌, ◌<◌, ℕ, false, get_or, length}
use Rattle.adv_base.specs.Nodes as nodes
use Rattle.bip_model.specs.Views as views
use Rattle.bip_model.proofs.space.Space.available.Given as goal

abbrev pub invariant-loop-a : goal.invariant-loop-a
invariant-loop-a l =
    record {
      count : length l.on ≡ 256;
      done : (k : ℕ) → k < l.a → get_or l.on k false ≡ nodes.is_available_in (views.the_space l.self) (views.node_of l.fix) (k + 1);
    }
