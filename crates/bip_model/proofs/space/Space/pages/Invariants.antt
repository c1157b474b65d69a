use Rattle.std.proofs.Common.{◌≡◌, ◌+◌, ◌*◌, ◌≤◌, drop, sum}
use Rattle.adv_base.specs.Configs as configs
use Rattle.adv_base.specs.declared.limits.TheConstants.{MOST_INDEX_PAGES}
use Rattle.bip_model.proofs.space.Space.pages.Given as goal

abbrev pub invariant-loop-a : goal.invariant-loop-a
invariant-loop-a l =
    record {
      rest : l.sum + sum (configs.chosen (drop l.a l.config.on) (drop l.a l.self.sizes.now)) ≡ configs.pages_in l.self.sizes.now l.config;
      most : l.sum ≤ l.a * MOST_INDEX_PAGES;
    }
