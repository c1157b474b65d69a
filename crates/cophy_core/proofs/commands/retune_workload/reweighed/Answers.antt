use Rattle.std.proofs.Common.{sym, refl, ◌∙◌}
use Rattle.cophy_core.proofs.Taking.{alone}
use Rattle.cophy_core.proofs.commands.retune_workload.reweighed.Goals as goal

pub returns : goal.returns
returns c = record {
  read = c.in-Some.statement;
  bound_is = alone c.pop.new.self.items c.args.bound c.in-Some.statement c.requires.one (sym c.bound.view_is ∙ c.in-Some.ensures.items);
  work_is = refl;
  weight_is = refl;
}
