use Rattle.std.proofs.Common.{rules}
use Rattle.std.proofs.lemmas.Int.{to_z-of_z}
use mir.Syntax.{w128}
use Rattle.gap_checker.specs.inner.Judges.{setting_of}
use Rattle.bip_model.specs.Views.{node_of}
use Rattle.gap_checker.specs.inner.Sums.{the_multipliers}
use Rattle.gap_checker.proofs.Valuing.{available-here, value-made}
use Rattle.gap_checker.proofs.lagrangian.lagrangian_value.Goals as goal

pub earnings-requires-clause-available : goal.earnings-requires-clause-available
earnings-requires-clause-available c = available-here c.args.judge.now c.args.at.now c.available-config.result c.available-config.ensures

pub returns-clause-value : goal.returns-clause-value
returns-clause-value c =
    rw (to_z-of_z w128 c.rounded_up.result (search rules))
    (value-made (setting_of c.args.judge.now) c.args.judge.now.claims.budget (node_of c.args.at.now) (the_multipliers c.args.set.now.rents) c.available-config.result c.in_ok-plans.plans c.args.judge.now.figures.now.kept c.costs_inside.result c.earnings.result c.rounded_up.result
    (available-here c.args.judge.now c.args.at.now c.available-config.result c.available-config.ensures) c.in_ok-plans.ensures.sum c.args.judge.now.figures_are.kept_is c.costs_inside.ensures.exact c.earnings.ensures.exact c.rounded_up.ensures)
