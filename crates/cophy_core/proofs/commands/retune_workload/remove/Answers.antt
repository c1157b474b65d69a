use Rattle.std.proofs.Common.{sym, subst}
use Rattle.programme_parts.specs.Combinations.{AreFew}
use Rattle.cophy_core.proofs.Taking.{few_removed}
use Rattle.cophy_core.proofs.commands.retune_workload.remove.Goals as goal

pub returns-in-Ok-clause-few : goal.returns-in-Ok-clause-few
returns-in-Ok-clause-few c =
    let session = c.args.session.now in
    subst (AreFew session.cat) (sym c.in-Ok.ensures.statements) (few_removed session.cat session.statements c.args.number c.requires)
