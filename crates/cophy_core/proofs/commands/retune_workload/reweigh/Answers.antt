use Rattle.cophy_core.proofs.Taking.{few_reweighed}
use Rattle.cophy_core.proofs.commands.retune_workload.reweigh.Goals as goal

pub returns-in-Ok-clause-few : goal.returns-in-Ok-clause-few
returns-in-Ok-clause-few c =
    let session = c.args.session.now in
    few_reweighed session.cat session.statements c.reweigh.new.self.statements c.args.number c.args.weight c.in-Ok.ensures.statements c.requires.few
