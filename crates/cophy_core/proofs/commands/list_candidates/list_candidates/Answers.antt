use Rattle.cophy_core.proofs.commands.list_candidates.list_candidates.Goals as goal

pub returns-clause-gives : goal.returns-clause-gives
returns-clause-gives c = rw c.in_ok-list.ensures c.requires

pub returns-clause-fits : goal.returns-clause-fits
returns-clause-fits c = rw c.in_ok-list.ensures c.args.setting.now.limits.shapes_named
