use Rattle.cophy_core.proofs.commands.retune_workload.advice_over.Goals as goal

pub best_advice-requires-clause-few : goal.best_advice-requires-clause-few
best_advice-requires-clause-few c = rw c.statements.ensures.statements c.requires.few
