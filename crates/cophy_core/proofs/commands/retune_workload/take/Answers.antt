use Rattle.std.proofs.Common.{subst, OnOk}
use Rattle.adv_base.specs.declared.catalogue.Catalogue.{Catalogue}
use Rattle.programme_parts.specs.Combinations.{AreFew}
use Rattle.cophy_core.proofs.commands.retune_workload.take.Goals as goal

pub remove-requires : goal.remove-requires
remove-requires c = rw c.requires.cat c.requires.few

pub reweigh-requires-clause-few : goal.reweigh-requires-clause-few
reweigh-requires-clause-few c = rw c.requires.cat c.requires.few

pub returns-in-Remove-clause-few : goal.returns-in-Remove-clause-few
returns-in-Remove-clause-few c = subst (λ (cat : Catalogue). OnOk c.remove.result (AreFew cat c.remove.new.session.statements)) c.requires.cat c.remove.ensures.few

pub returns-in-Weigh-clause-few : goal.returns-in-Weigh-clause-few
returns-in-Weigh-clause-few c = subst (λ (cat : Catalogue). OnOk c.reweigh.result (AreFew cat c.reweigh.new.session.statements)) c.requires.cat c.reweigh.ensures.few
