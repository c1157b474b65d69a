use Rattle.std.proofs.Common.{◌≡◌, map}
use Rattle.edit_script.specs.Scripts.{the_edit}
use Rattle.cophy_core.proofs.Taking.{IsHalfway}
use Rattle.cophy_core.proofs.commands.retune_workload.advices.Given as goal

abbrev pub invariant-edits : goal.invariant-edits
invariant-edits l = record {
  cat_is : l.session.cat ≡ l.cat;
  halfway : IsHalfway l.cat l.budget l.nodes l.fn.session.statements l.session.statements (map the_edit l.edits) l.at l.all.items;
}
