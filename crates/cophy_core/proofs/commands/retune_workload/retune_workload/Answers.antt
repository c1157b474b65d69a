use Rattle.std.proofs.Common.{◌≤◌, List, ℕ, map, length, subst, sym}
use Rattle.std.specs.Prelude.{All}
use Rattle.adv_base.specs.declared.limits.TheConstants.{MOST_FILE_BYTES}
use Rattle.edit_script.specs.Scripts.{the_edit, the_edits}
use Rattle.edit_script.specs.declared.edit.Edit.{Edit}
use Rattle.cophy_core.specs.inner.EditSteps.{IsShort}
use Rattle.cophy_core.proofs.Taking.{short_edits, each_bounded}
use Rattle.cophy_core.proofs.commands.retune_workload.retune_workload.Goals as goal

pub advices-requires-clause-each : goal.advices-requires-clause-each
advices-requires-clause-each c =
    let script = c.in_ok-edits.ensures.edits in
    let short = subst (λ (bytes : List ℕ). length bytes ≤ MOST_FILE_BYTES) script.text c.requires.script_short in
    subst (λ (es : List Edit). All IsShort (map the_edit es)) (sym c.as_slice-list.ensures) (short_edits (the_edits c.in_ok-edits.edits) short)

pub advices-requires-clause-few : goal.advices-requires-clause-few
advices-requires-clause-few c = rw c.in_ok-session.ensures.statements c.in_ok-session.ensures.few

pub returns-clause-bound : goal.returns-clause-bound
returns-clause-bound c = each_bounded c.args.setting.now.cat.now c.in_ok-all.all c.in_ok-all.ensures.fits
