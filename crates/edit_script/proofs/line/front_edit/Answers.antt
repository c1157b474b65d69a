use Rattle.std.proofs.Common.{ℕ, List, rules}
use Rattle.adv_base.proofs.LineLaws.{one_line}
use Rattle.edit_script.specs.Scripts.{TheEdit, edit_text}
use Rattle.edit_script.specs.inner.Fronts.{BeginsWithEdit}
use Rattle.edit_script.proofs.line.front_edit.Goals as goal

-- the first line is no edit
pub returns-in_err-edit : goal.returns-in_err-edit
returns-in_err-edit c =
    let none : (edit : TheEdit) (rest : List ℕ) → ¬ (BeginsWithEdit c.args.bytes.now edit rest) =
    λ edit rest h.
    let same = (one_line c.args.bytes.now c.in_ok-line.line.now c.in_ok-line.rest.now (edit_text edit) rest c.in_ok-line.ensures (record { parts = h.text; whole = h.is.line })).0 in
    c.in_err-edit.ensures edit (record { text = same; range = h.is.range }) in
    search (rules, none)
