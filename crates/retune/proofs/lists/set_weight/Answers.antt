use Rattle.std.proofs.Common.{◌≡◌, ◌∙◌, get_or, refl, sym, ap}
use Rattle.std.specs.Prelude.{Some, slice_get}
use Rattle.std.proofs.lemmas.Option.{slice_get-get_or}
use Rattle.retune.proofs.Reweighed.{reweighed-of}
use Rattle.retune.proofs.lists.set_weight.Goals as goal

pub returns : goal.returns
returns c =
    let items = c.args.statements.now.items in
    let at = c.args.at in
    let old = c.index_mut-statement.result.now in
    let value : old ≡ get_or items at old = c.index_mut-statement.ensures.value in
    let found : slice_get items at ≡ Some old = slice_get-get_or items at old c.requires.within ∙ ap Some (sym value) in
    reweighed-of items at c.args.weight old _ found refl refl
