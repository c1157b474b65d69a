use Rattle.adv_base.specs.Settings.{the_setting}
use Rattle.cophy_core.specs.Files.{input_file}
use Rattle.cophy_core.proofs.Checking.{given_free_each}
use Rattle.cophy_core.proofs.commands.check.check.Goals as goal

pub returns-clause-gives : goal.returns-clause-gives
returns-clause-gives g c =
    let file = c.args.file.now in
    given_free_each c.check_below.result (g.S.Shelf.files c.args.shelf.now) (input_file file.role file.name.now file.most) (the_setting c.args.setting.now) _ c.free-root.ensures.node c.check_below.ensures.gives
