use Rattle.std.proofs.Common.{◌+◌, List, sym, subst}
use Rattle.adv_base.specs.Settings.{the_setting}
use Rattle.bip_model.specs.declared.part.Part.{Part}
use Rattle.programme_parts.specs.Parts.{ArePartsBelow}
use Rattle.programme_parts.proofs.Statements.{named-block, parts-more}
use Rattle.programme_parts.proofs.parts.push_part.Goals as goal

pub part-requires-clause-named : goal.part-requires-clause-named
part-requires-clause-named c =
    named-block (the_setting c.args.setting.now) c.args.at c.args.statement.now c.args.block.now c.args.setting.now.limits c.requires.found c.requires.block_is

pub returns : goal.returns
returns c =
    let setting = the_setting c.args.setting.now in
    subst (λ (parts : List Part). ArePartsBelow setting (c.args.at + 1) parts) (sym c.in_ok-push.ensures.items)
    (parts-more setting c.args.at c.args.statement.now c.args.block.now c.args.parts.now.items c.in_ok-own.own c.requires.found c.requires.block_is c.in_ok-own.ensures.part_is c.in_ok-own.ensures.kept c.requires.before)
