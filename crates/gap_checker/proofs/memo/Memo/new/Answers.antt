use Rattle.std.proofs.Common.{arith}
use Rattle.adv_base.specs.Settings.{the_setting}
use Rattle.gap_checker.proofs.EachDesk.{desks-made}
use Rattle.gap_checker.proofs.Remembering.{lasts-made}
use Rattle.gap_checker.proofs.memo.Memo.new.Goals as goal

pub returns : goal.returns
returns c =
    let setting = the_setting c.args.setting.now in
    record {
      desks_are = desks-made setting c.args.parts.now c.in_ok-desks.desks.items c.requires.parts_are c.in_ok-desks.ensures;
      lasts_are = lasts-made setting c.args.sets.now c.in_ok-lasts.lasts.items (omega (arith, c.in_ok-lasts.ensures.count)) c.in_ok-lasts.ensures.blank;
    }
