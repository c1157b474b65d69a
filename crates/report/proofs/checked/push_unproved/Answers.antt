use Rattle.std.proofs.Common.{◌++◌, ◌∷◌, [], codes}
use Rattle.report.specs.Texts.{not_proved}
use Rattle.report.proofs.TwoParts.{in_two_parts}
use Rattle.report.proofs.checked.push_unproved.Goals as goal

pub returns : goal.returns
returns c =
    in_two_parts c.push_end.result c.push_end.new.out.items c.push_why.new.out.items c.args.out.now.items
    (codes "not proved: " ++ not_proved c.args.why) (10 ∷ []) c.in_ok-push_why.ensures c.push_end.ensures
