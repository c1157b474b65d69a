use Rattle.std.proofs.Common.{codes}
use Rattle.report.specs.Texts.{bound_words, proved_words}
use Rattle.report.specs.Words.{numbered}
use Rattle.report.proofs.TwoParts.{in_two_parts}
use Rattle.report.proofs.checked.push_proved.Goals as goal

pub returns : goal.returns
unfolding proved_words
returns c =
    let checked = c.args.checked.now in
    in_two_parts c.push_bound.result c.push_bound.new.out.items c.push_numbered.new.out.items c.args.out.now.items
    (numbered (codes "proved cost ") checked.cost) (bound_words checked.bound checked.budget) c.in_ok-push_numbered.ensures c.push_bound.ensures
