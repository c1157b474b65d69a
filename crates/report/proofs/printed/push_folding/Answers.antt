use Rattle.std.proofs.Common.{◌++◌, codes}
use Rattle.report.specs.Words.{numbered}
use Rattle.report.proofs.TwoParts.{in_two_parts}
use Rattle.report.proofs.printed.push_folding.Goals as goal

pub returns : goal.returns
returns c =
    let folded = c.args.folded.now in
    in_two_parts c.push_both.result c.push_both.new.out.items c.push_numbered.new.out.items c.args.out.now.items
    (numbered (codes "statements ") folded.statements) (numbered (codes " folded ") folded.groups ++ numbered (codes " total ") folded.total) c.in_ok-push_numbered.ensures c.push_both.ensures
