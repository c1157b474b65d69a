use Rattle.std.proofs.Common.{arith}
use Rattle.interesting_orders.proofs.MarkLemmas.{fold-own_list}
use Rattle.interesting_orders.proofs.columns.is_new_list.Goals as goal

pub returns-then-is_own_list : goal.returns-then-is_own_list
returns-then-is_own_list c = λ orders m.
    let h = fold-own_list c.args.slot c.args.seen.now orders c.args.list.now m c.requires in
    grind arith
