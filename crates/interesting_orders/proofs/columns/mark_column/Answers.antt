use Rattle.std.proofs.Common.{refl}
use Rattle.interesting_orders.proofs.MarkLemmas.{AreMarks-add}
use Rattle.interesting_orders.proofs.columns.mark_column.Goals as goal

pub returns-in-Some : goal.returns-in-Some
returns-in-Some c = λ orders m.
    rw c.in-Some.ensures.exact (AreMarks-add c.args.slot c.in-Some.column c.args.seen.now orders (c.in-Some.ensures.small c.in-Some.column refl) m)
