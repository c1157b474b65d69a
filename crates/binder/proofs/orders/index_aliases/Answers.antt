use Rattle.std.proofs.Common.{refl, arith}
use Rattle.binder.specs.Lookups.{find_in}
use Rattle.binder.specs.Items.{has_alias}
use Rattle.binder.proofs.Positions.{position_from-earlier}
use Rattle.binder.proofs.orders.index_aliases.Goals as goal

pub loop-number-preserved : goal.loop-number-preserved
loop-number-preserved c = λ word.
    position_from-earlier (has_alias c.args.text.now word) c.args.items.now c.loop-number.number c.index-items-number.result
    (has_alias c.args.text.now word c.index-items-number.result) (find_in c.loop-number.index word) (find_in c.in_ok-index.index word) (omega arith) (omega arith)
    c.index-items-number.is refl (c.loop-number.invariant word) (c.in_ok-index.ensures word)
