use Rattle.std.proofs.Common.{◌∙◌, inr, sym}
use Rattle.lagrange_bound.proofs.CheaperPrices.{cheaper-past}
use Rattle.lagrange_bound.proofs.cheaper.has_cheaper.Goals as goal

pub returns-then-o-base : goal.returns-then-o-base
returns-then-o-base c = sym (cheaper-past c.args.prices.now c.args.base.now c.loop-o.o (inr c.if-o-base.true)) ∙ c.loop-o.invariant
