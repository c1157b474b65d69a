use Rattle.std.proofs.Common.{◌≡◌, take}
use Rattle.bip_model.specs.Values as values
use Rattle.lagrange_bound.specs.Rented as rented
use Rattle.bip_model.specs.Words as words
use Rattle.lagrange_bound.proofs.plan_costs.least_of_one.Given as goal

abbrev pub invariant-loop-i : goal.invariant-loop-i
invariant-loop-i l = l.least ≡ words.word (rented.least_asked l.config l.o (values.price_of l.slot.base l.o) (take l.i l.grants) l.rents)
