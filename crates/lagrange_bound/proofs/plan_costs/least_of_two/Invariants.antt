use Rattle.std.proofs.Common.{◌≡◌, ◌+◌, take}
use Rattle.bip_model.specs.Values as values
use Rattle.lagrange_bound.specs.Rented as rented
use Rattle.bip_model.specs.Words as words
use Rattle.lagrange_bound.proofs.plan_costs.least_of_two.Given as goal

abbrev pub invariant-loop-i : goal.invariant-loop-i
invariant-loop-i l =
    record {
      first : l.least.0 ≡ words.word (rented.least_asked l.config l.o (values.price_of l.slot.base l.o) (take l.i l.grants) l.rents);
      second : l.least.1 ≡ words.word (rented.least_asked l.config (l.o + 1) (values.price_of l.slot.base (l.o + 1)) (take l.i l.grants) l.rents);
    }
