use Rattle.std.proofs.Common.{◌≡◌, ◌+◌, ◌++◌, drop}
use Rattle.lagrange_bound.specs.inner.SlotBySlot as inner
use Rattle.lagrange_bound.proofs.price_lists.push_prices.Given as goal

abbrev pub invariant-loop-o : goal.invariant-loop-o
invariant-loop-o l =
    l.list.items ++ inner.grant_prices (drop l.o l.prices) (drop l.o l.base) (l.place + l.o) l.grant ≡ l.initial.list.items ++ inner.grant_prices l.prices l.base l.place l.grant
