use Rattle.std.proofs.Common.{◌≡◌, true}
use Rattle.inum_cache.specs.inner.Cells.{asks, fits_below}
use Rattle.inum_cache.proofs.cell.asks_no_more.Given as goal

abbrev pub invariant-loop-slot : goal.invariant-loop-slot
invariant-loop-slot l = fits_below l.choices.orders (asks l.choices.orders l.other) l.one l.slot ≡ true
