use Rattle.retune.specs.inner.Caches.{AreCachesBelow}
use Rattle.retune.proofs.caches.caches_of.Given as goal

abbrev pub invariant-loop-at : goal.invariant-loop-at
invariant-loop-at l = AreCachesBelow l.cat l.statements l.at l.caches.items
