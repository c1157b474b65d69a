use Rattle.std.proofs.Common.{◌≡◌, ◌+◌, ◌++◌, map, take}
use Rattle.lagrange_bound.specs.Rents.{grant_rent}
use Rattle.lagrange_bound.proofs.sharing.write_grants.Given as goal

abbrev pub invariant-loop-i : goal.invariant-loop-i
invariant-loop-i l = take (l.at + l.i) l.rents ≡ take l.at l.initial.rents ++ map (grant_rent l.programme l.mu l.weight) (take l.i l.grants)
