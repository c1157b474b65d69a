use Rattle.std.proofs.Common.{◌≡◌, ◌≤◌, length}
use Rattle.std.specs.Prelude.{All}
use Rattle.adv_base.specs.declared.limits.TheConstants.{MOST_RENT}
use Rattle.search_tests.proofs.rented.write_rents.Given as goal

abbrev pub invariant-loop-at : goal.invariant-loop-at
invariant-loop-at l = record {
  one_each : length l.rents ≡ length l.initial.rents;
  most : All (λ rent. rent ≤ MOST_RENT) l.rents;
}
