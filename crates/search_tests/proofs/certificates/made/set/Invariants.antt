use Rattle.std.proofs.Common.{◌≡◌, ◌≤◌, length}
use Rattle.std.specs.Prelude.{All}
use Rattle.adv_base.specs.declared.limits.TheConstants.{MOST_RENT}
use Rattle.search_tests.proofs.certificates.made.set.Given as goal

abbrev pub invariant-rents : goal.invariant-rents
invariant-rents g l = record {
  count : length l.lambda.items ≡ l.at;
  most : All (λ rent. rent ≤ MOST_RENT) l.lambda.items;
}
