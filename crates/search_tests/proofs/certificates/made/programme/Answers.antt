use Rattle.search_tests.proofs.Programmes.{programme-limits}
use Rattle.search_tests.proofs.certificates.made.programme.Goals as goal

pub invariant_of-result : goal.invariant_of-result
invariant_of-result g c = record { limits = programme-limits _ _ _ c.sizes.ensures c.upkeep.ensures c.requires.few }
