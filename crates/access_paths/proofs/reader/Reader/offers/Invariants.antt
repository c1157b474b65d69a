use Rattle.std.proofs.Common.{◌≡◌, map, take}
use Rattle.adv_base.specs.Offers.{path_candidate}
use Rattle.access_paths.specs.inner.Paths.{as_paths}
use Rattle.access_paths.specs.inner.Readers.{offer_through}
use Rattle.access_paths.specs.inner.SlotOffers.{pairs_of, numbers_of}
use Rattle.access_paths.proofs.reader.Reader.offers.Given as goal

abbrev pub invariant-loop-path : goal.invariant-loop-path
invariant-loop-path l = record {
  pairs : pairs_of l.offers.items ≡ map (offer_through l.self) (as_paths (take l.path-index l.paths));
  numbers : numbers_of l.offers.items ≡ map path_candidate (as_paths (take l.path-index l.paths));
}
