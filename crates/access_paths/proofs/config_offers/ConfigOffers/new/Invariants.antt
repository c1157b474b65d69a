use Rattle.std.proofs.Common.{◌≡◌, ◌<◌, ℕ, length, map}
use Rattle.adv_base.specs.Offers.{offers, paths, path_candidate}
use Rattle.access_paths.specs.ConfigOffers.{table_of, candidates_in_table}
use Rattle.access_paths.proofs.config_offers.ConfigOffers.new.Given as goal

abbrev pub invariant-loop-slot : goal.invariant-loop-slot
invariant-loop-slot l = record {
  count : length l.slots.items ≡ l.slot;
  pairs : (s : ℕ) → s < l.slot → table_of l.slots.items s ≡ offers l.cat l.block l.shapes l.config s;
  numbers : (s : ℕ) → s < l.slot → candidates_in_table l.slots.items s ≡ map path_candidate (paths l.cat l.block l.shapes l.config s);
}
