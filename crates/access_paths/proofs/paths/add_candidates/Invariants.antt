use Rattle.std.proofs.Common.{◌≡◌, ◌≤◌, ◌+◌, ◌++◌, drop, length, map}
use Rattle.adv_base.specs.declared.limits.TheConstants.{MOST_CANDIDATES}
use Rattle.adv_base.specs.Offers.{candidate_path, numbered_on}
use Rattle.access_paths.specs.inner.Paths.{as_paths}
use Rattle.access_paths.proofs.PathLemmas.{numbered_from}
use Rattle.access_paths.proofs.paths.add_candidates.Given as goal

abbrev pub invariant-loop-place : goal.invariant-loop-place
invariant-loop-place l = record {
  rest : as_paths l.paths.items ++ map candidate_path (numbered_from l.table l.place (drop l.place l.config.on) (drop l.place l.shapes))
      ≡ as_paths l.initial.paths.items ++ map candidate_path (numbered_on l.shapes l.config l.table);
  few : length l.paths.items ≤ length l.initial.paths.items + l.place;
  places : l.place ≤ MOST_CANDIDATES;
}
