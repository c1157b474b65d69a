use Rattle.std.proofs.Common.{◌≡◌, ◌≤◌, length, drop}
use Rattle.adv_base.specs.Readings.{in_turn}
use Rattle.binder.specs.Sources.{with_source, sources_of}
use Rattle.binder.proofs.sources.sources.Given as goal

-- the sources so far, with those of the rest behind them, are all sources
abbrev pub invariant-loop-source : goal.invariant-loop-source
invariant-loop-source l = record {
  so_far : in_turn (with_source l.directory.cat.now l.text) l.sources (drop l.source-index l.written) ≡ sources_of l.directory.cat.now l.text l.written;
  few : length l.sources ≤ 8;
  count : length l.sources ≡ l.source-index;
}
