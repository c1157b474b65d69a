use Rattle.std.proofs.Common.{◌≡◌, ◌≢◌, ℕ, ◌+◌, ◌-◌, ◌<◌, ◌≤◌, length, take}
use Rattle.std.specs.Prelude.{slice_index_or}
use Rattle.adv_base.specs.declared.catalogue.index.IndexShape.{IndexShape}
use Rattle.bip_model.specs.StandsFor.{candidates_on}
use Rattle.retune.proofs.Numbering.{renumbered}
use Rattle.retune.proofs.numbers.Numbers.write.Given as goal

-- those before have their numbers, and the others keep theirs
abbrev pub invariant-loop-from : goal.invariant-loop-from
invariant-loop-from l =
    record {
      changed : l.self.changed ≡ l.initial.self.changed;
      within : l.from ≤ length l.old;
      at_within : l.at ≤ length l.new;
      on : l.from < length l.old → (d : IndexShape) → (slice_index_or l.old l.from d).table ≡ l.table;
      at_on : l.at < length l.new → (d : IndexShape) → (slice_index_or l.new l.at d).table ≡ l.table;
      written : renumbered (λ n. slice_index_or l.self.of n 0) (candidates_on (take l.from l.old) l.table) ≡ candidates_on (take l.at l.new) l.table;
      others : (k : ℕ) (d : IndexShape) → k < length l.old → (slice_index_or l.old k d).table ≢ l.table → slice_index_or l.self.of (k + 1) 0 ≡ slice_index_or l.initial.self.of (k + 1) 0;
    }

abbrev pub decreases-loop-from : goal.decreases-loop-from
decreases-loop-from l = length l.old - l.from
