use Rattle.std.proofs.Common.{◌≡◌, ◌<◌, ℕ}
use Rattle.std.specs.Prelude.{All, Some, slice_get}
use Rattle.certificate.specs.declared.cert.SparseSet.{SparseSet}
use Rattle.gap_checker.specs.Faults as faults
use Rattle.adv_base.specs.Settings.{the_setting}
use Rattle.gap_checker.proofs.uses.judge_pairs.Given as goal

abbrev pub invariant-loop-j : goal.invariant-loop-j
invariant-loop-j l = (k : ℕ) (earlier : SparseSet) → k < l.j → slice_get l.sets k ≡ Some earlier → All (faults.NamesPair (the_setting l.setting)) earlier.entries
