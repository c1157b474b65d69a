use Rattle.std.proofs.Common.{◌≡◌, ℕ, ◌<◌, false}
use Rattle.std.specs.Prelude.{slice_index_or}
use Rattle.retune.specs.inner.Renewing.{has_changed, IsRenumbering}
use Rattle.retune.proofs.numbers.Numbers.new.Given as goal

-- a table that was taken out has its numbers
abbrev pub invariant-loop-table : goal.invariant-loop-table
invariant-loop-table l =
    (t : ℕ) → has_changed l.numbers.changed t ≡ false → (t < l.table) × IsRenumbering (λ n. slice_index_or l.numbers.of n 0) l.old l.new t
