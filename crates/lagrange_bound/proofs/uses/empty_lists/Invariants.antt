use Rattle.std.proofs.Common.{◌≡◌, ℕ, [], length}
use Rattle.std.specs.Prelude.{slice_index_or}
use Rattle.lagrange_bound.proofs.uses.empty_lists.Given as goal

abbrev pub invariant-loop : goal.invariant-loop
invariant-loop l = record { long : length l.all.items ≡ l.counter; empty : (a : ℕ) → slice_index_or l.all.items a [] ≡ [] }
