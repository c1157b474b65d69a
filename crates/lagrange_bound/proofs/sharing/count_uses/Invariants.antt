use Rattle.std.proofs.Common.{◌≡◌, ℕ, suc, ◌+◌, ◌<◌, drop, slice_index_or}
use Rattle.std.specs.Prelude.{sum_by}
use Rattle.adv_base.specs.declared.limits.TheConstants.{MOST_CANDIDATES}
use Rattle.lagrange_bound.specs.Rents.{part_uses}
use Rattle.lagrange_bound.proofs.sharing.count_uses.Given as goal

abbrev pub invariant-loop-part : goal.invariant-loop-part
invariant-loop-part l =
    (a : ℕ) → a < MOST_CANDIDATES → slice_index_or l.uses a 0 + sum_by (part_uses (suc a)) (drop l.part-index l.parts) ≡ sum_by (part_uses (suc a)) l.parts
