use Rattle.std.proofs.Common.{◌≡◌, ℕ, suc, ◌+◌, ◌<◌, ◌==◌, drop, length, slice_index_or}
use Rattle.std.specs.Prelude.{count_by}
use Rattle.adv_base.specs.declared.limits.TheConstants.{MOST_CANDIDATES}
use Rattle.lagrange_bound.proofs.sharing.count_grants.Given as goal

abbrev pub invariant-loop-i : goal.invariant-loop-i
invariant-loop-i l =
    record {
      count : length l.uses ≡ 256;
      rest : (a : ℕ) → a < MOST_CANDIDATES →
          slice_index_or l.uses a 0 + count_by (λ grant. grant.candidate == suc a) (drop l.i l.grants)
          ≡ slice_index_or l.initial.uses a 0 + count_by (λ grant. grant.candidate == suc a) l.grants;
    }
