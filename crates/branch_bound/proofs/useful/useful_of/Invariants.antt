use Rattle.std.proofs.Common.{◌≡◌, ℕ, ◌+◌, ◌<◌, ◌≤◌, false, length, slice_index_or}
use Rattle.adv_base.specs.declared.limits.TheConstants.{MOST_CANDIDATES}
use Rattle.bip_model.specs.Candidates.{is_useful, useful_below}
use Rattle.branch_bound.proofs.useful.useful_of.Given as goal

abbrev pub invariant-loop-index : goal.invariant-loop-index
invariant-loop-index l =
    record {
      flags : (i : ℕ) → i < l.index → slice_index_or l.flags i false ≡ is_useful l.programme l.budget (i + 1);
      count : l.count ≡ useful_below l.programme l.budget l.index;
      most : l.count ≤ l.index;
      long : length l.flags ≡ MOST_CANDIDATES;
    }
