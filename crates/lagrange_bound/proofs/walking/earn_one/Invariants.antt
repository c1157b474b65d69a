use Rattle.std.proofs.Common.{◌≡◌, ℕ, suc, ◌+◌, ◌*◌, ◌<◌, drop, length, take, slice_index_or}
use Rattle.adv_base.specs.declared.limits.TheConstants.{MOST_CANDIDATES}
use Rattle.bip_model.specs.Values as values
use Rattle.bip_model.specs.Words as words
use Rattle.lagrange_bound.specs.Bounds as bounds
use Rattle.lagrange_bound.specs.Rented as rented
use Rattle.lagrange_bound.proofs.walking.earn_one.Given as goal

abbrev pub invariant-loop-i : goal.invariant-loop-i
invariant-loop-i l =
    record {
      count : length l.earned ≡ 256;
      rest : (a : ℕ) → a < MOST_CANDIDATES →
          slice_index_or l.earned a 0 + l.weight * bounds.grant_rents (suc a) (drop l.i l.grants) (drop l.i l.rents)
          ≡ slice_index_or l.initial.earned a 0 + l.weight * bounds.grant_rents (suc a) l.grants l.rents;
      least : l.least ≡ words.word (rented.least_asked l.config 0 (values.price_of l.slot.base 0) (take l.i l.grants) l.rents);
    }
