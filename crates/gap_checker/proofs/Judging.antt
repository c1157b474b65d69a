-- Sets of multipliers as they are kept.
use Rattle.std.proofs.Common.{◌≡◌, ◌∙◌, ℕ, zero, suc, ◌<◌, ◌≤◌, ℤ, true, false, List, length, map, sym, ap, subst, arith}
use lib.Signed.{lt_z}
use Rattle.std.proofs.lemmas.Int.{ints}
use Rattle.std.specs.Prelude.{◌≤ℤ◌, ◌<ℤ◌, Some, slice_get, option_map}
use Rattle.std.proofs.lemmas.Option.{slice_get-map, slice_get_within}
use Rattle.adv_base.specs.declared.limits.TheConstants.{MOST_PAGE_PRICE}
use Rattle.adv_base.specs.Settings.{TheSetting}
use Rattle.bip_model.specs.StandsFor.{AreEach}
use Rattle.bip_model.specs.Trees.{set_at}
use Rattle.certificate.specs.declared.cert.SparseSet.{SparseSet}
use Rattle.certificate.specs.Limits.{EntriesFrom}
use Rattle.bip_model.proofs.Lists.{each-length}
use Rattle.gap_checker.specs.declared.multipliers.Multipliers.{Multipliers}
use Rattle.gap_checker.specs.Views.{multipliers_of}
use Rattle.gap_checker.specs.inner.Earnings.{AreEarned}
use Rattle.gap_checker.specs.inner.Kept.{IsKept, all_sets}
use Rattle.gap_checker.specs.inner.Sums.{the_multipliers}
use Rattle.gap_checker.proofs.Lists.{each-at, some-at}

kept-same : (setting : TheSetting) (sparse : SparseSet) (set : Multipliers) → IsKept setting sparse set → the_multipliers set.rents ≡ multipliers_of sparse
kept-same setting sparse set kept =
    ap (λ (mu : ℕ). multipliers_of (record { mu = mu; entries = set.rents.entries.now })) kept.mu_is
    ∙ ap (λ (entries : List _). multipliers_of (record { mu = sparse.mu; entries = entries })) kept.entries_are

set-found : (sets : List SparseSet) (k : ℕ) (sparse : SparseSet) → slice_get (all_sets sets) k ≡ Some sparse → set_at (map multipliers_of sets) k ≡ Some (multipliers_of sparse)
set-found sets zero sparse there = ap (option_map multipliers_of) there
set-found sets (suc k) sparse there = slice_get-map multipliers_of sets k ∙ ap (option_map multipliers_of) there

-- what is known of the set of a leaf
pub record IsLeafSet (setting : TheSetting) (sets : List SparseSet) (k : ℕ) (set : Multipliers) : Type 0 where
  pub found : set_at (map multipliers_of sets) k ≡ Some (the_multipliers set.rents)
  pub mu_most : set.rents.mu ≤ MOST_PAGE_PRICE
  pub rise : EntriesFrom 0 set.rents.entries.now
  pub earned : AreEarned setting set

pub leaf-set : (setting : TheSetting) (sets : List SparseSet) (kept : List Multipliers) (k : ℕ) (set : Multipliers) → AreEach (IsKept setting) (all_sets sets) kept → slice_get kept k ≡ Some set → IsLeafSet setting sets k set
leaf-set setting sets kept k set are there =
    let within : k < length kept = slice_get_within kept k set there in
    let sparse = some-at (all_sets sets) k (omega (arith, within, each-length (IsKept setting) (all_sets sets) kept are)) in
    let own = each-at (IsKept setting) (all_sets sets) kept k sparse.item set are sparse.found there in
    record {
      found = set-found sets k sparse.item sparse.found ∙ ap Some (sym (kept-same setting sparse.item set own));
      mu_most = omega (arith, own.mu_is, own.mu_most);
      rise = subst (EntriesFrom 0) (sym own.entries_are) own.rise;
      earned = own.earned;
    }

pub sets-count : (setting : TheSetting) (sets : List SparseSet) (kept : List Multipliers) → AreEach (IsKept setting) (all_sets sets) kept → length kept ≡ suc (length sets)
sets-count setting sets kept are = each-length (IsKept setting) (all_sets sets) kept are

-- what a test of whole numbers tells
pub below-true : (a b : ℤ) → lt_z a b ≡ true → a <ℤ b
below-true a b h = grind (arith, ints)

pub below-false : (a b : ℤ) → lt_z a b ≡ false → b ≤ℤ a
below-false a b h = grind (arith, ints)
