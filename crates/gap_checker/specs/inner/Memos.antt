-- What is kept from leaf to leaf.
use Rattle.std.specs.Prelude.{◌≡◌, ℕ, suc, ◌<◌, ◌≤◌, All, List, Some, None, length, replicate, slice_get, slice_index_or}
use Rattle.adv_base.specs.declared.setting.Config.{Config}
use Rattle.adv_base.specs.declared.workload.Statement.{Statement}
use Rattle.adv_base.specs.Settings.{TheSetting}
use Rattle.bip_model.specs.StandsFor.{AreEach}
use Rattle.certificate.specs.declared.cert.SparseSet.{SparseSet}
use Rattle.plan_model.specs.Lagrangian.{IsRentedPlan}
use Rattle.plan_model.specs.declared.plan.TheConstants.{MOST_COST}
use Rattle.gap_checker.specs.Views.{rent_in}
use Rattle.gap_checker.specs.declared.changes.Changes.{Changes}
use Rattle.gap_checker.specs.declared.memo.Last.{Last}
use Rattle.gap_checker.specs.declared.memo.Memo.{Memo}
use Rattle.gap_checker.specs.inner.Changes.{IsUntouched}
use Rattle.gap_checker.specs.inner.Kept.{all_sets}
use Rattle.gap_checker.specs.inner.Parts.{AreDesks}

-- each number is what a least plan of the statement of its place costs over a configuration, with rents
abbrev pub AreCostsOf : TheSetting → Config → (ℕ → ℕ → ℕ → ℕ) → List ℕ → Type 0
AreCostsOf setting config rent costs =
    (k : ℕ) (statement : Statement) → slice_get setting.statements k ≡ Some statement → IsRentedPlan setting config (rent (suc k)) statement.work (slice_index_or costs k 0)

-- one number for each statement; each is its cost for the candidates that were available last
pub record IsLast (setting : TheSetting) (rent : ℕ → ℕ → ℕ → ℕ) (last : Last) : Type 0 where
  pub count : length last.costs.items ≡ length setting.statements
  pub most : All (λ cost. cost ≤ MOST_COST) last.costs.items
  pub costs_are : (config : Config) → last.config ≡ Some config → AreCostsOf setting config rent last.costs.items

abbrev pub IsLastOf : TheSetting → SparseSet → Last → Type 0
IsLastOf setting set last = IsLast setting (λ q s a. rent_in set.entries q s a) last

-- the costs of the statements before number i are found; of the others those stand that changes leave alone
pub record AreRenewed (setting : TheSetting) (config : Config) (rent : ℕ → ℕ → ℕ → ℕ) (changes : Changes) (i : ℕ) (costs : List ℕ) : Type 0 where
  pub done : (k : ℕ) (statement : Statement) → k < i → slice_get setting.statements k ≡ Some statement → IsRentedPlan setting config (rent (suc k)) statement.work (slice_index_or costs k 0)
  pub left : (k : ℕ) (statement : Statement) → i ≤ k → slice_get setting.statements k ≡ Some statement → IsUntouched changes statement.work → IsRentedPlan setting config (rent (suc k)) statement.work (slice_index_or costs k 0)

-- no cost is known
pub record IsBlank (count : ℕ) (last : Last) : Type 0 where
  pub config_is : last.config ≡ None
  pub costs_are : last.costs.items ≡ replicate count 0

pub record IsMemo (setting : TheSetting) (sets : List SparseSet) (memo : Memo) : Type 0 where
  pub desks_are : AreDesks setting memo.desks.items
  pub lasts_are : AreEach (IsLastOf setting) (all_sets sets) memo.lasts.items
