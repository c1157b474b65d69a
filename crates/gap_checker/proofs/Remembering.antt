-- The last costs of sets.
use Rattle.std.proofs.Common.{◌≡◌, ◌∙◌, ℕ, suc, ◌+◌, ◌<◌, ◌≤◌, List, [], ◌∷◌, length, set, sym, ap, subst, arith}
use Rattle.std.specs.Prelude.{All, Option, Some, None, slice_get}
use Rattle.std.proofs.lemmas.List.{length-replicate}
use Rattle.std.proofs.lemmas.List.Elements.{All-replicate, All-head, All-tail}
use Rattle.std.proofs.lemmas.Option.{slice_get_within}
use Rattle.adv_base.specs.Settings.{TheSetting}
use Rattle.bip_model.specs.StandsFor.{AreEach}
use Rattle.certificate.specs.declared.cert.Entry.{Entry}
use Rattle.certificate.specs.declared.cert.SparseSet.{SparseSet}
use Rattle.plan_model.specs.declared.plan.TheConstants.{MOST_COST}
use Rattle.bip_model.proofs.Lists.{each-length}
use Rattle.gap_checker.specs.declared.memo.Last.{Last}
use Rattle.gap_checker.specs.declared.multipliers.Multipliers.{Multipliers}
use Rattle.gap_checker.specs.Views.{rent_in}
use Rattle.gap_checker.specs.inner.Earnings.{rent_of}
use Rattle.gap_checker.specs.inner.Kept.{IsKept, all_sets}
use Rattle.gap_checker.specs.inner.Memos.{IsLast, IsLastOf, IsBlank}
use Rattle.gap_checker.proofs.EachDesk.{each-set}
use Rattle.gap_checker.proofs.Lists.{each-at, some-at}

-- ## Before the first leaf

none-some : {X : Type 0} (o : Option X) (x : X) → o ≡ None → o ≡ Some x → ⊥
none-some o x none some = cc

blank-last : (setting : TheSetting) (sparse : SparseSet) (last : Last) → IsBlank (length setting.statements) last → IsLastOf setting sparse last
blank-last setting sparse last blank =
    record {
      count = ap length blank.costs_are ∙ length-replicate (length setting.statements) 0;
      most = subst (All (λ (cost : ℕ). cost ≤ MOST_COST)) (sym blank.costs_are) (All-replicate (λ (cost : ℕ). cost ≤ MOST_COST) (length setting.statements) 0 (omega arith));
      costs_are = λ config is. absurd (none-some last.config config blank.config_is is);
    }

all-blank : (setting : TheSetting) (sets : List SparseSet) (lasts : List Last) → length lasts ≡ length sets → All (IsBlank (length setting.statements)) lasts → AreEach (IsLastOf setting) sets lasts
all-blank setting [] [] count blank = tt
all-blank setting [] (l ∷ lasts) count blank = absurd (omega (arith, count))
all-blank setting (s ∷ sets) [] count blank = absurd (omega (arith, count))
all-blank setting (s ∷ sets) (l ∷ lasts) count blank =
    let P : Last → Type 0 = IsBlank (length setting.statements) in
    (blank-last setting s l (All-head P l lasts blank), all-blank setting sets lasts (omega (arith, count)) (All-tail P l lasts blank))

pub lasts-made : (setting : TheSetting) (sets : List SparseSet) (lasts : List Last) → length lasts ≡ length sets + 1 → All (IsBlank (length setting.statements)) lasts → AreEach (IsLastOf setting) (all_sets sets) lasts
lasts-made setting sets lasts count blank = all-blank setting (all_sets sets) lasts (omega (arith, count)) blank

-- ## The set of a leaf

pub lasts-count : (setting : TheSetting) (sets : List SparseSet) (lasts : List Last) → AreEach (IsLastOf setting) (all_sets sets) lasts → length lasts ≡ suc (length sets)
lasts-count setting sets lasts are = each-length (IsLastOf setting) (all_sets sets) lasts are

pub last-at : (setting : TheSetting) (sets : List SparseSet) (keeps : List Multipliers) (lasts : List Last) (k : ℕ) (own : Multipliers) (last : Last) → AreEach (IsKept setting) (all_sets sets) keeps → AreEach (IsLastOf setting) (all_sets sets) lasts →
    slice_get keeps k ≡ Some own → slice_get lasts k ≡ Some last → IsLast setting (rent_of own.rents) last
last-at setting sets keeps lasts k own last are lasts_are there here =
    let within : k < length keeps = slice_get_within keeps k own there in
    let sparse = some-at (all_sets sets) k (omega (arith, within, each-length (IsKept setting) (all_sets sets) keeps are)) in
    let kept = each-at (IsKept setting) (all_sets sets) keeps k sparse.item own are sparse.found there in
    let is = each-at (IsLastOf setting) (all_sets sets) lasts k sparse.item last lasts_are sparse.found here in
    subst (λ (entries : List Entry). IsLast setting (λ q s a. rent_in entries q s a) last) (sym kept.entries_are) is

pub last-set : (setting : TheSetting) (sets : List SparseSet) (keeps : List Multipliers) (lasts : List Last) (k : ℕ) (own : Multipliers) (last : Last) → AreEach (IsKept setting) (all_sets sets) keeps → AreEach (IsLastOf setting) (all_sets sets) lasts →
    slice_get keeps k ≡ Some own → IsLast setting (rent_of own.rents) last → AreEach (IsLastOf setting) (all_sets sets) (set lasts k last)
last-set setting sets keeps lasts k own last are lasts_are there new =
    let within : k < length keeps = slice_get_within keeps k own there in
    let sparse = some-at (all_sets sets) k (omega (arith, within, each-length (IsKept setting) (all_sets sets) keeps are)) in
    let kept = each-at (IsKept setting) (all_sets sets) keeps k sparse.item own are sparse.found there in
    each-set (IsLastOf setting) (all_sets sets) lasts k sparse.item last lasts_are sparse.found
    (subst (λ (entries : List Entry). IsLast setting (λ q s a. rent_in entries q s a) last) kept.entries_are new)
