-- What a valid plan covers, and what each of its operators costs at most.
use Rattle.std.proofs.Common.{◌≡◌, inl, inr, ℕ, zero, suc, ◌+◌, ◌*◌, ◌^◌, ◌<◌, ◌≤◌, Bool, true, false, [], length, bit_and, arith}
use Rattle.std.proofs.Math.Nat.{one-le-pow, mul-le-mul}
use Rattle.std.proofs.Math.Pow.{pow-lt, pow_mono}
use Rattle.std.proofs.lemmas.Bool.{cases_lt}
use Rattle.std.proofs.lemmas.Bool.Decides.{nat_tests}
use Rattle.std.proofs.lemmas.List.{get_or_past}
use Rattle.std.proofs.lemmas.Nat.{or_disjoint, or_lt}
use Rattle.std.proofs.lemmas.Option.{slice_get-get_or, slice_get_past}
use Rattle.adv_base.specs.declared.catalogue.rates.Rates.{Rates}
use Rattle.adv_base.specs.Offers.{Offer, OfferTable}
use Rattle.adv_base.specs.Sums.{digits_within, binary_digits}
use Rattle.plan_model.specs.declared.plan.Plan.{Plan}
use Rattle.plan_model.specs.declared.plan.Plan.TheVariants.{Leaf, Sort', Merge', Hash'}
use Rattle.plan_model.specs.declared.task.Task.{Task}
use Rattle.adv_base.specs.OfferTables.{price_at, OfferTableLimits}
use Rattle.plan_model.specs.Plans.{covers, IsValid}
use Rattle.plan_model.specs.Costs.{rows_in, sort_cost, merge_cost, hash_cost}

-- the union of disjoint sets of the task's slots is one
pub union-within : (a b slots : ℕ) → a < 2 ^ slots → b < 2 ^ slots → bit_and a b ≡ 0 → a + b < 2 ^ slots
union-within a b slots ha hb apart = rw (← or_disjoint a b apart) (or_lt slots a b ha hb)

-- the set that a valid plan covers is of the task's slots
pub valid-covers : (sorts : Bool) (task : Task) (table : OfferTable) (plan : Plan) → IsValid sorts task table plan → covers plan < 2 ^ task.slots
valid-covers sorts task table (Leaf slot offer) v = pow-lt v.0
valid-covers sorts task table (Sort' order p input) v = valid-covers false task table input v.1
valid-covers sorts task table (Merge' edge p left q right) v =
    union-within (covers left) (covers right) task.slots (valid-covers true task table left v.0) (valid-covers true task table right v.1) v.2
valid-covers sorts task table (Hash' p left q right) v =
    union-within (covers left) (covers right) task.slots (valid-covers false task table left v.0) (valid-covers false task table right v.1) v.2

-- ## What each operator costs at most

pub digits_within-most : (k n : ℕ) → digits_within k n ≤ k
unfolding digits_within
digits_within-most zero n = omega arith
digits_within-most (suc k) n = let less = digits_within-most k n in grind (arith, nat_tests)

digits_within-few : (k n : ℕ) → n < 2 ^ 40 → digits_within k n ≤ 40
unfolding digits_within
digits_within-few zero n small = omega arith
digits_within-few (suc k) n small =
    elim (cases_lt k 40) [
      | inl less ↦ omega (arith, digits_within-most (suc k) n)
      | inr more ↦
          let large : 2 ^ 40 ≤ 2 ^ k = pow_mono more in
          let rest = digits_within-few k n small in
          grind (arith, nat_tests)
    ]

pub sort_cost-most : (rates : Rates) (rows : ℕ) → rows ≤ 1000000000000 → sort_cost rates rows ≤ 40000000000000000000
unfolding sort_cost binary_digits
sort_cost-most rates rows most =
    let digits = digits_within-few 64 rows (omega arith) in
    let whole : rows * digits_within 64 rows ≤ 1000000000000 * 40 = mul-le-mul most digits in
    let all : rates.sort_cpu * (rows * digits_within 64 rows) ≤ 1000000 * (1000000000000 * 40) = mul-le-mul rates.limits.sort_cpu_most whole in
    omega arith

pub merge_cost-most : (rates : Rates) (l r joined : ℕ) → l ≤ 1000000000000 → r ≤ 1000000000000 → joined ≤ 1000000000000 → merge_cost rates l r joined ≤ 10000000000000000000
unfolding merge_cost
merge_cost-most rates l r joined hl hr hj =
    let both : l + r ≤ 2000000000000 = omega arith in
    let sides : rates.merge_cpu * (l + r) ≤ 1000000 * 2000000000000 = mul-le-mul rates.limits.merge_cpu_most both in
    let out : rates.row_cpu * joined ≤ 1000000 * 1000000000000 = mul-le-mul rates.limits.row_cpu_most hj in
    omega arith

pub hash_cost-most : (rates : Rates) (l r joined : ℕ) → l ≤ 1000000000000 → r ≤ 1000000000000 → joined ≤ 1000000000000 → hash_cost rates l r joined ≤ 10000000000000000000
unfolding hash_cost
hash_cost-most rates l r joined hl hr hj =
    let both : l + 2 * r ≤ 3000000000000 = omega arith in
    let sides : rates.hash_cpu * (l + 2 * r) ≤ 1000000 * 3000000000000 = mul-le-mul rates.limits.hash_cpu_most both in
    let out : rates.row_cpu * joined ≤ 1000000 * 1000000000000 = mul-le-mul rates.limits.row_cpu_most hj in
    omega arith

pub rows_in-most : (task : Task) (set : ℕ) → rows_in task set ≤ 1000000000000
rows_in-most task set =
    elim (cases_lt set (length task.rows)) [
      | inl within ↦ (task.limits.rows_limits set 0 within).most
      | inr past ↦ rw (get_or_past task.rows set 0 past) (omega arith)
    ]

pub price_at-most : (table : OfferTable) (slot offer : ℕ) → OfferTableLimits table → price_at table slot offer ≤ 10000000000000000000
price_at-most table slot offer limits =
    elim (cases_lt offer (length (table slot))) [
      | inl within ↦
          let none : Offer = ([], 0) in
          rw (slice_get-get_or (table slot) offer none within) (limits slot offer none within).price
      | inr past ↦ rw (slice_get_past (table slot) offer past) (omega arith)
    ]

pub set-small : (set slots : ℕ) → set < 2 ^ slots → slots ≤ 8 → set < 256
set-small set slots below few =
    elim (cases_lt slots 8) [ inl less ↦ let most : 2 ^ slots < 2 ^ 8 = pow-lt less in omega arith | inr full ↦ let is : slots ≡ 8 = omega arith in rw is at below ]

-- a plan covers some slot
pub covers_some : (plan : Plan) → 0 < covers plan
covers_some (Leaf slot offer) = one-le-pow slot 2 (omega arith)
covers_some (Sort' order p input) = covers_some input
covers_some (Merge' edge p left q right) = omega (arith, covers_some left, covers_some right)
covers_some (Hash' p left q right) = omega (arith, covers_some left, covers_some right)
