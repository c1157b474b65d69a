-- A valid whole plan costs less than 10^21.
use Rattle.std.proofs.Common.{◌≡◌, inl, inr, ℕ, zero, suc, ◌+◌, ◌*◌, ◌^◌, ◌<◌, ◌≤◌, Bool, true, false, if◌then◌else◌, Option, Some, None, bit_and, refl, sym, ap, ◌∙◌, arith}
use Rattle.std.proofs.Math.Nat.{mul-le-mul}
use Rattle.std.proofs.lemmas.Bool.{cases_lt, false≢true}
use Rattle.std.proofs.lemmas.Nat.Bits.{bit_at-lt, bit_at-pow_same, bit_at-pow_other}
use Rattle.std.specs.Int.{bit_at}
use Rattle.adv_base.specs.declared.catalogue.rates.Rates.{Rates}
use Rattle.adv_base.specs.Items.{Order}
use Rattle.adv_base.specs.Offers.{OfferTable}
use Rattle.plan_model.specs.declared.plan.GroupStep.{GroupStep}
use Rattle.plan_model.specs.declared.plan.GroupStep.TheVariants.{Nothing, Sorted, Hashed}
use Rattle.plan_model.specs.declared.plan.Plan.{Plan}
use Rattle.plan_model.specs.declared.plan.Plan.TheVariants.{Leaf, Sort', Merge', Hash'}
use Rattle.plan_model.specs.declared.plan.Whole.{Whole}
use Rattle.plan_model.specs.declared.task.Task.{Task}
use Rattle.adv_base.specs.OfferTables.{OfferTableLimits}
use Rattle.plan_model.specs.Plans.{covers, IsValid, IsWhole, body_sorts}
use Rattle.plan_model.specs.Costs.{rows_in, sort_cost, plan_cost, group_cost, final_rows, whole_cost}
use Rattle.plan_model.specs.inner.Judging.{plan_judged, JudgedLimits}
use Rattle.plan_model.proofs.Bounds.{valid-covers, rows_in-most, price_at-most, sort_cost-most, merge_cost-most, hash_cost-most}
use Rattle.plan_model.proofs.SetLaws.{bit-sum}

-- ## How many leaves a valid plan has

leaves : Plan → ℕ
leaves (Leaf slot offer) = 1
leaves (Sort' order p input) = leaves input
leaves (Merge' edge p left q right) = leaves left + leaves right
leaves (Hash' p left q right) = leaves left + leaves right

-- the slots below n in a set
members : ℕ → ℕ → ℕ
members zero set = 0
members (suc n) set = members n set + bit_at set n

members-most : (n set : ℕ) → members n set ≤ n
unfolding members
members-most zero set = omega arith
members-most (suc n) set = omega (arith, members-most n set, bit_at-lt set n)

members-sum : (n a b : ℕ) → bit_and a b ≡ 0 → members n (a + b) ≡ members n a + members n b
unfolding members
members-sum zero a b apart = omega arith
members-sum (suc n) a b apart = omega (arith, members-sum n a b apart, bit-sum a b n apart)

members-none : (n slot : ℕ) → n ≤ slot → members n (2 ^ slot) ≡ 0
unfolding members
members-none zero slot below = refl
members-none (suc n) slot below =
    omega (arith, members-none n slot (omega arith), bit_at-pow_other slot n (omega arith))

members-one : (n slot : ℕ) → slot < n → members n (2 ^ slot) ≡ 1
unfolding members
members-one zero slot below = absurd (omega arith)
members-one (suc n) slot below =
    elim (cases_lt slot n) [
      | inl less ↦ omega (arith, members-one n slot less, bit_at-pow_other slot n (omega arith))
      | inr last ↦
          let same : n ≡ slot = omega arith in
          let none = members-none n slot (omega arith) in
          let one : bit_at (2 ^ slot) n ≡ 1 = ap (λ k. bit_at (2 ^ slot) k) same ∙ bit_at-pow_same slot in
          omega (arith, none, one)
    ]

leaves-members : (sorts : Bool) (task : Task) (table : OfferTable) (plan : Plan) → IsValid sorts task table plan → leaves plan ≡ members task.slots (covers plan)
unfolding leaves
leaves-members sorts task table (Leaf slot offer) v = sym (members-one task.slots slot v.0)
leaves-members sorts task table (Sort' order p input) v = leaves-members false task table input v.1
leaves-members sorts task table (Merge' edge p left q right) v =
    omega (arith, leaves-members true task table left v.0, leaves-members true task table right v.1, members-sum task.slots (covers left) (covers right) v.2)
leaves-members sorts task table (Hash' p left q right) v =
    omega (arith, leaves-members false task table left v.0, leaves-members false task table right v.1, members-sum task.slots (covers left) (covers right) v.2)

leaves-most : (sorts : Bool) (task : Task) (table : OfferTable) (plan : Plan) → IsValid sorts task table plan → leaves plan ≤ 8
leaves-most sorts task table plan v =
    omega (arith, leaves-members sorts task table plan v, members-most task.slots (covers plan), task.limits.slots_most)

-- ## What a plan costs at most

-- what is left of a bound for a sort, or for a join above two sorts
spare : Bool → ℕ
spare true = 50000000000000000000
spare false = 90000000000000000000

spare-most : (sorts : Bool) → spare sorts ≤ 90000000000000000000
unfolding spare
spare-most true = omega arith
spare-most false = omega arith

plan_cost-most : (sorts : Bool) (task : Task) (table : OfferTable) (plan : Plan) → OfferTableLimits table → IsValid sorts task table plan → plan_cost task table plan + spare sorts ≤ 100000000000000000000 * leaves plan
unfolding spare leaves
plan_cost-most sorts task table (Leaf slot offer) limits v = omega (arith, price_at-most table slot offer limits, spare-most sorts)
plan_cost-most false task table (Sort' order p input) limits v = absurd (false≢true v.0)
plan_cost-most true task table (Sort' order p input) limits v =
    omega (arith, plan_cost-most false task table input limits v.1, sort_cost-most task.rates (rows_in task (covers input)) (rows_in-most task (covers input)))
plan_cost-most sorts task table (Merge' edge p left q right) limits v =
    omega (arith, plan_cost-most true task table left limits v.0, plan_cost-most true task table right limits v.1, spare-most sorts, merge_cost-most task.rates (rows_in task (covers left)) (rows_in task (covers right)) (rows_in task (covers left + covers right)) (rows_in-most task (covers left)) (rows_in-most task (covers right)) (rows_in-most task (covers left + covers right)))
plan_cost-most sorts task table (Hash' p left q right) limits v =
    omega (arith, plan_cost-most false task table left limits v.0, plan_cost-most false task table right limits v.1, spare-most sorts, hash_cost-most task.rates (rows_in task (covers left)) (rows_in task (covers right)) (rows_in task (covers left + covers right)) (rows_in-most task (covers left)) (rows_in-most task (covers right)) (rows_in-most task (covers left + covers right)))

group_cost-most : (rates : Rates) (step : GroupStep) (rows : ℕ) → rows ≤ 1000000000000 → group_cost rates step rows ≤ 2000000000000000000
group_cost-most rates Nothing rows most = omega arith
group_cost-most rates Sorted rows most =
    let all : rates.group_cpu * rows ≤ 1000000 * 1000000000000 = mul-le-mul rates.limits.group_cpu_most most in
    omega arith
group_cost-most rates Hashed rows most =
    let all : rates.hash_cpu * rows ≤ 1000000 * 1000000000000 = mul-le-mul rates.limits.hash_cpu_most most in
    omega arith

final_rows-most : (task : Task) (group : Option Order) (rows : ℕ) → rows ≤ 1000000000000 → final_rows task group rows ≤ 1000000000000
final_rows-most task None rows most = most
final_rows-most task (Some group) rows most = task.limits.group_rows_limits.most

final-most : (task : Task) (last : Bool) (rows : ℕ) → rows ≤ 1000000000000 → (if last then sort_cost task.rates (final_rows task task.group rows) else 0) ≤ 40000000000000000000
final-most task true rows most = sort_cost-most task.rates (final_rows task task.group rows) (final_rows-most task task.group rows most)
final-most task false rows most = omega arith

-- eight leaves, and what stands above them
pub valid-most : (sorts : Bool) (task : Task) (table : OfferTable) (plan : Plan) → OfferTableLimits table → IsValid sorts task table plan → plan_cost task table plan ≤ 800000000000000000000
valid-most sorts task table plan limits v =
    omega (arith, plan_cost-most sorts task table plan limits v, leaves-most sorts task table plan v)

-- what is found of a valid plan keeps its limits
pub judged-limits : (sorts : Bool) (task : Task) (table : OfferTable) (plan : Plan) → OfferTableLimits table → IsValid sorts task table plan → JudgedLimits task (plan_judged task table plan)
judged-limits sorts task table plan limits v =
    record { within = valid-covers sorts task table plan v; most = omega (arith, valid-most sorts task table plan limits v) }

-- a valid whole plan costs less than 10^21
pub whole_cost-most : (task : Task) (table : OfferTable) (whole : Whole) → OfferTableLimits table → IsWhole task table whole → whole_cost task table whole < 1000000000000000000000
whole_cost-most task table whole limits v =
    let rows = rows_in-most task (covers whole.body) in
    omega (arith, plan_cost-most (body_sorts whole.group) task table whole.body limits v.body_valid, leaves-most (body_sorts whole.group) task table whole.body v.body_valid, group_cost-most task.rates whole.group (rows_in task (covers whole.body)) rows, final-most task whole.final_sort (rows_in task (covers whole.body)) rows)
