-- At a node where no open candidate is useful, the Lagrangian value without rents is the total of what is in.
use Rattle.std.proofs.Common.{◌≡◌, ◌∙◌, ℕ, zero, suc, ◌+◌, ◌-◌, ◌*◌, ◌<◌, ◌≤◌, Bool, true, false, cond, ◌==◌, List, [], ◌∷◌, length, map, sum, All, ℤ, pos, negsuc, refl, sym, ap, subst, arith}
use Rattle.std.specs.Prelude.{Option, Some, None, if◌then◌else◌, slice_get}
use Rattle.std.specs.Option.{option_map_or}
use Rattle.std.proofs.Math.Nat.{mul-add}
use Rattle.std.proofs.lemmas.Bool.{false≢true, or_left}
use Rattle.std.proofs.lemmas.List.Elements.{All-head, All-tail}
use Rattle.adv_base.specs.declared.catalogue.index.IndexShape.{IndexShape}
use Rattle.adv_base.specs.declared.limits.TheConstants.{MOST_CANDIDATES}
use Rattle.adv_base.specs.declared.setting.Config.{Config}
use Rattle.adv_base.specs.declared.workload.Statement.{Statement}
use Rattle.adv_base.specs.declared.workload.Work.{Work}
use Rattle.adv_base.specs.declared.workload.Work.TheVariants.{Select, Update, Delete, Insert}
use Rattle.adv_base.specs.declared.workload.block.Block.{Block}
use Rattle.adv_base.specs.declared.workload.parts.Slot.{Slot}
use Rattle.adv_base.specs.Configs.{has_candidate, IsConfigOf, chosen}
use Rattle.adv_base.specs.Laws.{IsRent}
use Rattle.adv_base.specs.Named.{NamesBlock, NamesWork}
use Rattle.adv_base.specs.Nodes as nodes
use Rattle.adv_base.specs.Nodes.{is_open, is_available, available}
use Rattle.adv_base.specs.Offers.{offers}
use Rattle.adv_base.specs.Settings.{TheSetting, KeepsLimits}
use Rattle.adv_base.specs.Sizes.{shape_pages}
use Rattle.adv_base.proofs.ConfigLaws.{config_of-has}
use Rattle.adv_base.proofs.OfferBounds.{offers-limits}
use Rattle.plan_model.specs.declared.task.Task.{Task}
use Rattle.plan_model.specs.Least.{Least}
use Rattle.plan_model.specs.Lagrangian.{IsRentedCost, IsRentedPlan, AreRentedPlans, IsWithin, weighted_upkeep, weighted_kept, slot_rents, weighted_rents, candidate_cost, candidate_rents, costs_inside, earnings, IsRoundedUp, IsLagrangian}
use Rattle.plan_model.specs.Totals.{block_of, IsBlockCost, IsPlanCost, AreCosts, weighted_sum, IsTotal}
use Rattle.plan_model.proofs.Comparing.{least-never-rises}
use Rattle.plan_model.proofs.Renting.{flag-of}
use Rattle.plan_model.proofs.Sums.{total, passing, chosen-passing}
use Rattle.plan_model.proofs.Unique.{one-task, unrented-plain}
use Rattle.plan_model.proofs.Duality.{flags-are, flag-found}
use Rattle.bip_model.specs.Trees.{zeros}
use Rattle.bip_model.specs.Laws.{NoneUseful}
use Rattle.bip_model.proofs.Fixing.{rented-more}
use Rattle.bip_model.proofs.Totalling.{named-of, written, written-upkeep, chosen-sum}
use Rattle.bip_model.proofs.Useless.{IsBlockOf, no-dearer}

-- ## Plans cost the same

inside-available : (setting : TheSetting) (budget : ℕ) (node : nodes.Node) → KeepsLimits setting → IsConfigOf setting.shapes node.inside → IsWithin node.inside (available setting.cat setting.shapes budget node)
inside-available setting budget node limits is zero on = absurd (false≢true on)
inside-available setting budget node limits is (suc i) on =
    let inside : i < length setting.shapes = is i (flag-found node.inside.on i (sym (flag-of node.inside i) ∙ on)) in
    let few : length setting.shapes ≤ MOST_CANDIDATES = limits.shapes_most in
    config_of-has (is_available setting.cat setting.shapes budget node) (suc i) (omega arith) (omega (arith, inside, few))
    ∙ or_left (has_candidate node.inside (suc i)) (is_open setting.cat setting.shapes budget node (suc i)) on

no_rent : IsRent (λ s a. 0)
no_rent = λ s a. omega arith

block-same : (setting : TheSetting) (budget : ℕ) (node : nodes.Node) (block : Block) (rented plan : ℕ) → KeepsLimits setting → IsConfigOf setting.shapes node.inside → NoneUseful setting budget node →
    NamesBlock setting.cat block → IsBlockOf setting block → IsRentedCost setting (available setting.cat setting.shapes budget node) (λ s a. 0) block rented → IsBlockCost setting.cat setting.shapes node.inside block plan → rented ≡ plan
block-same setting budget node block rented plan limits is none named of' a b =
    let many : Config = available setting.cat setting.shapes budget node in
    let within = inside-available setting budget node limits is in
    let own : IsRentedCost setting node.inside (λ s c. 0) block plan = (unrented-plain setting node.inside block plan).1 b in
    let less : rented ≤ plan = rented-more setting node.inside many (λ s c. 0) block plan rented no_rent within own a in
    let all : IsBlockCost setting.cat setting.shapes many block rented = (unrented-plain setting many block rented).0 a in
    let same : b.task ≡ all.task = one-task setting.cat block b.task all.task b.task_is all.task_is in
    let least : Least all.task (offers setting.cat block setting.shapes node.inside) plan = subst (λ (t : Task). Least t (offers setting.cat block setting.shapes node.inside) plan) same b.least in
    let more : plan ≤ rented =
    least-never-rises all.task (offers setting.cat block setting.shapes many) (offers setting.cat block setting.shapes node.inside) rented plan (offers-limits setting.cat block setting.shapes many)
    (no-dearer setting budget node block all.task named of' all.task_is none) all.least least in
    omega (arith, less, more)

-- a statement of the setting
record IsStatementOf (setting : TheSetting) (statement : Statement) : Type 0 where
  number : ℕ
  found : slice_get setting.statements number ≡ Some statement

plan-same : (setting : TheSetting) (budget : ℕ) (node : nodes.Node) (statement : Statement) (rented plan : ℕ) → KeepsLimits setting → IsConfigOf setting.shapes node.inside → NoneUseful setting budget node →
    NamesWork setting.cat statement.work → IsStatementOf setting statement → IsRentedPlan setting (available setting.cat setting.shapes budget node) (λ s a. 0) statement.work rented →
    IsPlanCost setting.cat setting.shapes node.inside statement.work plan → rented ≡ plan
plan-same setting budget node statement rented plan limits is none named of' a b = by-work statement.work refl a b
  where
    block-of : (block : Block) → block_of statement.work ≡ Some block → IsRentedCost setting (available setting.cat setting.shapes budget node) (λ s a. 0) block rented → IsBlockCost setting.cat setting.shapes node.inside block plan → rented ≡ plan
    block-of block has x y =
        block-same setting budget node block rented plan limits is none (named-of setting.cat statement.work block named has)
        (record { number = of'.number; statement = statement; found = of'.found; is = has }) x y

    by-work : (work : Work) → statement.work ≡ work → IsRentedPlan setting (available setting.cat setting.shapes budget node) (λ s a. 0) work rented → IsPlanCost setting.cat setting.shapes node.inside work plan → rented ≡ plan
    by-work (Select block) same x y = block-of block (ap block_of same) x y
    by-work (Update block columns) same x y = block-of block (ap block_of same) x y
    by-work (Delete block) same x y = block-of block (ap block_of same) x y
    by-work (Insert table rows) same x y = x ∙ sym y

costs-same : (setting : TheSetting) (budget : ℕ) (node : nodes.Node) → KeepsLimits setting → IsConfigOf setting.shapes node.inside → NoneUseful setting budget node →
    (q : ℕ) (statements : List Statement) (rented costs : List ℕ) → All (λ statement. NamesWork setting.cat statement.work) statements → ((i : ℕ) (statement : Statement) → slice_get statements i ≡ Some statement → IsStatementOf setting statement) →
    AreRentedPlans setting (available setting.cat setting.shapes budget node) zeros.rent q statements rented → AreCosts setting.cat setting.shapes node.inside statements costs →
    weighted_sum statements costs ≡ weighted_sum statements rented + total (λ statement. statement.weight * written setting node.inside statement) statements
unfolding written
costs-same setting budget node limits is none q [] [] [] named of' a b = refl
costs-same setting budget node limits is none q [] [] (y ∷ ys) named of' a b = absurd b
costs-same setting budget node limits is none q [] (x ∷ xs) costs named of' a b = absurd a
costs-same setting budget node limits is none q (statement ∷ statements) [] costs named of' a b = absurd a
costs-same setting budget node limits is none q (statement ∷ statements) (x ∷ xs) [] named of' a b = absurd b
costs-same setting budget node limits is none q (statement ∷ statements) (x ∷ xs) (y ∷ ys) named of' a b =
    let here : x ≡ b.0.plan = plan-same setting budget node statement x b.0.plan limits is none (All-head (λ (s : Statement). NamesWork setting.cat s.work) statement statements named) (of' 0 statement refl) a.0 b.0.plan_is in
    let rest = costs-same setting budget node limits is none (suc q) statements xs ys (All-tail (λ (s : Statement). NamesWork setting.cat s.work) statement statements named) (λ i other found. of' (suc i) other found) a.1 b.1 in
    let cost : y ≡ x + written setting node.inside statement = omega (arith, here, b.0.sum) in
    let split : statement.weight * (x + written setting node.inside statement) ≡ statement.weight * x + statement.weight * written setting node.inside statement = mul-add statement.weight x (written setting node.inside statement) in
    let weighted : statement.weight * y ≡ statement.weight * (x + written setting node.inside statement) = ap (λ (n : ℕ). statement.weight * n) cost in
    omega (arith, rest, split, weighted)

-- ## Candidates cost their upkeep, and earn nothing

inside-passing : (setting : TheSetting) (node : nodes.Node) (a : ℕ) (shapes : List IndexShape) → costs_inside setting zeros node a shapes ≡ 65536 * passing (has_candidate node.inside) (λ k shape. weighted_upkeep setting shape) a shapes
inside-passing setting node a [] = refl
inside-passing setting node a (shape ∷ shapes) =
    let rest = inside-passing setting node (suc a) shapes in
    let here : (if has_candidate node.inside a then candidate_cost setting zeros shape else 0) ≡ 65536 * cond (has_candidate node.inside a) (weighted_upkeep setting shape) 0 = one (has_candidate node.inside a) (weighted_upkeep setting shape) (shape_pages setting.cat shape) in
    omega (arith, rest, here)
  where
    one : (b : Bool) (u p : ℕ) → (if b then 65536 * u + 0 * p else 0) ≡ 65536 * cond b u 0
    one true u p = omega arith
    one false u p = omega arith

no-slot_rents : (t s : ℕ) (slots : List Slot) → slot_rents (λ s. 0) t s slots ≡ 0
no-slot_rents t s [] = refl
no-slot_rents t s (slot ∷ slots) =
    let rest = no-slot_rents t (suc s) slots in
    let here : ◌≡◌ {A = ℕ} (if slot.table == t then 0 else 0) 0 = either-way (slot.table == t) in
    omega (arith, rest, here)
  where
    either-way : (b : Bool) → ◌≡◌ {A = ℕ} (if b then 0 else 0) 0
    either-way true = refl
    either-way false = refl

no-block_rents : (t : ℕ) (there : Option Block) → option_map_or (λ block. slot_rents (λ s. 0) t 0 block.slots) there 0 ≡ 0
no-block_rents t None = refl
no-block_rents t (Some block) = no-slot_rents t 0 block.slots

no-rents : (t q : ℕ) (statements : List Statement) → weighted_rents (λ q s. 0) t q statements ≡ 0
no-rents t q [] = refl
no-rents t q (statement ∷ statements) =
    let rest = no-rents t (suc q) statements in
    let here = ap (λ (n : ℕ). statement.weight * n) (no-block_rents t (block_of statement.work)) in
    omega (arith, rest, here)

no-earnings : (setting : TheSetting) (budget : ℕ) (node : nodes.Node) (a : ℕ) (shapes : List IndexShape) → earnings setting zeros budget node a shapes ≡ 0
no-earnings setting budget node a [] = refl
no-earnings setting budget node a (shape ∷ shapes) =
    let rest = no-earnings setting budget node (suc a) shapes in
    let rents : candidate_rents setting zeros a shape ≡ 0 = let none = no-rents shape.table 1 setting.statements in omega (arith, none) in
    let here = one (has_candidate node.inside a) (is_open setting.cat setting.shapes budget node a) (candidate_rents setting zeros a shape) (candidate_cost setting zeros shape) rents in
    omega (arith, rest, here)
  where
    one : (b c : Bool) (r k : ℕ) → r ≡ 0 → (if b then r else if c then r - k else 0) ≡ 0
    one true c r k none = none
    one false true r k none = omega (arith, none)
    one false false r k none = refl

exact : (more less count : ℕ) (value : ℤ) → IsRoundedUp more less value → more ≡ 65536 * count → less ≡ 0 → value ≡ pos count
exact more less count (pos n) is m l = ap pos (omega (arith, is.0, is.1, m, l))
exact more less count (negsuc n) is m l = absurd (omega (arith, is.0, is.1, m, l))

pub useless-total : (setting : TheSetting) (budget : ℕ) (node : nodes.Node) (value : ℤ) (count : ℕ) → KeepsLimits setting → IsConfigOf setting.shapes node.inside → NoneUseful setting budget node →
    IsLagrangian setting budget node zeros value → IsTotal setting.cat setting.shapes node.inside setting.statements count → value ≡ pos count
useless-total setting budget node value count limits is none lag cost =
    let costs = costs-same setting budget node limits is none 1 setting.statements lag.costs cost.costs limits.statements_named (λ i statement found. record { number = i; found = found }) lag.costs_are cost.costs_are in
    let indexes = written-upkeep setting node.inside in
    let inside = inside-passing setting node 1 setting.shapes in
    let picked : passing (has_candidate node.inside) (λ k shape. weighted_upkeep setting shape) 1 setting.shapes ≡ sum (chosen node.inside.on (map (weighted_upkeep setting) setting.shapes)) =
    sym (chosen-passing (has_candidate node.inside) (weighted_upkeep setting) 1 node.inside.on setting.shapes (flags-are node.inside)) ∙ sym (chosen-sum (weighted_upkeep setting) node.inside.on setting.shapes) in
    let earned = no-earnings setting budget node 1 setting.shapes in
    exact
    (65536 * (weighted_sum setting.statements lag.costs + weighted_kept setting) + costs_inside setting zeros node 1 setting.shapes)
    (earnings setting zeros budget node 1 setting.shapes + 0 * budget) count value lag.value_is
    (omega (arith, costs, indexes, inside, picked, cost.sum)) (omega (arith, earned))
