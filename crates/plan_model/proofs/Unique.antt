-- A block has one task, and each cost is one number.
use Rattle.std.proofs.Common.{◌≡◌, ◌↔◌, ℕ, suc, ◌+◌, ◌*◌, List, [], ◌∷◌, Option, ℤ, pos, negsuc, refl, sym, ap, ◌∙◌, subst, arith}
use Rattle.std.proofs.Math.Path.{fun_ext}
use denote.Struct.Props.{props}
use mathlib.Core.HLevel.{is_prop→PathP}
use Rattle.adv_base.specs.declared.catalogue.Catalogue.{Catalogue}
use Rattle.adv_base.specs.declared.catalogue.index.IndexShape.{IndexShape}
use Rattle.adv_base.specs.declared.setting.Config.{Config}
use Rattle.adv_base.specs.declared.workload.Statement.{Statement}
use Rattle.adv_base.specs.declared.workload.Work.{Work}
use Rattle.adv_base.specs.declared.workload.Work.TheVariants.{Select, Update, Delete, Insert}
use Rattle.adv_base.specs.declared.workload.block.Block.{Block}
use Rattle.adv_base.specs.declared.workload.parts.Item.{Item}
use Rattle.adv_base.specs.Nodes.{Node, available}
use Rattle.adv_base.specs.Offers.{OfferTable, offers, charged_offers}
use Rattle.adv_base.specs.Settings.{TheSetting}
use Rattle.plan_model.specs.declared.edge.TaskEdge.{TaskEdge}
use Rattle.adv_base.proofs.OfferLaws.{uncharged}
use Rattle.plan_model.specs.declared.task.Task.{Task}
use Rattle.plan_model.specs.Limits.Tasks.{TaskLimits}
use Rattle.plan_model.specs.Least.{Least}
use Rattle.plan_model.specs.BlockTask.{IsTaskOf}
use Rattle.plan_model.specs.Lagrangian.{TheMultipliers, IsRentedCost, IsRentedPlan, AreRentedPlans, weighted_kept, costs_inside, earnings, IsRoundedUp, IsLagrangian}
use Rattle.plan_model.specs.Totals.{IsBlockCost, IsPlanCost, IsCost, AreCosts, weighted_sum, IsTotal}
use Rattle.plan_model.proofs.Comparing.{least-one}

-- ## Tasks

limits_prop : (slots : ℕ) (edges : List TaskEdge) (rows : List ℕ) (group : Option (List Item)) (group_rows : ℕ) (order : List Item) → IsProp (TaskLimits slots edges rows group group_rows order)
limits_prop slots edges rows group group_rows order = hlevel props

-- tasks with the same parts are the same
same_task : (a b : Task) → a.slots ≡ b.slots → a.edges ≡ b.edges → a.rows ≡ b.rows → a.group ≡ b.group → a.group_rows ≡ b.group_rows → a.order ≡ b.order → a.rates ≡ b.rates → a ≡ b
same_task a b slots edges rows group group_rows order rates =
    let limits = is_prop→PathP (λ i. TaskLimits (slots i) (edges i) (rows i) (group i) (group_rows i) (order i)) (λ i. limits_prop (slots i) (edges i) (rows i) (group i) (group_rows i) (order i)) a.limits b.limits in
    λ i. record { slots = slots i; edges = edges i; rows = rows i; group = group i; group_rows = group_rows i; order = order i; rates = rates i; limits = limits i }

pub one-task : (cat : Catalogue) (block : Block) (first second : Task) → IsTaskOf cat block first → IsTaskOf cat block second → first ≡ second
one-task cat block first second a b =
    same_task first second (a.slots_are ∙ sym b.slots_are) (a.edges_are ∙ sym b.edges_are) (a.rows_are ∙ sym b.rows_are) (a.group_is ∙ sym b.group_is) (a.group_rows_are ∙ sym b.group_rows_are) (a.order_is ∙ sym b.order_is) (a.rates_are ∙ sym b.rates_are)

-- ## Costs

pub one-block_cost : (cat : Catalogue) (shapes : List IndexShape) (config : Config) (block : Block) (first second : ℕ) → IsBlockCost cat shapes config block first → IsBlockCost cat shapes config block second → first ≡ second
one-block_cost cat shapes config block first second a b =
    let table = offers cat block shapes config in
    least-one b.task table first second (subst (λ t. Least t table first) (one-task cat block a.task b.task a.task_is b.task_is) a.least) b.least

one-plan_cost : (cat : Catalogue) (shapes : List IndexShape) (config : Config) (work : Work) (first second : ℕ) → IsPlanCost cat shapes config work first → IsPlanCost cat shapes config work second → first ≡ second
one-plan_cost cat shapes config (Select block) first second a b = one-block_cost cat shapes config block first second a b
one-plan_cost cat shapes config (Update block columns) first second a b = one-block_cost cat shapes config block first second a b
one-plan_cost cat shapes config (Delete block) first second a b = one-block_cost cat shapes config block first second a b
one-plan_cost cat shapes config (Insert table rows) first second a b = a ∙ sym b

pub one-cost : (cat : Catalogue) (shapes : List IndexShape) (config : Config) (work : Work) (first second : ℕ) → IsCost cat shapes config work first → IsCost cat shapes config work second → first ≡ second
one-cost cat shapes config work first second a b =
    let plans : a.plan ≡ b.plan = one-plan_cost cat shapes config work a.plan b.plan a.plan_is b.plan_is in
    omega (arith, plans, a.sum, b.sum)

one-costs : (cat : Catalogue) (shapes : List IndexShape) (config : Config) (statements : List Statement) (first second : List ℕ) → AreCosts cat shapes config statements first → AreCosts cat shapes config statements second → first ≡ second
one-costs cat shapes config [] [] [] a b = refl
one-costs cat shapes config [] [] (y ∷ ys) a b = absurd b
one-costs cat shapes config [] (x ∷ xs) second a b = absurd a
one-costs cat shapes config (statement ∷ statements) [] second a b = absurd a
one-costs cat shapes config (statement ∷ statements) (x ∷ xs) [] a b = absurd b
one-costs cat shapes config (statement ∷ statements) (x ∷ xs) (y ∷ ys) a b =
    let here : x ≡ y = one-cost cat shapes config statement.work x y a.0 b.0 in
    let later : xs ≡ ys = one-costs cat shapes config statements xs ys a.1 b.1 in
    cc

pub one-total : (cat : Catalogue) (shapes : List IndexShape) (config : Config) (statements : List Statement) (first second : ℕ) → IsTotal cat shapes config statements first → IsTotal cat shapes config statements second → first ≡ second
one-total cat shapes config statements first second a b =
    a.sum ∙ ap (weighted_sum statements) (one-costs cat shapes config statements a.costs b.costs a.costs_are b.costs_are) ∙ sym b.sum

-- ## Lagrangian values

one-rented : (setting : TheSetting) (config : Config) (rent : ℕ → ℕ → ℕ) (block : Block) (first second : ℕ) → IsRentedCost setting config rent block first → IsRentedCost setting config rent block second → first ≡ second
one-rented setting config rent block first second a b =
    let table = charged_offers rent setting.cat block setting.shapes config in
    least-one b.task table first second (subst (λ t. Least t table first) (one-task setting.cat block a.task b.task a.task_is b.task_is) a.least) b.least

one-rented_plan : (setting : TheSetting) (config : Config) (rent : ℕ → ℕ → ℕ) (work : Work) (first second : ℕ) → IsRentedPlan setting config rent work first → IsRentedPlan setting config rent work second → first ≡ second
one-rented_plan setting config rent (Select block) first second a b = one-rented setting config rent block first second a b
one-rented_plan setting config rent (Update block columns) first second a b = one-rented setting config rent block first second a b
one-rented_plan setting config rent (Delete block) first second a b = one-rented setting config rent block first second a b
one-rented_plan setting config rent (Insert table rows) first second a b = a ∙ sym b

one-rented_plans : (setting : TheSetting) (config : Config) (rent : ℕ → ℕ → ℕ → ℕ) (q : ℕ) (statements : List Statement) (first second : List ℕ) → AreRentedPlans setting config rent q statements first → AreRentedPlans setting config rent q statements second → first ≡ second
one-rented_plans setting config rent q [] [] [] a b = refl
one-rented_plans setting config rent q [] [] (y ∷ ys) a b = absurd b
one-rented_plans setting config rent q [] (x ∷ xs) second a b = absurd a
one-rented_plans setting config rent q (statement ∷ statements) [] second a b = absurd a
one-rented_plans setting config rent q (statement ∷ statements) (x ∷ xs) [] a b = absurd b
one-rented_plans setting config rent q (statement ∷ statements) (x ∷ xs) (y ∷ ys) a b =
    let here : x ≡ y = one-rented_plan setting config (rent q) statement.work x y a.0 b.0 in
    let later : xs ≡ ys = one-rented_plans setting config rent (suc q) statements xs ys a.1 b.1 in
    cc

one-rounded : (more less : ℕ) (first second : ℤ) → IsRoundedUp more less first → IsRoundedUp more less second → first ≡ second
one-rounded more less (pos n) (pos m) a b = ap pos (omega (arith, a.0, a.1, b.0, b.1))
one-rounded more less (pos n) (negsuc m) a b = absurd (omega (arith, a.0, a.1, b.0, b.1))
one-rounded more less (negsuc n) (pos m) a b = absurd (omega (arith, a.0, a.1, b.0, b.1))
one-rounded more less (negsuc n) (negsuc m) a b = ap negsuc (omega (arith, a.0, a.1, b.0, b.1))

pub one-lagrangian : (setting : TheSetting) (budget : ℕ) (node : Node) (multipliers : TheMultipliers) (first second : ℤ) → IsLagrangian setting budget node multipliers first → IsLagrangian setting budget node multipliers second → first ≡ second
one-lagrangian setting budget node multipliers first second a b =
    let config = available setting.cat setting.shapes budget node in
    let same : a.costs ≡ b.costs = one-rented_plans setting config multipliers.rent 1 setting.statements a.costs b.costs a.costs_are b.costs_are in
    let less = earnings setting multipliers budget node 1 setting.shapes + multipliers.page * budget in
    let more : List ℕ → ℕ = λ costs. 65536 * (weighted_sum setting.statements costs + weighted_kept setting) + costs_inside setting multipliers node 1 setting.shapes in
    one-rounded (more b.costs) less first second (subst (λ costs. IsRoundedUp (more costs) less first) same a.value_is) b.value_is

-- ## No rents

unrented-table : (setting : TheSetting) (config : Config) (block : Block) → charged_offers (λ slot candidate. 0) setting.cat block setting.shapes config ≡ offers setting.cat block setting.shapes config
unrented-table setting config block = fun_ext (uncharged setting.cat block setting.shapes config)

pub unrented-plain : (setting : TheSetting) (config : Config) (block : Block) (cost : ℕ) → IsRentedCost setting config (λ slot candidate. 0) block cost ↔ IsBlockCost setting.cat setting.shapes config block cost
unrented-plain setting config block cost = (
  λ a. record { task = a.task; task_is = a.task_is; least = subst (λ (table : OfferTable). Least a.task table cost) (unrented-table setting config block) a.least },
  λ b. record { task = b.task; task_is = b.task_is; least = subst (λ (table : OfferTable). Least b.task table cost) (sym (unrented-table setting config block)) b.least },
)
