-- A workload's total is less than 10^31.
use Rattle.std.proofs.Common.{◌≡◌, ℕ, ◌*◌, ◌<◌, ◌≤◌, List, [], ◌∷◌, length, Some, refl, arith}
use Rattle.std.proofs.Math.Nat.{mul-le-mul}
use Rattle.std.proofs.lemmas.List.Elements.{All-head, All-tail}
use Rattle.adv_base.specs.declared.catalogue.Catalogue.{Catalogue}
use Rattle.adv_base.specs.declared.catalogue.index.IndexShape.{IndexShape}
use Rattle.adv_base.specs.declared.limits.TheConstants.{MOST_CANDIDATES, MOST_STATEMENTS}
use Rattle.adv_base.specs.declared.setting.Config.{Config}
use Rattle.adv_base.specs.declared.workload.Statement.{Statement}
use Rattle.adv_base.specs.declared.workload.Work.{Work}
use Rattle.adv_base.specs.declared.workload.Work.TheVariants.{Select, Update, Delete, Insert}
use Rattle.adv_base.specs.declared.workload.block.Block.{Block}
use Rattle.adv_base.specs.Offers.{offers}
use Rattle.adv_base.specs.OfferTables.{OfferTableLimits}
use Rattle.adv_base.proofs.UpkeepBounds.{kept_upkeep-most, config_upkeep-most}
use Rattle.plan_model.specs.declared.plan.TheConstants.{MOST_COST, MOST_TOTAL}
use Rattle.plan_model.specs.Totals.{block_of, IsBlockCost, IsPlanCost, IsCost, AreCosts, weighted_sum, IsTotal, OffersKeepLimits}
use Rattle.plan_model.proofs.CostBound.{whole_cost-most}

block-most : (cat : Catalogue) (shapes : List IndexShape) (config : Config) (block : Block) (cost : ℕ) → OfferTableLimits (offers cat block shapes config) → IsBlockCost cat shapes config block cost → cost < MOST_COST
block-most cat shapes config block cost limits is =
    let plan = is.least.plan in
    omega (arith, whole_cost-most is.task (offers cat block shapes config) plan.whole limits plan.valid, plan.costs)

plan-most : (cat : Catalogue) (shapes : List IndexShape) (config : Config) (work : Work) (cost : ℕ) → ((block : Block) → block_of work ≡ Some block → OfferTableLimits (offers cat block shapes config)) → IsPlanCost cat shapes config work cost → cost < MOST_COST
plan-most cat shapes config (Select block) cost limits is = block-most cat shapes config block cost (limits block refl) is
plan-most cat shapes config (Update block columns) cost limits is = block-most cat shapes config block cost (limits block refl) is
plan-most cat shapes config (Delete block) cost limits is = block-most cat shapes config block cost (limits block refl) is
plan-most cat shapes config (Insert table rows) cost limits is = omega (arith, is)

cost-most : (cat : Catalogue) (shapes : List IndexShape) (config : Config) (statement : Statement) (cost : ℕ) → length shapes ≤ MOST_CANDIDATES → ((block : Block) → block_of statement.work ≡ Some block → OfferTableLimits (offers cat block shapes config)) → IsCost cat shapes config statement.work cost → statement.weight * cost ≤ 1000000 * 8536000000000000000000
cost-most cat shapes config statement cost few limits is =
    let plan = plan-most cat shapes config statement.work is.plan limits is.plan_is in
    let kept = kept_upkeep-most cat statement.weight statement.work statement.limits in
    let chosen = config_upkeep-most cat shapes config statement.weight statement.work statement.limits few in
    let whole : cost ≤ 8536000000000000000000 = omega (arith, plan, kept, chosen, is.sum) in
    mul-le-mul statement.limits.weight_most whole

costs-most : (cat : Catalogue) (shapes : List IndexShape) (config : Config) (statements : List Statement) (costs : List ℕ) → length shapes ≤ MOST_CANDIDATES → OffersKeepLimits cat shapes config statements → AreCosts cat shapes config statements costs → weighted_sum statements costs ≤ length statements * (1000000 * 8536000000000000000000)
costs-most cat shapes config [] [] few limits are = omega arith
costs-most cat shapes config [] (cost ∷ costs) few limits are = absurd are
costs-most cat shapes config (statement ∷ statements) [] few limits are = absurd are
costs-most cat shapes config (statement ∷ statements) (cost ∷ costs) few limits are =
    let first = All-head (λ (s : Statement). (block : Block) → block_of s.work ≡ Some block → OfferTableLimits (offers cat block shapes config)) statement statements limits in
    let rest = All-tail (λ (s : Statement). (block : Block) → block_of s.work ≡ Some block → OfferTableLimits (offers cat block shapes config)) statement statements limits in
    let here : statement.weight * cost ≤ 1000000 * 8536000000000000000000 = cost-most cat shapes config statement cost few first are.0 in
    let later : weighted_sum statements costs ≤ length statements * (1000000 * 8536000000000000000000) = costs-most cat shapes config statements costs few rest are.1 in
    omega (arith, here, later)

pub total-below : (cat : Catalogue) (shapes : List IndexShape) (config : Config) (statements : List Statement) (total : ℕ) → length shapes ≤ MOST_CANDIDATES → length statements ≤ MOST_STATEMENTS → OffersKeepLimits cat shapes config statements → IsTotal cat shapes config statements total → total < MOST_TOTAL
total-below cat shapes config statements total few most limits is =
    let sum = costs-most cat shapes config statements is.costs few limits is.costs_are in
    omega (arith, sum, most, is.sum)
