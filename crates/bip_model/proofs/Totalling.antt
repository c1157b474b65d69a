-- The value of a programme that stands for a setting is the total of the setting's workload.
use Rattle.std.proofs.Common.{◌≡◌, ◌∙◌, ℕ, suc, ◌+◌, ◌*◌, Bool, true, false, List, [], ◌∷◌, map, All, fold, refl, sym, ap, subst, arith}
use Rattle.std.specs.Prelude.{Option, Some, None, sum, sum_by}
use Rattle.std.proofs.Math.Nat.{mul-add}
use Rattle.std.proofs.lemmas.List.Elements.{All-head, All-tail}
use Rattle.adv_base.specs.declared.catalogue.Catalogue.{Catalogue}
use Rattle.adv_base.specs.declared.catalogue.index.IndexShape.{IndexShape}
use Rattle.adv_base.specs.declared.setting.Config.{Config}
use Rattle.adv_base.specs.declared.workload.Statement.{Statement}
use Rattle.adv_base.specs.declared.workload.Work.{Work}
use Rattle.adv_base.specs.declared.workload.Work.TheVariants.{Select, Update, Delete, Insert}
use Rattle.adv_base.specs.declared.workload.block.Block.{Block}
use Rattle.adv_base.specs.Configs.{chosen, candidates_in}
use Rattle.adv_base.specs.Named.{NamesBlock, NamesWork}
use Rattle.adv_base.specs.Settings.{TheSetting, KeepsLimits}
use Rattle.adv_base.specs.Upkeep.{upkeep, kept_upkeep, config_upkeep}
use Rattle.plan_model.specs.Lagrangian.{weighted_upkeep, weighted_kept}
use Rattle.plan_model.specs.Totals.{block_of, IsBlockCost, IsPlanCost, AreCosts, weighted_sum, IsTotal}
use Rattle.plan_model.proofs.Sums.{total, sum-total, total-same, total-add, total-scale, total-swap}
use Rattle.bip_model.specs.declared.part.Part.{Part}
use Rattle.bip_model.specs.declared.programme.Programme.{Programme}
use Rattle.bip_model.specs.Values.{part_cost, value}
use Rattle.bip_model.specs.StandsFor.{AreEach, IsPart, blocked_in, blocked_from, StandsFor}
use Rattle.bip_model.proofs.Pricing.{sum-start}
use Rattle.bip_model.proofs.Standing.{part-least}

-- ## Plans

plan-of : (cat : Catalogue) (shapes : List IndexShape) (config : Config) (work : Work) (block : Block) (cost : ℕ) → block_of work ≡ Some block → IsBlockCost cat shapes config block cost → IsPlanCost cat shapes config work cost
plan-of cat shapes config (Select own) block cost is plan = let same : own ≡ block = cc in subst (λ b. IsBlockCost cat shapes config b cost) (sym same) plan
plan-of cat shapes config (Update own columns) block cost is plan = let same : own ≡ block = cc in subst (λ b. IsBlockCost cat shapes config b cost) (sym same) plan
plan-of cat shapes config (Delete own) block cost is plan = let same : own ≡ block = cc in subst (λ b. IsBlockCost cat shapes config b cost) (sym same) plan
plan-of cat shapes config (Insert table rows) block cost is plan = absurd (cc)

no_plan-of : (cat : Catalogue) (shapes : List IndexShape) (config : Config) (work : Work) → block_of work ≡ None → IsPlanCost cat shapes config work 0
no_plan-of cat shapes config (Select own) is = absurd (cc)
no_plan-of cat shapes config (Update own columns) is = absurd (cc)
no_plan-of cat shapes config (Delete own) is = absurd (cc)
no_plan-of cat shapes config (Insert table rows) is = refl

pub named-of : (cat : Catalogue) (work : Work) (block : Block) → NamesWork cat work → block_of work ≡ Some block → NamesBlock cat block
named-of cat (Select own) block named is = let same : own ≡ block = cc in subst (NamesBlock cat) same (named.selects own refl)
named-of cat (Update own columns) block named is = let same : own ≡ block = cc in subst (NamesBlock cat) same (named.updates own columns refl).block_named
named-of cat (Delete own) block named is = let same : own ≡ block = cc in subst (NamesBlock cat) same (named.deletes own refl)
named-of cat (Insert table rows) block named is = absurd (cc)

-- ## Statements

-- the upkeep of all indexes that a statement writes
unfoldable pub written : TheSetting → Config → Statement → ℕ
written setting config statement = kept_upkeep setting.cat statement.work + config_upkeep setting.cat setting.shapes config statement.work

-- what the parts cost, by weight
plans : Config → List Part → ℕ
plans config parts = total (λ part. part.weight * part_cost part config) parts

record AreSummed (setting : TheSetting) (config : Config) (statements : List Statement) (parts : List Part) : Type 0 where
  costs : List ℕ
  costs_are : AreCosts setting.cat setting.shapes config statements costs
  sum : weighted_sum statements costs ≡ total (λ statement. statement.weight * written setting config statement) statements + plans config parts

summed : (setting : TheSetting) (config : Config) (q : ℕ) (statements : List Statement) (parts : List Part) → All (λ statement. NamesWork setting.cat statement.work) statements →
    AreEach (IsPart setting) (blocked_from q statements) parts → AreSummed setting config statements parts
unfolding plans written
summed setting config q [] [] named are = record { costs = []; costs_are = tt; sum = refl }
summed setting config q [] (part ∷ parts) named are = absurd are
summed setting config q (statement ∷ statements) parts named are =
    one (block_of statement.work) refl (λ ps each. summed setting config (suc q) statements ps (All-tail (λ (s : Statement). NamesWork setting.cat s.work) statement statements named) each) parts are
  where
    here : NamesWork setting.cat statement.work
    here = All-head (λ (s : Statement). NamesWork setting.cat s.work) statement statements named

    one : (there : Option Block) → block_of statement.work ≡ there → ((ps : List Part) → AreEach (IsPart setting) (blocked_from (suc q) statements) ps → AreSummed setting config statements ps) → (parts : List Part) → AreEach (IsPart setting) (blocked_in q statement.weight there (blocked_from (suc q) statements)) parts → AreSummed setting config (statement ∷ statements) parts
    one None none more parts are =
        let rest = more parts are in
        let cost : ℕ = written setting config statement in
        record {
          costs = cost ∷ rest.costs;
          costs_are = (record { plan = 0; plan_is = no_plan-of setting.cat setting.shapes config statement.work none; sum = omega arith }, rest.costs_are);
          sum = omega (arith, rest.sum);
        }
    one (Some block) is more [] are = absurd are
    one (Some block) is more (part ∷ parts) are =
        let rest = more parts are.1 in
        let own = are.0 in
        let plan : ℕ = part_cost part config in
        let weight : part.weight ≡ statement.weight = own.weight_is in
        let least = part-least setting (record { number = q; weight = statement.weight; block = block }) part config (named-of setting.cat statement.work block here is) own in
        let block_cost : IsBlockCost setting.cat setting.shapes config block plan = record { task = own.task; task_is = own.task_is; least = least } in
        let split : statement.weight * (plan + written setting config statement) ≡ statement.weight * plan + statement.weight * written setting config statement = mul-add statement.weight plan (written setting config statement) in
        let same : part.weight * plan ≡ statement.weight * plan = ap (λ (w : ℕ). w * plan) weight in
        record {
          costs = (plan + written setting config statement) ∷ rest.costs;
          costs_are = (record { plan = plan; plan_is = plan-of setting.cat setting.shapes config statement.work block plan is block_cost; sum = refl }, rest.costs_are);
          sum = omega (arith, rest.sum, split, same);
        }

-- ## Upkeep

pub chosen-sum : {X : Type 0} (f : X → ℕ) (flags : List Bool) (xs : List X) → sum (chosen flags (map f xs)) ≡ total f (chosen flags xs)
chosen-sum f [] xs = refl
chosen-sum f (flag ∷ flags) [] = refl
chosen-sum f (true ∷ flags) (x ∷ xs) =
    let start : 0 + f x ≡ f x + 0 = omega arith in
    ap (λ (n : ℕ). fold ◌+◌ n (chosen flags (map f xs))) start ∙ sum-start (f x) 0 (chosen flags (map f xs)) ∙ ap (λ (n : ℕ). f x + n) (chosen-sum f flags xs)
chosen-sum f (false ∷ flags) (x ∷ xs) = chosen-sum f flags xs

config-total : (setting : TheSetting) (config : Config) (work : Work) → config_upkeep setting.cat setting.shapes config work ≡ total (upkeep setting.cat work) (candidates_in setting.shapes config)
unfolding config_upkeep
config-total setting config work = sum-total (upkeep setting.cat work) (candidates_in setting.shapes config)

pub chosen-upkeep : (setting : TheSetting) (config : Config) →
    sum (chosen config.on (map (weighted_upkeep setting) setting.shapes)) ≡ total (λ statement. statement.weight * config_upkeep setting.cat setting.shapes config statement.work) setting.statements
chosen-upkeep setting config =
    let shapes : List IndexShape = candidates_in setting.shapes config in
    let one : Statement → IndexShape → ℕ = λ statement shape. statement.weight * upkeep setting.cat statement.work shape in
    let first : sum (chosen config.on (map (weighted_upkeep setting) setting.shapes)) ≡ total (weighted_upkeep setting) shapes = chosen-sum (weighted_upkeep setting) config.on setting.shapes in
    let second : total (weighted_upkeep setting) shapes ≡ total (λ shape. total (λ statement. one statement shape) setting.statements) shapes =
    total-same (weighted_upkeep setting) (λ shape. total (λ statement. one statement shape) setting.statements) shapes (λ shape. sum-total (λ (statement : Statement). one statement shape) setting.statements) in
    let third : total (λ shape. total (λ statement. one statement shape) setting.statements) shapes ≡ total (λ statement. total (λ shape. one statement shape) shapes) setting.statements =
    total-swap (λ (shape : IndexShape) (statement : Statement). one statement shape) shapes setting.statements in
    let fourth : total (λ statement. total (λ shape. one statement shape) shapes) setting.statements ≡ total (λ statement. statement.weight * config_upkeep setting.cat setting.shapes config statement.work) setting.statements =
    total-same (λ statement. total (λ shape. one statement shape) shapes) (λ statement. statement.weight * config_upkeep setting.cat setting.shapes config statement.work) setting.statements
    (λ statement. total-scale statement.weight (upkeep setting.cat statement.work) shapes ∙ ap (λ (n : ℕ). statement.weight * n) (sym (config-total setting config statement.work))) in
    first ∙ second ∙ third ∙ fourth

pub written-upkeep : (setting : TheSetting) (config : Config) →
    total (λ statement. statement.weight * written setting config statement) setting.statements
    ≡ weighted_kept setting + sum (chosen config.on (map (weighted_upkeep setting) setting.shapes))
unfolding written
written-upkeep setting config =
    let kept : Statement → ℕ = λ statement. statement.weight * kept_upkeep setting.cat statement.work in
    let picked : Statement → ℕ = λ statement. statement.weight * config_upkeep setting.cat setting.shapes config statement.work in
    let split : total (λ statement. statement.weight * (kept_upkeep setting.cat statement.work + config_upkeep setting.cat setting.shapes config statement.work)) setting.statements ≡ total (λ statement. kept statement + picked statement) setting.statements =
    total-same (λ statement. statement.weight * (kept_upkeep setting.cat statement.work + config_upkeep setting.cat setting.shapes config statement.work)) (λ statement. kept statement + picked statement) setting.statements
    (λ statement. mul-add statement.weight (kept_upkeep setting.cat statement.work) (config_upkeep setting.cat setting.shapes config statement.work)) in
    split ∙ total-add kept picked setting.statements
    ∙ ap (λ (n : ℕ). n + total picked setting.statements) (sym (sum-total kept setting.statements))
    ∙ ap (λ (n : ℕ). weighted_kept setting + n) (sym (chosen-upkeep setting config))

-- ## The total

pub value-total : (setting : TheSetting) (programme : Programme) (config : Config) → KeepsLimits setting → StandsFor setting programme →
    IsTotal setting.cat setting.shapes config setting.statements (value programme config)
unfolding value plans
value-total setting programme config limits stands =
    let parts = summed setting config 1 setting.statements programme.parts limits.statements_named stands.parts_are in
    let weighted : sum_by (λ part. part.weight * part_cost part config) programme.parts ≡ plans config programme.parts = sum-total (λ (part : Part). part.weight * part_cost part config) programme.parts in
    let chosen_is : sum (chosen config.on programme.upkeep) ≡ sum (chosen config.on (map (weighted_upkeep setting) setting.shapes)) = ap (λ (us : List ℕ). sum (chosen config.on us)) stands.upkeep_is in
    let indexes = written-upkeep setting config in
    let kept : programme.kept ≡ weighted_kept setting = stands.kept_is in
    record {
      costs = parts.costs;
      costs_are = parts.costs_are;
      sum = omega (arith, parts.sum, weighted, chosen_is, indexes, kept);
    }
