-- Weak duality: a fitting configuration below a node costs at least the node's Lagrangian value.
use Rattle.std.proofs.Common.{◌≡◌, inl, inr, ℕ, zero, suc, ◌+◌, ◌-◌, ◌*◌, ◌<◌, ◌≤◌, ◌==◌, Bool, true, false, cond, not, List, [], ◌∷◌, length, Option, Some, None, ℤ, pos, negsuc, refl, sym, ap, ◌∙◌, arith}
use Rattle.std.specs.Prelude.{slice_get, slice_index_or, sum_by, nat_le, filter}
use Rattle.std.specs.List.{enumerate_from}
use Rattle.std.specs.Option.{option_map_or}
use Rattle.std.proofs.Math.Nat.{mul-add, mul-le-mul}
use Rattle.std.proofs.lemmas.Bool.{cases_Bool, cases_eq, eqb-true, eq-eqb, le-leb, and_from, or_left, or_right, false≢true}
use Rattle.std.proofs.lemmas.List.Elements.{All-head, All-tail}
use Rattle.adv_base.specs.declared.catalogue.Catalogue.{Catalogue}
use Rattle.adv_base.specs.declared.catalogue.index.IndexShape.{IndexShape}
use Rattle.adv_base.specs.declared.limits.TheConstants.{MOST_CANDIDATES}
use Rattle.adv_base.specs.declared.setting.Config.{Config}
use Rattle.adv_base.specs.declared.workload.Statement.{Statement}
use Rattle.adv_base.specs.declared.workload.Work.{Work}
use Rattle.adv_base.specs.declared.workload.Work.TheVariants.{Select, Update, Delete, Insert}
use Rattle.adv_base.specs.declared.workload.block.Block.{Block}
use Rattle.adv_base.specs.declared.workload.parts.Slot.{Slot}
use Rattle.adv_base.specs.Configs.{chosen, candidates_in, config_pages, candidate_pages, has_candidate, IsConfigOf, Fits}
use Rattle.adv_base.specs.Nodes.{Node, is_free, is_open, is_available, available, IsBelow}
use Rattle.adv_base.specs.Offers.{offers, numbered_in, numbered_on}
use Rattle.adv_base.specs.OfferTables.{OfferTableLimits}
use Rattle.adv_base.specs.Settings.{TheSetting}
use Rattle.adv_base.specs.Sizes.{shape_pages}
use Rattle.adv_base.specs.Upkeep.{upkeep, kept_upkeep, config_upkeep}
use Rattle.adv_base.proofs.ConfigLaws.{config_of-has, pages-by-shape, size-by-shape}
use Rattle.plan_model.specs.Exchange.{sum_below}
use Rattle.plan_model.specs.Totals.{block_of, IsPlanCost, AreCosts, weighted_sum, IsTotal, OffersKeepLimits}
use Rattle.plan_model.specs.Lagrangian.{TheMultipliers, IsRentedPlan, AreRentedPlans, weighted_upkeep, weighted_kept, slot_rents, weighted_rents, sum_rents, rents_at, IsWithin, candidate_cost, candidate_rents, costs_inside, earnings, IsRoundedUp, IsLagrangian, IsAtMost}
use Rattle.plan_model.proofs.SetLaws.{sum_below-same}
use Rattle.plan_model.proofs.Renting.{rents-bound, flag-of}
use Rattle.plan_model.proofs.Sums.{total, sum-total, total-none, total-same, total-add, total-scale, total-swap, total-filter, places, sum_below-places, passing, AreFlags, chosen-passing, passing-numbered, passing-add, passing-scale, passing-one_more}

-- ## The rents of a configuration's candidates, by statement and by candidate

flip : (a b : ℕ) → (a == b) ≡ (b == a)
flip a b =
    elim (cases_eq a b) [
      | inl same ↦ eq-eqb a b same ∙ sym (eq-eqb b a (sym same))
      | inr other ↦
          elim (cases_Bool (a == b)) [
            | inl is ↦ absurd (other (eqb-true a b is))
            | inr differs ↦
                elim (cases_Bool (b == a)) [
                  | inl is ↦ absurd (other (sym (eqb-true b a is)))
                  | inr differs' ↦ differs ∙ sym differs'
                ]
          ]
    ]

sum_rents-total : (rent : ℕ → ℕ) (list : List (ℕ × IndexShape)) → sum_rents rent list ≡ total (λ n. rent n.0) list
sum_rents-total rent [] = refl
sum_rents-total rent (n ∷ ns) = ap (λ (m : ℕ). rent n.0 + m) (sum_rents-total rent ns)

slot_rents-places : (rent : ℕ → ℕ) (t k : ℕ) (slots : List Slot) → slot_rents rent t k slots ≡ places (λ s slot. cond (slot.table == t) (rent s) 0) k slots
slot_rents-places rent t k [] = refl
slot_rents-places rent t k (slot ∷ slots) = ap (λ (n : ℕ). cond (slot.table == t) (rent k) 0 + n) (slot_rents-places rent t (suc k) slots)

-- at a slot the candidates on its table, among all of them
slot-part : (rent : ℕ → ℕ) (t : ℕ) (numbered : List (ℕ × IndexShape)) → sum_rents rent (filter (λ n. n.1.table == t) numbered) ≡ total (λ n. cond (t == n.1.table) (rent n.0) 0) numbered
slot-part rent t numbered =
    sum_rents-total rent (filter (λ n. n.1.table == t) numbered)
    ∙ (total-filter (λ n. n.1.table == t) (λ n. rent n.0) numbered
    ∙ total-same (λ n. cond (n.1.table == t) (rent n.0) 0) (λ n. cond (t == n.1.table) (rent n.0) 0) numbered
    (λ n. ap (λ (b : Bool). cond b (rent n.0) 0) (flip n.1.table t)))

places-swap : (rent : ℕ → ℕ → ℕ) (numbered : List (ℕ × IndexShape)) (k : ℕ) (slots : List Slot) → places (λ s slot. sum_rents (rent s) (filter (λ n. n.1.table == slot.table) numbered)) k slots ≡ total (λ n. places (λ s slot. cond (slot.table == n.1.table) (rent s n.0) 0) k slots) numbered
places-swap rent numbered k [] = sym (total-none numbered)
places-swap rent numbered k (slot ∷ slots) =
    let here : sum_rents (rent k) (filter (λ n. n.1.table == slot.table) numbered) ≡ total (λ n. cond (slot.table == n.1.table) (rent k n.0) 0) numbered = slot-part (rent k) slot.table numbered in
    let rest : places (λ s slot. sum_rents (rent s) (filter (λ n. n.1.table == slot.table) numbered)) (suc k) slots ≡ total (λ n. places (λ s slot. cond (slot.table == n.1.table) (rent s n.0) 0) (suc k) slots) numbered = places-swap rent numbered (suc k) slots in
    let both : total (λ n. cond (slot.table == n.1.table) (rent k n.0) 0 + places (λ s slot. cond (slot.table == n.1.table) (rent s n.0) 0) (suc k) slots) numbered ≡ total (λ n. cond (slot.table == n.1.table) (rent k n.0) 0) numbered + total (λ n. places (λ s slot. cond (slot.table == n.1.table) (rent s n.0) 0) (suc k) slots) numbered =
    total-add (λ n. cond (slot.table == n.1.table) (rent k n.0) 0) (λ n. places (λ s slot. cond (slot.table == n.1.table) (rent s n.0) 0) (suc k) slots) numbered in
    omega (arith, here, rest, both)

-- what a block may owe, and what each candidate may earn of it
block_rents : TheSetting → Config → (ℕ → ℕ → ℕ) → Block → ℕ
block_rents setting config rent block = sum_below (rents_at setting config rent block) (length block.slots)

block-swap : (setting : TheSetting) (config : Config) (rent : ℕ → ℕ → ℕ) (block : Block) → block_rents setting config rent block ≡ total (λ n. slot_rents (λ s. rent s n.0) n.1.table 0 block.slots) (numbered_in setting.shapes config)
unfolding block_rents
block-swap setting config rent block =
    let numbered = numbered_in setting.shapes config in
    let at' : ℕ → Slot → ℕ = λ s slot. sum_rents (rent s) (numbered_on setting.shapes config slot.table) in
    let first : sum_below (rents_at setting config rent block) (length block.slots) ≡ sum_below (λ i. option_map_or (at' (0 + i)) (slice_get block.slots i) 0) (length block.slots) =
    sum_below-same (rents_at setting config rent block) (λ i. option_map_or (at' (0 + i)) (slice_get block.slots i) 0) (length block.slots)
    (λ i below. ap (λ (n : ℕ). option_map_or (at' n) (slice_get block.slots i) 0) (omega arith)) in
    let second : sum_below (λ i. option_map_or (at' (0 + i)) (slice_get block.slots i) 0) (length block.slots) ≡ places at' 0 block.slots = sum_below-places at' 0 block.slots in
    let third : places at' 0 block.slots ≡ total (λ n. places (λ s slot. cond (slot.table == n.1.table) (rent s n.0) 0) 0 block.slots) numbered = places-swap rent numbered 0 block.slots in
    let fourth : total (λ n. places (λ s slot. cond (slot.table == n.1.table) (rent s n.0) 0) 0 block.slots) numbered ≡ total (λ n. slot_rents (λ s. rent s n.0) n.1.table 0 block.slots) numbered =
    total-same (λ n. places (λ s slot. cond (slot.table == n.1.table) (rent s n.0) 0) 0 block.slots) (λ n. slot_rents (λ s. rent s n.0) n.1.table 0 block.slots) numbered
    (λ n. sym (slot_rents-places (λ s. rent s n.0) n.1.table 0 block.slots)) in
    first ∙ (second ∙ (third ∙ fourth))

work_rents : TheSetting → Config → (ℕ → ℕ → ℕ) → Option Block → ℕ
work_rents setting config rent None = 0
work_rents setting config rent (Some block) = block_rents setting config rent block

work-swap : (setting : TheSetting) (config : Config) (rent : ℕ → ℕ → ℕ) (there : Option Block) → work_rents setting config rent there ≡ total (λ n. option_map_or (λ block. slot_rents (λ s. rent s n.0) n.1.table 0 block.slots) there 0) (numbered_in setting.shapes config)
unfolding work_rents
work-swap setting config rent None = sym (total-none (numbered_in setting.shapes config))
work-swap setting config rent (Some block) = block-swap setting config rent block

used_rents : TheSetting → Config → (ℕ → ℕ → ℕ → ℕ) → ℕ → List Statement → ℕ
used_rents setting config rent q [] = 0
used_rents setting config rent q (statement ∷ statements) =
    statement.weight * work_rents setting config (rent q) (block_of statement.work) + used_rents setting config rent (suc q) statements

used-swap : (setting : TheSetting) (config : Config) (rent : ℕ → ℕ → ℕ → ℕ) (q : ℕ) (statements : List Statement) → used_rents setting config rent q statements ≡ total (λ n. weighted_rents (λ q s. rent q s n.0) n.1.table q statements) (numbered_in setting.shapes config)
unfolding used_rents
used-swap setting config rent q [] = sym (total-none (numbered_in setting.shapes config))
used-swap setting config rent q (statement ∷ statements) =
    let numbered = numbered_in setting.shapes config in
    let one : ℕ × IndexShape → ℕ = λ n. option_map_or (λ block. slot_rents (λ s. rent q s n.0) n.1.table 0 block.slots) (block_of statement.work) 0 in
    let more : ℕ × IndexShape → ℕ = λ n. weighted_rents (λ q s. rent q s n.0) n.1.table (suc q) statements in
    let here : statement.weight * work_rents setting config (rent q) (block_of statement.work) ≡ statement.weight * total one numbered = ap (λ (m : ℕ). statement.weight * m) (work-swap setting config (rent q) (block_of statement.work)) in
    let scaled : total (λ n. statement.weight * one n) numbered ≡ statement.weight * total one numbered = total-scale statement.weight one numbered in
    let rest : used_rents setting config rent (suc q) statements ≡ total more numbered = used-swap setting config rent (suc q) statements in
    let both : total (λ n. statement.weight * one n + more n) numbered ≡ total (λ n. statement.weight * one n) numbered + total more numbered = total-add (λ n. statement.weight * one n) more numbered in
    omega (arith, here, scaled, rest, both)

-- ## What plans cost with rents

rented-most : (setting : TheSetting) (smaller larger : Config) (rent : ℕ → ℕ → ℕ) (work : Work) (rented plan : ℕ) → IsWithin smaller larger → ((block : Block) → block_of work ≡ Some block → OfferTableLimits (offers setting.cat block setting.shapes smaller)) → IsRentedPlan setting larger rent work rented → IsPlanCost setting.cat setting.shapes smaller work plan → rented ≤ plan + work_rents setting smaller rent (block_of work)
unfolding work_rents block_rents
rented-most setting smaller larger rent (Select block) rented plan within limits r p = rents-bound setting smaller larger rent block plan rented within (limits block refl) p r
rented-most setting smaller larger rent (Update block columns) rented plan within limits r p = rents-bound setting smaller larger rent block plan rented within (limits block refl) p r
rented-most setting smaller larger rent (Delete block) rented plan within limits r p = rents-bound setting smaller larger rent block plan rented within (limits block refl) p r
rented-most setting smaller larger rent (Insert table rows) rented plan within limits r p = omega (arith, r)

-- a statement's weight times its upkeep, of what exists and of the configuration
upkeep_part : TheSetting → Config → Statement → ℕ
upkeep_part setting config statement = statement.weight * (kept_upkeep setting.cat statement.work + config_upkeep setting.cat setting.shapes config statement.work)

plans-most : (setting : TheSetting) (smaller larger : Config) (rent : ℕ → ℕ → ℕ → ℕ) (q : ℕ) (statements : List Statement) (rented costs : List ℕ) → IsWithin smaller larger → OffersKeepLimits setting.cat setting.shapes smaller statements → AreRentedPlans setting larger rent q statements rented → AreCosts setting.cat setting.shapes smaller statements costs → weighted_sum statements rented + total (upkeep_part setting smaller) statements ≤ weighted_sum statements costs + used_rents setting smaller rent q statements
unfolding used_rents upkeep_part
plans-most setting smaller larger rent q [] [] [] within limits r c = omega arith
plans-most setting smaller larger rent q [] [] (y ∷ ys) within limits r c = absurd c
plans-most setting smaller larger rent q [] (x ∷ xs) costs within limits r c = absurd r
plans-most setting smaller larger rent q (statement ∷ statements) [] costs within limits r c = absurd r
plans-most setting smaller larger rent q (statement ∷ statements) (x ∷ xs) [] within limits r c = absurd c
plans-most setting smaller larger rent q (statement ∷ statements) (x ∷ xs) (y ∷ ys) within limits r c =
    let first = All-head (λ (s : Statement). (block : Block) → block_of s.work ≡ Some block → OfferTableLimits (offers setting.cat block setting.shapes smaller)) statement statements limits in
    let others = All-tail (λ (s : Statement). (block : Block) → block_of s.work ≡ Some block → OfferTableLimits (offers setting.cat block setting.shapes smaller)) statement statements limits in
    let w = statement.weight in
    let kept = kept_upkeep setting.cat statement.work + config_upkeep setting.cat setting.shapes smaller statement.work in
    let owed = work_rents setting smaller (rent q) (block_of statement.work) in
    let plan : x ≤ c.0.plan + owed = rented-most setting smaller larger (rent q) statement.work x c.0.plan within first r.0 c.0.plan_is in
    let cost : y ≡ c.0.plan + kept = c.0.sum in
    let sum : x + kept ≤ y + owed = omega (arith, plan, cost) in
    let self : w ≤ w = omega arith in
    let scaled : w * (x + kept) ≤ w * (y + owed) = mul-le-mul self sum in
    let left : w * (x + kept) ≡ w * x + w * kept = mul-add w x kept in
    let right : w * (y + owed) ≡ w * y + w * owed = mul-add w y owed in
    let rest : weighted_sum statements xs + total (upkeep_part setting smaller) statements ≤ weighted_sum statements ys + used_rents setting smaller rent (suc q) statements =
    plans-most setting smaller larger rent (suc q) statements xs ys within others r.1 c.1 in
    omega (arith, scaled, left, right, rest)

-- ## What candidates cost and earn

pub flags-are : (config : Config) → AreFlags (has_candidate config) 1 config.on
flags-are config i = ap (has_candidate config) (omega arith) ∙ flag-of config i

pub pages-passing : (cat : Catalogue) (shapes : List IndexShape) (config : Config) → config_pages cat shapes config ≡ passing (has_candidate config) (λ k shape. shape_pages cat shape) 1 shapes
pages-passing cat shapes config =
    pages-by-shape cat shapes config
    ∙ sum-total (shape_pages cat) (chosen config.on shapes)
    ∙ chosen-passing (has_candidate config) (shape_pages cat) 1 config.on shapes (flags-are config)

pub flag-found : (flags : List Bool) (i : ℕ) → slice_index_or flags i false ≡ true → slice_get flags i ≡ Some true
flag-found [] i on = absurd (false≢true on)
flag-found (flag ∷ flags) zero on = ap Some on
flag-found (flag ∷ flags) (suc i) on = flag-found flags i on

shape-found : (shapes : List IndexShape) (config : Config) (i : ℕ) → IsConfigOf shapes config → has_candidate config (suc i) ≡ true → i < length shapes
shape-found shapes config i is on = is i (flag-found config.on i (sym (flag-of config i) ∙ on))

shape-at : (shapes : List IndexShape) (i : ℕ) → i < length shapes → (shape : IndexShape) × (slice_get shapes i ≡ Some shape)
shape-at [] i below = absurd (omega (arith, below))
shape-at (shape ∷ shapes) zero below = (shape, refl)
shape-at (shape ∷ shapes) (suc i) below = shape-at shapes i (omega (arith, below))

has-none : (config : Config) → has_candidate config 0 ≡ true → ⊥
has-none config on = false≢true on

-- a candidate of a fitting configuration below the node is in or open
opens : (setting : TheSetting) (budget : ℕ) (node : Node) (config : Config) (i : ℕ) → Fits setting.cat setting.shapes config budget → IsConfigOf setting.shapes config → IsBelow node config → has_candidate config (suc i) ≡ true → has_candidate node.inside (suc i) ≡ false → is_open setting.cat setting.shapes budget node (suc i) ≡ true
opens setting budget node config i fits is below on lacks =
    let out : has_candidate node.outside (suc i) ≡ false =
    elim (cases_Bool (has_candidate node.outside (suc i))) [
      | inl outside ↦ absurd (false≢true (sym (below.lacks (suc i) outside) ∙ on))
      | inr not_outside ↦ not_outside
    ] in
    let free : is_free node (suc i) ≡ true = and_from (not (has_candidate node.inside (suc i))) (not (has_candidate node.outside (suc i))) (ap not lacks) (ap not out) in
    let found = shape-at setting.shapes i (shape-found setting.shapes config i is on) in
    let place : suc i - 1 ≡ i = omega arith in
    let pages : candidate_pages setting.cat setting.shapes (suc i) ≡ shape_pages setting.cat found.0 =
    size-by-shape setting.cat setting.shapes (suc i)
    ∙ ap (λ (n : ℕ). option_map_or (shape_pages setting.cat) (slice_get setting.shapes n) 0) place ∙ ap (λ (o : Option IndexShape). option_map_or (shape_pages setting.cat) o 0) found.1 in
    let next : suc i ≡ 1 + i = omega arith in
    let more : passing (has_candidate node.inside) (λ k shape. shape_pages setting.cat shape) 1 setting.shapes + shape_pages setting.cat found.0 ≤ passing (has_candidate config) (λ k shape. shape_pages setting.cat shape) 1 setting.shapes =
    passing-one_more (has_candidate node.inside) (has_candidate config) (λ k shape. shape_pages setting.cat shape) 1 i found.0 setting.shapes below.holds found.1
    (ap (has_candidate node.inside) (sym next) ∙ lacks) (ap (has_candidate config) (sym next) ∙ on) in
    let room : config_pages setting.cat setting.shapes node.inside + candidate_pages setting.cat setting.shapes (suc i) ≤ budget =
    omega (arith, more, pages, pages-passing setting.cat setting.shapes node.inside, pages-passing setting.cat setting.shapes config, fits.pages) in
    and_from (is_free node (suc i)) (nat_le (config_pages setting.cat setting.shapes node.inside + candidate_pages setting.cat setting.shapes (suc i)) budget) free
    (le-leb (config_pages setting.cat setting.shapes node.inside + candidate_pages setting.cat setting.shapes (suc i)) budget room)

one-candidate : (inside has open' : Bool) (cost rents ci pr e pc : ℕ) → (inside ≡ true → has ≡ true) → (has ≡ true → inside ≡ false → open' ≡ true) → ci + pr ≤ e + pc → (cond inside cost 0 + ci) + (cond has rents 0 + pr) ≤ (cond inside rents (cond open' (rents - cost) 0) + e) + (cond has cost 0 + pc)
one-candidate true true open' cost rents ci pr e pc holds opens' h = omega (arith, h)
one-candidate true false open' cost rents ci pr e pc holds opens' h = absurd (false≢true (holds refl))
one-candidate false true true cost rents ci pr e pc holds opens' h = omega (arith, h)
one-candidate false true false cost rents ci pr e pc holds opens' h = absurd (false≢true (opens' refl refl))
one-candidate false false true cost rents ci pr e pc holds opens' h = omega (arith, h)
one-candidate false false false cost rents ci pr e pc holds opens' h = omega (arith, h)

candidates-most : (setting : TheSetting) (multipliers : TheMultipliers) (budget : ℕ) (node : Node) (config : Config) (a : ℕ) (shapes : List IndexShape) → ((k : ℕ) → has_candidate node.inside k ≡ true → has_candidate config k ≡ true) → ((k : ℕ) → has_candidate config k ≡ true → has_candidate node.inside k ≡ false → is_open setting.cat setting.shapes budget node k ≡ true) → costs_inside setting multipliers node a shapes + passing (has_candidate config) (λ k shape. candidate_rents setting multipliers k shape) a shapes ≤ earnings setting multipliers budget node a shapes + passing (has_candidate config) (λ k shape. candidate_cost setting multipliers shape) a shapes
candidates-most setting multipliers budget node config a [] holds opens' = omega arith
candidates-most setting multipliers budget node config a (shape ∷ shapes) holds opens' =
    one-candidate (has_candidate node.inside a) (has_candidate config a) (is_open setting.cat setting.shapes budget node a)
    (candidate_cost setting multipliers shape) (candidate_rents setting multipliers a shape)
    (costs_inside setting multipliers node (suc a) shapes)
    (passing (has_candidate config) (λ k shape. candidate_rents setting multipliers k shape) (suc a) shapes)
    (earnings setting multipliers budget node (suc a) shapes)
    (passing (has_candidate config) (λ k shape. candidate_cost setting multipliers shape) (suc a) shapes)
    (holds a) (opens' a) (candidates-most setting multipliers budget node config (suc a) shapes holds opens')

-- ## Sums over the configuration

rents-passing : (setting : TheSetting) (multipliers : TheMultipliers) (config : Config) → passing (has_candidate config) (λ k shape. candidate_rents setting multipliers k shape) 1 setting.shapes ≡ 65536 * used_rents setting config multipliers.rent 1 setting.statements
rents-passing setting multipliers config =
    let each : ℕ → IndexShape → ℕ = λ k shape. weighted_rents (λ q s. multipliers.rent q s k) shape.table 1 setting.statements in
    let pair : ℕ × IndexShape → ℕ = λ n. weighted_rents (λ q s. multipliers.rent q s n.0) n.1.table 1 setting.statements in
    let scaled : passing (has_candidate config) (λ k shape. 65536 * each k shape) 1 setting.shapes ≡ 65536 * passing (has_candidate config) each 1 setting.shapes = passing-scale (has_candidate config) 65536 each 1 setting.shapes in
    let used : used_rents setting config multipliers.rent 1 setting.statements ≡ total pair (numbered_in setting.shapes config) = used-swap setting config multipliers.rent 1 setting.statements in
    let chosen-ones : total pair (numbered_in setting.shapes config) ≡ passing (has_candidate config) (λ k n. pair n) 1 (enumerate_from 1 setting.shapes) = chosen-passing (has_candidate config) pair 1 config.on (enumerate_from 1 setting.shapes) (flags-are config) in
    let plain : passing (has_candidate config) (λ k n. pair n) 1 (enumerate_from 1 setting.shapes) ≡ passing (has_candidate config) each 1 setting.shapes = passing-numbered (has_candidate config) pair 1 setting.shapes in
    scaled ∙ ap (λ (n : ℕ). 65536 * n) (sym (used ∙ (chosen-ones ∙ plain)))

upkeep-passing : (setting : TheSetting) (config : Config) → passing (has_candidate config) (λ k shape. weighted_upkeep setting shape) 1 setting.shapes ≡ total (λ (s : Statement). s.weight * config_upkeep setting.cat setting.shapes config s.work) setting.statements
unfolding config_upkeep
upkeep-passing setting config =
    let shapes = candidates_in setting.shapes config in
    let one : IndexShape → Statement → ℕ = λ shape s. s.weight * upkeep setting.cat s.work shape in
    let first : total (weighted_upkeep setting) shapes ≡ passing (has_candidate config) (λ k shape. weighted_upkeep setting shape) 1 setting.shapes = chosen-passing (has_candidate config) (weighted_upkeep setting) 1 config.on setting.shapes (flags-are config) in
    let second : total (weighted_upkeep setting) shapes ≡ total (λ shape. total (one shape) setting.statements) shapes = total-same (weighted_upkeep setting) (λ shape. total (one shape) setting.statements) shapes (λ shape. sum-total (one shape) setting.statements) in
    let third : total (λ shape. total (one shape) setting.statements) shapes ≡ total (λ s. total (λ shape. one shape s) shapes) setting.statements = total-swap one shapes setting.statements in
    let fourth : total (λ s. total (λ shape. one shape s) shapes) setting.statements ≡ total (λ (s : Statement). s.weight * sum_by (upkeep setting.cat s.work) shapes) setting.statements =
    total-same (λ s. total (λ shape. one shape s) shapes) (λ (s : Statement). s.weight * sum_by (upkeep setting.cat s.work) shapes) setting.statements
    (λ s. total-scale s.weight (upkeep setting.cat s.work) shapes ∙ ap (λ (n : ℕ). s.weight * n) (sym (sum-total (upkeep setting.cat s.work) shapes))) in
    sym first ∙ (second ∙ (third ∙ fourth))

-- what the candidates of a fitting configuration cost at most
costs-passing : (setting : TheSetting) (multipliers : TheMultipliers) (budget : ℕ) (config : Config) → Fits setting.cat setting.shapes config budget → passing (has_candidate config) (λ k shape. candidate_cost setting multipliers shape) 1 setting.shapes ≤ 65536 * total (λ (s : Statement). s.weight * config_upkeep setting.cat setting.shapes config s.work) setting.statements + multipliers.page * budget
costs-passing setting multipliers budget config fits =
    let has = has_candidate config in
    let upkeeps = passing has (λ k shape. weighted_upkeep setting shape) 1 setting.shapes in
    let pages = passing has (λ k shape. shape_pages setting.cat shape) 1 setting.shapes in
    let parts : passing has (λ k shape. candidate_cost setting multipliers shape) 1 setting.shapes ≡ passing has (λ k shape. 65536 * weighted_upkeep setting shape) 1 setting.shapes + passing has (λ k shape. multipliers.page * shape_pages setting.cat shape) 1 setting.shapes =
    passing-add has (λ k shape. 65536 * weighted_upkeep setting shape) (λ k shape. multipliers.page * shape_pages setting.cat shape) 1 setting.shapes in
    let first : passing has (λ k shape. 65536 * weighted_upkeep setting shape) 1 setting.shapes ≡ 65536 * upkeeps = passing-scale has 65536 (λ k shape. weighted_upkeep setting shape) 1 setting.shapes in
    let second : passing has (λ k shape. multipliers.page * shape_pages setting.cat shape) 1 setting.shapes ≡ multipliers.page * pages = passing-scale has multipliers.page (λ k shape. shape_pages setting.cat shape) 1 setting.shapes in
    let few : pages ≤ budget = omega (arith, pages-passing setting.cat setting.shapes config, fits.pages) in
    let self : multipliers.page ≤ multipliers.page = omega arith in
    let most : multipliers.page * pages ≤ multipliers.page * budget = mul-le-mul self few in
    let same : upkeeps ≡ total (λ (s : Statement). s.weight * config_upkeep setting.cat setting.shapes config s.work) setting.statements = upkeep-passing setting config in
    omega (arith, parts, first, second, most, same)

kept-parts : (setting : TheSetting) (config : Config) (statements : List Statement) → total (upkeep_part setting config) statements ≡ total (λ (s : Statement). s.weight * kept_upkeep setting.cat s.work) statements + total (λ (s : Statement). s.weight * config_upkeep setting.cat setting.shapes config s.work) statements
unfolding upkeep_part
kept-parts setting config statements =
    total-same (λ (s : Statement). s.weight * (kept_upkeep setting.cat s.work + config_upkeep setting.cat setting.shapes config s.work)) (λ (s : Statement). s.weight * kept_upkeep setting.cat s.work + s.weight * config_upkeep setting.cat setting.shapes config s.work) statements
    (λ s. mul-add s.weight (kept_upkeep setting.cat s.work) (config_upkeep setting.cat setting.shapes config s.work))
    ∙ total-add (λ (s : Statement). s.weight * kept_upkeep setting.cat s.work) (λ (s : Statement). s.weight * config_upkeep setting.cat setting.shapes config s.work) statements

-- ## The law

within-available : (setting : TheSetting) (budget : ℕ) (node : Node) (config : Config) → Fits setting.cat setting.shapes config budget → IsConfigOf setting.shapes config → length setting.shapes ≤ MOST_CANDIDATES → IsBelow node config → IsWithin config (available setting.cat setting.shapes budget node)
within-available setting budget node config fits is few below zero on = absurd (has-none config on)
within-available setting budget node config fits is few below (suc i) on =
    let inside = shape-found setting.shapes config i is on in
    let either : is_available setting.cat setting.shapes budget node (suc i) ≡ true =
    elim (cases_Bool (has_candidate node.inside (suc i))) [
      | inl in_node ↦ or_left (has_candidate node.inside (suc i)) (is_open setting.cat setting.shapes budget node (suc i)) in_node
      | inr lacks ↦ or_right (has_candidate node.inside (suc i)) (is_open setting.cat setting.shapes budget node (suc i)) (opens setting budget node config i fits is below on lacks)
    ] in
    config_of-has (is_available setting.cat setting.shapes budget node) (suc i) (omega arith) (omega (arith, inside, few)) ∙ either

opens-all : (setting : TheSetting) (budget : ℕ) (node : Node) (config : Config) → Fits setting.cat setting.shapes config budget → IsConfigOf setting.shapes config → IsBelow node config → (k : ℕ) → has_candidate config k ≡ true → has_candidate node.inside k ≡ false → is_open setting.cat setting.shapes budget node k ≡ true
opens-all setting budget node config fits is below zero on lacks = absurd (has-none config on)
opens-all setting budget node config fits is below (suc i) on lacks = opens setting budget node config i fits is below on lacks

rounded-most : (more less count : ℕ) (value : ℤ) → IsRoundedUp more less value → more ≤ 65536 * count + less → IsAtMost value count
rounded-most more less count (pos n) is most = omega (arith, is.1, most)
rounded-most more less count (negsuc n) is most = tt

pub weak-duality : (setting : TheSetting) (budget : ℕ) (node : Node) (multipliers : TheMultipliers) (value : ℤ) (config : Config) (sum : ℕ) → OffersKeepLimits setting.cat setting.shapes config setting.statements → Fits setting.cat setting.shapes config budget → IsConfigOf setting.shapes config → length setting.shapes ≤ MOST_CANDIDATES → IsBelow node config → IsLagrangian setting budget node multipliers value → IsTotal setting.cat setting.shapes config setting.statements sum → IsAtMost value sum
weak-duality setting budget node multipliers value config sum limits fits is few below lag cost =
    let within = within-available setting budget node config fits is few below in
    let plans = plans-most setting config (available setting.cat setting.shapes budget node) multipliers.rent 1 setting.statements lag.costs cost.costs within limits lag.costs_are cost.costs_are in
    let candidates = candidates-most setting multipliers budget node config 1 setting.shapes below.holds (opens-all setting budget node config fits is below) in
    let rents = rents-passing setting multipliers config in
    let costs = costs-passing setting multipliers budget config fits in
    let parts = kept-parts setting config setting.statements in
    let kept : weighted_kept setting ≡ total (λ (s : Statement). s.weight * kept_upkeep setting.cat s.work) setting.statements = sum-total (λ (s : Statement). s.weight * kept_upkeep setting.cat s.work) setting.statements in
    rounded-most
    (65536 * (weighted_sum setting.statements lag.costs + weighted_kept setting) + costs_inside setting multipliers node 1 setting.shapes)
    (earnings setting multipliers budget node 1 setting.shapes + multipliers.page * budget)
    sum value lag.value_is
    (omega (arith, plans, candidates, rents, costs, parts, kept, cost.sum))
