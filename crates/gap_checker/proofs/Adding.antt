-- Sums over statements and candidates, one more at a time.
use Rattle.std.proofs.Common.{◌≡◌, ◌∙◌, ℕ, zero, suc, ◌+◌, ◌-◌, ◌*◌, ◌<◌, List, [], ◌∷◌, ◌++◌, length, get_or, refl, ap, arith}
use Rattle.std.specs.Prelude.{if◌then◌else◌, ◌==◌}
use Rattle.std.specs.Option.{option_map_or}
use Rattle.adv_base.specs.declared.catalogue.Catalogue.{Catalogue}
use Rattle.adv_base.specs.declared.catalogue.index.IndexShape.{IndexShape}
use Rattle.adv_base.specs.declared.setting.Config.{Config}
use Rattle.adv_base.specs.declared.workload.Statement.{Statement}
use Rattle.adv_base.specs.declared.workload.parts.Slot.{Slot}
use Rattle.adv_base.specs.Configs.{has_candidate}
use Rattle.adv_base.specs.Nodes.{Node, is_open}
use Rattle.adv_base.specs.Settings.{TheSetting}
use Rattle.plan_model.specs.Lagrangian.{TheMultipliers, IsRentedPlan, AreRentedPlans, slot_rents, weighted_rents, candidate_cost, candidate_rents, costs_inside, earnings}
use Rattle.plan_model.specs.Totals.{AreCosts, IsCost, block_of, weighted_sum}
use Rattle.gap_checker.specs.inner.Earnings.{earned_from}

-- ## Statements

pub plans-more : (setting : TheSetting) (config : Config) (rent : ℕ → ℕ → ℕ → ℕ) (q : ℕ) (statements : List Statement) (costs : List ℕ) (statement : Statement) (cost : ℕ) →
    AreRentedPlans setting config rent q statements costs → IsRentedPlan setting config (rent (q + length statements)) statement.work cost →
    AreRentedPlans setting config rent q (statements ++ statement ∷ []) (costs ++ cost ∷ [])
plans-more setting config rent q [] [] statement cost all one =
    let here : q + 0 ≡ q = omega arith in
    (rw here at one, tt)
plans-more setting config rent q [] (c ∷ cs) statement cost all one = absurd all
plans-more setting config rent q (s ∷ ss) [] statement cost all one = absurd all
plans-more setting config rent q (s ∷ ss) (c ∷ cs) statement cost all one =
    let next : q + suc (length ss) ≡ suc q + length ss = omega arith in
    (all.0, plans-more setting config rent (suc q) ss cs statement cost all.1 (rw next at one))

pub plans-sum : (setting : TheSetting) (config : Config) (rent : ℕ → ℕ → ℕ → ℕ) (q : ℕ) (statements : List Statement) (costs : List ℕ) (statement : Statement) (cost : ℕ) →
    AreRentedPlans setting config rent q statements costs → weighted_sum (statements ++ statement ∷ []) (costs ++ cost ∷ []) ≡ weighted_sum statements costs + statement.weight * cost
plans-sum setting config rent q [] [] statement cost all = omega arith
plans-sum setting config rent q [] (c ∷ cs) statement cost all = absurd all
plans-sum setting config rent q (s ∷ ss) [] statement cost all = absurd all
plans-sum setting config rent q (s ∷ ss) (c ∷ cs) statement cost all =
    omega (arith, plans-sum setting config rent (suc q) ss cs statement cost all.1)

pub costs-more : (cat : Catalogue) (shapes : List IndexShape) (config : Config) (statements : List Statement) (costs : List ℕ) (statement : Statement) (cost : ℕ) →
    AreCosts cat shapes config statements costs → IsCost cat shapes config statement.work cost → AreCosts cat shapes config (statements ++ statement ∷ []) (costs ++ cost ∷ [])
costs-more cat shapes config [] [] statement cost all one = (one, tt)
costs-more cat shapes config [] (c ∷ cs) statement cost all one = absurd all
costs-more cat shapes config (s ∷ ss) [] statement cost all one = absurd all
costs-more cat shapes config (s ∷ ss) (c ∷ cs) statement cost all one = (all.0, costs-more cat shapes config ss cs statement cost all.1 one)

pub costs-sum : (cat : Catalogue) (shapes : List IndexShape) (config : Config) (statements : List Statement) (costs : List ℕ) (statement : Statement) (cost : ℕ) →
    AreCosts cat shapes config statements costs → weighted_sum (statements ++ statement ∷ []) (costs ++ cost ∷ []) ≡ weighted_sum statements costs + statement.weight * cost
costs-sum cat shapes config [] [] statement cost all = omega arith
costs-sum cat shapes config [] (c ∷ cs) statement cost all = absurd all
costs-sum cat shapes config (s ∷ ss) [] statement cost all = absurd all
costs-sum cat shapes config (s ∷ ss) (c ∷ cs) statement cost all = omega (arith, costs-sum cat shapes config ss cs statement cost all.1)

-- ## Rents

pub slot_rents-more : (rent : ℕ → ℕ) (t s : ℕ) (slots : List Slot) (slot : Slot) →
    slot_rents rent t s (slots ++ slot ∷ []) ≡ slot_rents rent t s slots + (if slot.table == t then rent (s + length slots) else 0)
slot_rents-more rent t s [] slot =
    let here : s ≡ s + 0 = omega arith in
    let same : (if slot.table == t then rent s else 0) ≡ (if slot.table == t then rent (s + 0) else 0) = ap (λ (n : ℕ). if slot.table == t then rent n else 0) here in
    omega (arith, same)
slot_rents-more rent t s (first ∷ slots) slot =
    let next : suc s + length slots ≡ s + suc (length slots) = omega arith in
    let same : (if slot.table == t then rent (suc s + length slots) else 0) ≡ (if slot.table == t then rent (s + suc (length slots)) else 0) = ap (λ (n : ℕ). if slot.table == t then rent n else 0) next in
    omega (arith, slot_rents-more rent t (suc s) slots slot, same)

abbrev pub statement_rents : (ℕ → ℕ → ℕ) → ℕ → ℕ → Statement → ℕ
statement_rents rent t q statement = option_map_or (λ block. slot_rents (rent q) t 0 block.slots) (block_of statement.work) 0

pub weighted_rents-more : (rent : ℕ → ℕ → ℕ) (t q : ℕ) (statements : List Statement) (statement : Statement) →
    weighted_rents rent t q (statements ++ statement ∷ []) ≡ weighted_rents rent t q statements + statement.weight * statement_rents rent t (q + length statements) statement
weighted_rents-more rent t q [] statement =
    let here : q ≡ q + 0 = omega arith in
    let same : statement.weight * statement_rents rent t q statement ≡ statement.weight * statement_rents rent t (q + 0) statement = ap (λ (n : ℕ). statement.weight * statement_rents rent t n statement) here in
    omega (arith, same)
weighted_rents-more rent t q (first ∷ statements) statement =
    let next : suc q + length statements ≡ q + suc (length statements) = omega arith in
    let same : statement.weight * statement_rents rent t (suc q + length statements) statement ≡ statement.weight * statement_rents rent t (q + suc (length statements)) statement = ap (λ (n : ℕ). statement.weight * statement_rents rent t n statement) next in
    omega (arith, weighted_rents-more rent t (suc q) statements statement, same)

-- ## Candidates

pub earned-more : (rent : ℕ → ℕ → ℕ → ℕ) (statements : List Statement) (a : ℕ) (shapes : List IndexShape) (shape : IndexShape) →
    earned_from rent statements a (shapes ++ shape ∷ []) ≡ earned_from rent statements a shapes ++ weighted_rents (λ q s. rent q s (a + length shapes)) shape.table 1 statements ∷ []
earned-more rent statements a [] shape =
    let here : a ≡ a + 0 = omega arith in
    ap (λ (n : ℕ). weighted_rents (λ q s. rent q s n) shape.table 1 statements ∷ []) here
earned-more rent statements a (first ∷ shapes) shape =
    let next : suc a + length shapes ≡ a + suc (length shapes) = omega arith in
    let own : ℕ = weighted_rents (λ q s. rent q s a) first.table 1 statements in
    ap (λ (list : List ℕ). own ∷ list)
    (earned-more rent statements (suc a) shapes shape ∙ ap (λ (n : ℕ). earned_from rent statements (suc a) shapes ++ weighted_rents (λ q s. rent q s n) shape.table 1 statements ∷ []) next)

pub earned-length : (rent : ℕ → ℕ → ℕ → ℕ) (statements : List Statement) (a : ℕ) (shapes : List IndexShape) → length (earned_from rent statements a shapes) ≡ length shapes
earned-length rent statements a [] = refl
earned-length rent statements a (shape ∷ shapes) = ap suc (earned-length rent statements (suc a) shapes)

pub earned-at : (rent : ℕ → ℕ → ℕ → ℕ) (statements : List Statement) (a : ℕ) (shapes : List IndexShape) (i : ℕ) (shape : IndexShape) → i < length shapes →
    get_or (earned_from rent statements a shapes) i 0 ≡ weighted_rents (λ q s. rent q s (a + i)) (get_or shapes i shape).table 1 statements
earned-at rent statements a [] i shape within = absurd (omega (arith, within))
earned-at rent statements a (first ∷ shapes) zero shape within =
    let here : a ≡ a + 0 = omega arith in
    ap (λ (n : ℕ). weighted_rents (λ q s. rent q s n) first.table 1 statements) here
earned-at rent statements a (first ∷ shapes) (suc i) shape within =
    let next : suc a + i ≡ a + suc i = omega arith in
    earned-at rent statements (suc a) shapes i shape (omega (arith, within)) ∙ ap (λ (n : ℕ). weighted_rents (λ q s. rent q s n) (get_or shapes i shape).table 1 statements) next

-- what a candidate that is in costs, and what one earns
abbrev pub cost_of : TheSetting → TheMultipliers → Node → ℕ → IndexShape → ℕ
cost_of setting multipliers node a shape = if has_candidate node.inside a then candidate_cost setting multipliers shape else 0

abbrev pub earning_of : TheSetting → TheMultipliers → ℕ → Node → ℕ → IndexShape → ℕ
earning_of setting multipliers budget node a shape =
    if has_candidate node.inside a then candidate_rents setting multipliers a shape else
    if is_open setting.cat setting.shapes budget node a
    then candidate_rents setting multipliers a shape - candidate_cost setting multipliers shape else 0

pub costs_inside-more : (setting : TheSetting) (multipliers : TheMultipliers) (node : Node) (a : ℕ) (shapes : List IndexShape) (shape : IndexShape) →
    costs_inside setting multipliers node a (shapes ++ shape ∷ []) ≡ costs_inside setting multipliers node a shapes + cost_of setting multipliers node (a + length shapes) shape
costs_inside-more setting multipliers node a [] shape =
    let here : a ≡ a + 0 = omega arith in
    let same : cost_of setting multipliers node a shape ≡ cost_of setting multipliers node (a + 0) shape = ap (λ (n : ℕ). cost_of setting multipliers node n shape) here in
    omega (arith, same)
costs_inside-more setting multipliers node a (first ∷ shapes) shape =
    let next : suc a + length shapes ≡ a + suc (length shapes) = omega arith in
    let same : cost_of setting multipliers node (suc a + length shapes) shape ≡ cost_of setting multipliers node (a + suc (length shapes)) shape = ap (λ (n : ℕ). cost_of setting multipliers node n shape) next in
    omega (arith, costs_inside-more setting multipliers node (suc a) shapes shape, same)

pub earnings-more : (setting : TheSetting) (multipliers : TheMultipliers) (budget : ℕ) (node : Node) (a : ℕ) (shapes : List IndexShape) (shape : IndexShape) →
    earnings setting multipliers budget node a (shapes ++ shape ∷ []) ≡ earnings setting multipliers budget node a shapes + earning_of setting multipliers budget node (a + length shapes) shape
earnings-more setting multipliers budget node a [] shape =
    let here : a ≡ a + 0 = omega arith in
    let same : earning_of setting multipliers budget node a shape ≡ earning_of setting multipliers budget node (a + 0) shape = ap (λ (n : ℕ). earning_of setting multipliers budget node n shape) here in
    omega (arith, same)
earnings-more setting multipliers budget node a (first ∷ shapes) shape =
    let next : suc a + length shapes ≡ a + suc (length shapes) = omega arith in
    let same : earning_of setting multipliers budget node (suc a + length shapes) shape ≡ earning_of setting multipliers budget node (a + suc (length shapes)) shape = ap (λ (n : ℕ). earning_of setting multipliers budget node n shape) next in
    omega (arith, earnings-more setting multipliers budget node (suc a) shapes shape, same)
