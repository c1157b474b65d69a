-- The best answer of a search keeps the limits of certificates.
use Rattle.std.proofs.Common.{◌≡◌, ◌∙◌, ℕ, zero, suc, ◌+◌, ◌-◌, ◌*◌, ◌<◌, ◌≤◌, ◌^◌, ◌==◌, Bool, true, false, cond, List, [], ◌∷◌, ◌++◌, length, map, ℤ, pos, negsuc, sym, ap, subst, arith}
use Rattle.std.specs.Prelude.{All, Some, ◌≤ℤ◌}
use Rattle.std.specs.Option.{option_map_or}
use Rattle.std.proofs.Math.Nat.{mul-le-mul}
use Rattle.std.proofs.lemmas.Int.{ints}
use Rattle.std.proofs.lemmas.List.{length-map}
use Rattle.std.proofs.lemmas.List.Elements.{All-cons, All-append, All-nil}
use Rattle.std.proofs.lemmas.Option.{slice_get_within}
use Rattle.adv_base.specs.declared.catalogue.index.IndexShape.{IndexShape}
use Rattle.adv_base.specs.declared.limits.TheConstants.{MOST_RENT, MOST_PAGES, MOST_NODES}
use Rattle.adv_base.specs.declared.workload.Statement.{Statement}
use Rattle.adv_base.specs.declared.workload.Work.{Work}
use Rattle.adv_base.specs.declared.workload.Work.TheVariants.{Select, Update, Delete, Insert}
use Rattle.adv_base.specs.declared.workload.block.Block.{Block}
use Rattle.adv_base.specs.declared.workload.parts.Slot.{Slot}
use Rattle.adv_base.specs.Configs.{has_candidate}
use Rattle.adv_base.specs.Nodes as nodes
use Rattle.adv_base.specs.Settings.{TheSetting, KeepsLimits}
use Rattle.adv_base.proofs.OfferBounds.{offers-limits}
use Rattle.plan_model.specs.declared.plan.TheConstants.{MOST_TOTAL}
use Rattle.plan_model.specs.Lagrangian.{TheMultipliers, IsRoundedUp, slot_rents, weighted_rents, candidate_cost, candidate_rents, earnings}
use Rattle.plan_model.specs.Totals.{block_of, IsTotal}
use Rattle.plan_model.proofs.TotalBound.{total-below}
use Rattle.bip_model.specs.declared.answer.Answer.{Answer}
use Rattle.bip_model.specs.declared.answer.Node.TheVariants.{Branch, Bounded, Overfull}
use Rattle.bip_model.specs.declared.multipliers.Multipliers.{Multipliers}
use Rattle.bip_model.specs.declared.programme.Programme.{Programme}
use Rattle.bip_model.specs.Best.{IsBest, sets_in}
use Rattle.bip_model.specs.StandsFor.{StandsFor}
use Rattle.bip_model.specs.Trees.{Tree, Branches, Leaf, Full, Rule, ByFit, preorder, in_side, out_side, set_at, Shows}
use Rattle.bip_model.specs.Uses.{uses, multipliers_in, AreMultipliersIn, share, rent_multipliers}
use Rattle.bip_model.specs.Views.{Place, is_place, rent_at, AreMultipliers}
use Rattle.bip_model.proofs.Using.{places-used, places-counted}
use Rattle.certificate.specs.Answers.{AnswerLimits}
use Rattle.certificate.specs.Limits.{IsSmall, NodeLimits, AreTrees}
use Rattle.certificate.proofs.TreeLaws.{preorder-whole}

-- ## The rents of rent multipliers are within their limit, so candidates earn little

pick-most : (b : Bool) (x y most : ℕ) → x ≤ most → y ≤ most → cond b x y ≤ most
pick-most true x y most first second = first
pick-most false x y most first second = second

mapped-most : (f : Place → ℕ) → ((place : Place) → f place ≤ MOST_RENT) → (list : List Place) (q s a : ℕ) → rent_at list (map f list) q s a ≤ MOST_RENT
mapped-most f most [] q s a = omega arith
mapped-most f most (place ∷ list) q s a =
    pick-most (is_place place q s a) (f place) (rent_at list (map f list) q s a) MOST_RENT (most place) (mapped-most f most list q s a)

share-most : (setting : TheSetting) (page : ℕ) (place : Place) → share setting page place ≤ MOST_RENT
share-most setting page place = omega arith

rent-most : (setting : TheSetting) (page q s a : ℕ) → (rent_multipliers setting page).rent q s a ≤ MOST_RENT
rent-most setting page q s a = mapped-most (share setting page) (share-most setting page) (uses setting) q s a

slots-most : (rent : ℕ → ℕ) (t s : ℕ) (slots : List Slot) → ((k : ℕ) → rent k ≤ MOST_RENT) → slot_rents rent t s slots ≤ length slots * MOST_RENT
slots-most rent t s [] most = omega arith
slots-most rent t s (slot ∷ slots) most =
    let here : cond (slot.table == t) (rent s) 0 ≤ MOST_RENT = pick-most (slot.table == t) (rent s) 0 MOST_RENT (most s) (omega arith) in
    omega (arith, here, slots-most rent t (suc s) slots most)

block-most : (rent : ℕ → ℕ) (t : ℕ) (block : Block) → ((k : ℕ) → rent k ≤ MOST_RENT) → slot_rents rent t 0 block.slots ≤ 8 * MOST_RENT
block-most rent t block most = omega (arith, slots-most rent t 0 block.slots most, block.limits.slots_most)

work-most : (rent : ℕ → ℕ) (t : ℕ) (work : Work) → ((k : ℕ) → rent k ≤ MOST_RENT) → option_map_or (λ block. slot_rents rent t 0 block.slots) (block_of work) 0 ≤ 8 * MOST_RENT
work-most rent t (Select block) most = block-most rent t block most
work-most rent t (Update block columns) most = block-most rent t block most
work-most rent t (Delete block) most = block-most rent t block most
work-most rent t (Insert table rows) most = omega arith

weighted-most : (rent : ℕ → ℕ → ℕ) (t q : ℕ) (statements : List Statement) → ((r k : ℕ) → rent r k ≤ MOST_RENT) → weighted_rents rent t q statements ≤ length statements * (1000000 * (8 * MOST_RENT))
weighted-most rent t q [] most = omega arith
weighted-most rent t q (statement ∷ statements) most =
    let own = work-most (rent q) t statement.work (most q) in
    let here : statement.weight * option_map_or (λ block. slot_rents (rent q) t 0 block.slots) (block_of statement.work) 0 ≤ 1000000 * (8 * MOST_RENT) = mul-le-mul statement.limits.weight_most own in
    omega (arith, here, weighted-most rent t (suc q) statements most)

abbrev MOST_EARNED : ℕ
MOST_EARNED = 65536 * (1000 * (1000000 * (8 * MOST_RENT)))

candidate-most : (setting : TheSetting) (multipliers : TheMultipliers) (a : ℕ) (shape : IndexShape) → KeepsLimits setting → ((q s k : ℕ) → multipliers.rent q s k ≤ MOST_RENT) →
    candidate_rents setting multipliers a shape ≤ MOST_EARNED
candidate-most setting multipliers a shape limits most =
    omega (arith, weighted-most (λ q s. multipliers.rent q s a) shape.table 1 setting.statements (λ q s. most q s a), limits.statements_most)

earned-one : (inside free : Bool) (rents cost : ℕ) → rents ≤ MOST_EARNED → cond inside rents (cond free (rents - cost) 0) ≤ MOST_EARNED
earned-one true free rents cost most = most
earned-one false true rents cost most = omega (arith, most)
earned-one false false rents cost most = omega arith

earnings-most : (setting : TheSetting) (multipliers : TheMultipliers) (budget : ℕ) (node : nodes.Node) (a : ℕ) (shapes : List IndexShape) → KeepsLimits setting → ((q s k : ℕ) → multipliers.rent q s k ≤ MOST_RENT) →
    earnings setting multipliers budget node a shapes ≤ length shapes * MOST_EARNED
earnings-most setting multipliers budget node a [] limits most = omega arith
earnings-most setting multipliers budget node a (shape ∷ shapes) limits most =
    let here = earned-one (has_candidate node.inside a) (nodes.is_open setting.cat setting.shapes budget node a) (candidate_rents setting multipliers a shape) (candidate_cost setting multipliers shape)
    (candidate-most setting multipliers a shape limits most) in
    omega (arith, here, earnings-most setting multipliers budget node (suc a) shapes limits most)

-- ## Costs and bounds

cost-small : (setting : TheSetting) (answer : Answer) → KeepsLimits setting → IsTotal setting.cat setting.shapes answer.config setting.statements answer.cost → answer.cost < MOST_TOTAL
cost-small setting answer limits is =
    omega (arith, total-below setting.cat setting.shapes answer.config setting.statements answer.cost limits.shapes_most limits.statements_most (λ k d within block found. offers-limits setting.cat block setting.shapes answer.config) is)

-- a Lagrangian value is no lower than what candidates may earn
value-least : (more less : ℕ) (value : ℤ) → IsRoundedUp more less value → less ≤ 65536 * 10 ^ 37 → negsuc (10 ^ 37) ≤ℤ value
value-least more less (pos n) is few = omega (arith, ints)
value-least more less (negsuc n) is few = let most : n + 1 ≤ 10 ^ 37 = omega (arith, is.0, few) in omega (arith, ints, most)

small-between : (bound value : ℤ) (cost : ℕ) → negsuc (10 ^ 37) ≤ℤ value → value ≤ℤ bound → bound ≤ℤ pos cost → cost < MOST_TOTAL → IsSmall bound
small-between (pos n) value cost low least most small = let below : n ≤ cost = omega (arith, ints, most) in omega (arith, below, small)
small-between (negsuc n) value cost low least most small = let above : n ≤ 10 ^ 37 = omega (arith, ints, low, least) in omega (arith, above)

bound-small : (setting : TheSetting) (budget node_budget : ℕ) (root : nodes.Node) (answer : Answer) → KeepsLimits setting → IsBest setting budget node_budget root answer → IsSmall answer.bound
bound-small setting budget node_budget root answer limits best =
    let rents = best.rents_none in
    let own : TheMultipliers = rent_multipliers setting 0 in
    let earned = earnings-most setting own budget root 1 setting.shapes limits (rent-most setting 0) in
    let few : earnings setting own budget root 1 setting.shapes + 0 * budget ≤ 65536 * 10 ^ 37 = omega (arith, earned, limits.shapes_most) in
    small-between answer.bound rents.value answer.cost
    (value-least _ (earnings setting own budget root 1 setting.shapes + 0 * budget) rents.value rents.value_is.value_is few)
    rents.holds best.bound_most (cost-small setting answer limits best.proves.cost_is)

-- ## Sets

kept-multipliers : (setting : TheSetting) (programme : Programme) (multipliers : Multipliers) → StandsFor setting programme → AreMultipliersIn setting multipliers → AreMultipliers programme multipliers
kept-multipliers setting programme multipliers stands are =
    record {
      one_each = are.one_each ∙ ap (λ (list : List Place). length list) (sym (places-used setting programme stands)) ∙ places-counted programme;
      page_most = are.page_most;
      rents_most = are.rents_most;
    }

-- ## Nodes

set-within : (sets : List TheMultipliers) (k : ℕ) (multipliers : TheMultipliers) → set_at sets k ≡ Some multipliers → k ≤ length sets
set-within sets zero multipliers found = omega arith
set-within sets (suc k) multipliers found = let within = slice_get_within sets k multipliers found in omega (arith, within)

shown-limits : (rule : Rule) (setting : TheSetting) (budget : ℕ) (bound : ℤ) (sets : List TheMultipliers) (node : nodes.Node) (tree : Tree) → KeepsLimits setting → Shows rule setting budget bound sets node tree →
    All (NodeLimits (length sets)) (preorder tree)
shown-limits rule setting budget bound sets node (Branches a inside outside) limits shows =
    All-cons (NodeLimits (length sets)) (Branch a) (preorder inside ++ preorder outside) (shows.0.some, omega (arith, shows.0.within, limits.shapes_most))
    (All-append (NodeLimits (length sets)) (preorder inside) (preorder outside)
    (shown-limits rule setting budget bound sets (in_side node a) inside limits shows.1)
    (shown-limits rule setting budget bound sets (out_side node a) outside limits shows.2))
shown-limits rule setting budget bound sets node (Leaf k) limits shows =
    All-cons (NodeLimits (length sets)) (Bounded k) [] (set-within sets k shows.multipliers shows.found) (All-nil (NodeLimits (length sets)))
shown-limits rule setting budget bound sets node Full limits shows =
    All-cons (NodeLimits (length sets)) Overfull [] tt (All-nil (NodeLimits (length sets)))

-- ## The law

pub best-keeps : (setting : TheSetting) (programme : Programme) (budget node_budget : ℕ) (root : nodes.Node) (answer : Answer) → KeepsLimits setting → StandsFor setting programme →
    budget ≤ MOST_PAGES → node_budget ≤ MOST_NODES → IsBest setting budget node_budget root answer → AnswerLimits programme budget answer
best-keeps setting programme budget node_budget root answer limits stands few_pages few_nodes best =
    let shown = best.proves.shown in
    let count : length (sets_in setting answer) ≡ length answer.sets = length-map answer.sets (multipliers_in setting) in
    let of_tree : All (NodeLimits (length answer.sets)) (preorder shown.tree) =
    subst (λ (n : ℕ). All (NodeLimits n) (preorder shown.tree)) count (shown-limits ByFit setting budget answer.bound (sets_in setting answer) root shown.tree limits shown.shows) in
    record {
      budget_most = few_pages;
      cost_small = omega (arith, cost-small setting answer limits best.proves.cost_is);
      bound_small = bound-small setting budget node_budget root answer limits best;
      few_sets = best.limits.most;
      multipliers = λ k d within. kept-multipliers setting programme _ stands (best.limits.each k d within);
      few_rents = best.limits.entries_most;
      few_nodes = omega (arith, best.nodes_most, few_nodes);
      nodes = subst (All (NodeLimits (length answer.sets))) (sym shown.list_is) of_tree;
      tree = subst (AreTrees 1) (sym shown.list_is) (preorder-whole shown.tree);
    }
