-- In a programme that stands for a setting, what it tells of a node is the setting's Lagrangian value.
use Rattle.std.proofs.Common.{◌≡◌, ◌∙◌, inl, inr, ℕ, zero, suc, ◌+◌, ◌-◌, ◌*◌, ◌≤◌, Bool, true, false, not, ◌&&◌, List, [], ◌∷◌, length, All, map, drop, ℤ, pos, negsuc, ◌+ℤ◌, ◌-ℤ◌, refl, sym, ap, subst, arith}
use Rattle.std.specs.Prelude.{Option, Some, None, if◌then◌else◌, slice_get, slice_index_or}
use Rattle.std.specs.Int.{int_div_euclid}
use Rattle.std.specs.Option.{option_map_or}
use Rattle.std.proofs.lemmas.Int.{ints}
use Rattle.std.proofs.lemmas.List.{length-map}
use Rattle.std.proofs.lemmas.List.Elements.{All-head, All-tail}
use Rattle.std.proofs.lemmas.Option.{slice_get_cases}
use Rattle.adv_base.specs.declared.catalogue.index.IndexShape.{IndexShape}
use Rattle.adv_base.specs.declared.limits.TheConstants.{MOST_RENT}
use Rattle.adv_base.specs.declared.setting.Config.{Config}
use Rattle.adv_base.specs.declared.workload.Statement.{Statement}
use Rattle.adv_base.specs.declared.workload.Work.{Work}
use Rattle.adv_base.specs.declared.workload.Work.TheVariants.{Select, Update, Delete, Insert}
use Rattle.adv_base.specs.declared.workload.block.Block.{Block}
use Rattle.adv_base.specs.Configs.{Space, has_candidate}
use Rattle.adv_base.specs.Laws.{IsRent}
use Rattle.adv_base.specs.Named.{NamesWork}
use Rattle.adv_base.specs.Nodes as nodes
use Rattle.adv_base.specs.Settings.{TheSetting, KeepsLimits}
use Rattle.adv_base.specs.Sizes.{shape_pages}
use Rattle.plan_model.specs.Exchange.{sum_below}
use Rattle.plan_model.specs.Lagrangian as plain
use Rattle.plan_model.specs.Totals.{block_of, weighted_sum}
use Rattle.plan_model.proofs.Renting.{flag-of}
use Rattle.plan_model.proofs.SetLaws.{sum_below-same}
use Rattle.plan_model.proofs.Sums.{total, sum-total, places, sum_below-places}
use Rattle.bip_model.specs.declared.fix.Fix.{Fix}
use Rattle.bip_model.specs.declared.fix.State.{State}
use Rattle.bip_model.specs.declared.fix.State.TheVariants.{Free, In, Out}
use Rattle.bip_model.specs.declared.part.Part.{Part}
use Rattle.bip_model.specs.declared.programme.Programme.{Programme}
use Rattle.bip_model.specs.declared.multipliers.Multipliers.{Multipliers}
use Rattle.bip_model.specs.Values.{part_grants, grant_count}
use Rattle.bip_model.specs.StandsFor.{AreEach, Blocked, IsPart, blocked_in, blocked_from, StandsFor}
use Rattle.bip_model.specs.Views.{space_in, is_in, is_out, node_of, state_at, rent_at, multipliers_of, AreMultipliers}
use Rattle.bip_model.specs.Views as views
use Rattle.bip_model.proofs.Deciding.{space-same}
use Rattle.bip_model.proofs.Totalling.{named-of}
use Rattle.bip_model.proofs.Lists.{map-or}
use Rattle.lagrange_bound.specs.Bounds.{fits_at, candidate_cost, candidate_rents, paid, earned, paid_in_all, earned_in_all, rounded_up, value_of_plans, costs_at, lagrangian}
use Rattle.lagrange_bound.specs.Laws.{AreLeastPlans}
use Rattle.lagrange_bound.specs.Rented.{rented_cost, plan_costs, weighted_costs}
use Rattle.lagrange_bound.proofs.RentPlaces.{SlotsAre, PartsAre, parts-rents}
use Rattle.lagrange_bound.proofs.StandingRents.{rented-least}
use Rattle.lagrange_bound.proofs.CandidateRents.{parts-ascending, parts-one}

-- ## Rounding

rounded : (more less : ℕ) (z : ℤ) → z ≡ (pos more -ℤ pos less) +ℤ pos 65535 → plain.IsRoundedUp more less (int_div_euclid z (pos 65536))
rounded more less (pos a) is =
    let same : a + less ≡ more + 65535 = omega (arith, ints, is) in
    (omega (arith, same), omega (arith, same))
rounded more less (negsuc a) is =
    let same : less ≡ more + 65536 + a = omega (arith, ints, is) in
    (omega (arith, same), omega (arith, same))

-- ## Which candidates may be used

map-default : {X Y : Type 0} (f : X → Y) (xs : List X) (i : ℕ) (d : X) → slice_index_or (map f xs) i (f d) ≡ f (slice_index_or xs i d)
map-default f [] i d = refl
map-default f (x ∷ xs) zero d = refl
map-default f (x ∷ xs) (suc i) d = map-default f xs i d

inside-is : (fix : Fix) (i : ℕ) → has_candidate (node_of fix).inside (suc i) ≡ is_in (state_at fix i)
inside-is fix i = flag-of (node_of fix).inside i ∙ map-default is_in fix.state i Free

outside-is : (fix : Fix) (i : ℕ) → has_candidate (node_of fix).outside (suc i) ≡ is_out (state_at fix i)
outside-is fix i = flag-of (node_of fix).outside i ∙ map-default is_out fix.state i Free

open-is : (setting : TheSetting) (programme : Programme) (budget : ℕ) (fix : Fix) (i : ℕ) → StandsFor setting programme →
    nodes.is_open setting.cat setting.shapes budget (node_of fix) (suc i) ≡ ((not (is_in (state_at fix i)) && not (is_out (state_at fix i))) && fits_at programme budget fix i)
open-is setting programme budget fix i stands =
    ap (λ (space : Space). nodes.is_open_in space (node_of fix) (suc i)) (space-same setting programme budget stands)
    ∙ ap (λ (b : Bool). (not b && not (has_candidate (node_of fix).outside (suc i))) && fits_at programme budget fix i) (inside-is fix i)
    ∙ ap (λ (b : Bool). (not (is_in (state_at fix i)) && not b) && fits_at programme budget fix i) (outside-is fix i)

available-is : (setting : TheSetting) (programme : Programme) (budget : ℕ) (fix : Fix) → StandsFor setting programme →
    nodes.available_in (space_in programme budget) (node_of fix) ≡ nodes.available setting.cat setting.shapes budget (node_of fix)
available-is setting programme budget fix stands = ap (λ (space : Space). nodes.available_in space (node_of fix)) (sym (space-same setting programme budget stands))

-- ## What candidates cost and earn

cost-is : (setting : TheSetting) (programme : Programme) (multipliers : plain.TheMultipliers) (i : ℕ) (shape : IndexShape) → StandsFor setting programme → slice_get setting.shapes i ≡ Some shape →
    candidate_cost programme multipliers.page i ≡ plain.candidate_cost setting multipliers shape
unfolding candidate_cost
cost-is setting programme multipliers i shape stands found =
    let size : slice_index_or programme.sizes i 0 ≡ shape_pages setting.cat shape =
    ap (λ (sizes : List ℕ). slice_index_or sizes i 0) stands.sizes_are ∙ sym (map-or (shape_pages setting.cat) setting.shapes i) ∙ ap (λ (o : Option IndexShape). option_map_or (shape_pages setting.cat) o 0) found in
    let upkeep : slice_index_or programme.upkeep i 0 ≡ plain.weighted_upkeep setting shape =
    ap (λ (costs : List ℕ). slice_index_or costs i 0) stands.upkeep_is ∙ sym (map-or (plain.weighted_upkeep setting) setting.shapes i) ∙ ap (λ (o : Option IndexShape). option_map_or (plain.weighted_upkeep setting) o 0) found in
    ap (λ (n : ℕ). 65536 * n + multipliers.page * slice_index_or programme.sizes i 0) upkeep ∙ ap (λ (n : ℕ). 65536 * plain.weighted_upkeep setting shape + multipliers.page * n) size

-- a sum over the candidates' places is one over the shapes
sum-shapes : (f : ℕ → IndexShape → ℕ) (g : ℕ → ℕ) (shapes : List IndexShape) → ((i : ℕ) (shape : IndexShape) → slice_get shapes i ≡ Some shape → g i ≡ f (suc i) shape) → sum_below g (length shapes) ≡ places f 1 shapes
sum-shapes f g shapes same =
    sum_below-same g (λ i. option_map_or (f (1 + i)) (slice_get shapes i) 0) (length shapes)
    (λ i below.
    elim (slice_get_cases shapes i).1 [
      | inl there ↦
          let number : suc i ≡ 1 + i = omega arith in
          same i there.0 there.2 ∙ ap (λ (n : ℕ). f n there.0) number ∙ sym (ap (λ (o : Option IndexShape). option_map_or (f (1 + i)) o 0) there.2)
      | inr past ↦ absurd (omega (arith, below, past.0))
    ])
    ∙ sum_below-places f 1 shapes

paid-is : (setting : TheSetting) (programme : Programme) (fix : Fix) (multipliers : Multipliers) → StandsFor setting programme →
    paid_in_all programme fix multipliers ≡ plain.costs_inside setting (multipliers_of programme multipliers) (node_of fix) 1 setting.shapes
unfolding paid_in_all
paid-is setting programme fix multipliers stands =
    let M : plain.TheMultipliers = multipliers_of programme multipliers in
    let f : ℕ → IndexShape → ℕ = λ a shape. if has_candidate (node_of fix).inside a then plain.candidate_cost setting M shape else 0 in
    let count : length programme.sizes ≡ length setting.shapes = ap length stands.sizes_are ∙ length-map setting.shapes (shape_pages setting.cat) in
    ap (sum_below (λ i. paid (state_at fix i) (candidate_cost programme multipliers.mu i))) count
    ∙ sum-shapes f (λ i. paid (state_at fix i) (candidate_cost programme multipliers.mu i)) setting.shapes
    (λ i shape found.
    ap (paid (state_at fix i)) (cost-is setting programme M i shape stands found)
    ∙ by-state (state_at fix i) (plain.candidate_cost setting M shape)
    ∙ ap (λ (b : Bool). if b then plain.candidate_cost setting M shape else 0) (sym (inside-is fix i)))
    ∙ costs M 1 setting.shapes
  where
    by-state : (state : State) (cost : ℕ) → paid state cost ≡ (if is_in state then cost else 0)
    by-state In cost = refl
    by-state Out cost = refl
    by-state Free cost = refl

    costs : (M : plain.TheMultipliers) (a : ℕ) (shapes : List IndexShape) → places (λ a shape. if has_candidate (node_of fix).inside a then plain.candidate_cost setting M shape else 0) a shapes ≡ plain.costs_inside setting M (node_of fix) a shapes
    costs M a [] = refl
    costs M a (shape ∷ shapes) = ap (λ (n : ℕ). (if has_candidate (node_of fix).inside a then plain.candidate_cost setting M shape else 0) + n) (costs M (suc a) shapes)

earned-is : (setting : TheSetting) (programme : Programme) (budget : ℕ) (fix : Fix) (multipliers : Multipliers) → StandsFor setting programme →
    PartsAre (multipliers_of programme multipliers).rent programme.parts multipliers.lambda →
    earned_in_all programme budget fix multipliers ≡ plain.earnings setting (multipliers_of programme multipliers) budget (node_of fix) 1 setting.shapes
unfolding earned_in_all candidate_rents
earned-is setting programme budget fix multipliers stands rented =
    let M : plain.TheMultipliers = multipliers_of programme multipliers in
    let f : ℕ → IndexShape → ℕ = λ a shape.
    if has_candidate (node_of fix).inside a then plain.candidate_rents setting M a shape else
    if nodes.is_open setting.cat setting.shapes budget (node_of fix) a then plain.candidate_rents setting M a shape - plain.candidate_cost setting M shape else 0 in
    let g : ℕ → ℕ = λ i. earned (state_at fix i) (fits_at programme budget fix i) (candidate_cost programme multipliers.mu i) (candidate_rents programme multipliers.lambda i) in
    let count : length programme.sizes ≡ length setting.shapes = ap length stands.sizes_are ∙ length-map setting.shapes (shape_pages setting.cat) in
    ap (sum_below g) count
    ∙ sum-shapes f g setting.shapes
    (λ i shape found.
    let rents : candidate_rents programme multipliers.lambda i ≡ plain.candidate_rents setting M (suc i) shape =
    ap (λ (n : ℕ). 65536 * n) (parts-one M.rent setting i shape 1 setting.statements programme.parts multipliers.lambda found stands.parts_are rented) in
    let state : State = state_at fix i in
    let fits : Bool = fits_at programme budget fix i in
    let cost : ℕ = plain.candidate_cost setting M shape in
    let own : ℕ = plain.candidate_rents setting M (suc i) shape in
    ap (λ (n : ℕ). earned state fits n (candidate_rents programme multipliers.lambda i)) (cost-is setting programme M i shape stands found)
    ∙ ap (earned state fits cost) rents
    ∙ by-state state fits cost own
    ∙ ap (λ (b : Bool). if b then own else if (not (is_in state) && not (is_out state)) && fits then own - cost else 0) (sym (inside-is fix i))
    ∙ ap (λ (b : Bool). if has_candidate (node_of fix).inside (suc i) then own else if b then own - cost else 0) (sym (open-is setting programme budget fix i stands)))
    ∙ sums M 1 setting.shapes
  where
    by-state : (state : State) (fits : Bool) (cost rents : ℕ) → earned state fits cost rents ≡ (if is_in state then rents else if (not (is_in state) && not (is_out state)) && fits then rents - cost else 0)
    by-state In fits cost rents = refl
    by-state Out fits cost rents = refl
    by-state Free true cost rents = refl
    by-state Free false cost rents = refl

    sums : (M : plain.TheMultipliers) (a : ℕ) (shapes : List IndexShape) →
        places
        (λ a shape. if has_candidate (node_of fix).inside a then plain.candidate_rents setting M a shape else
        if nodes.is_open setting.cat setting.shapes budget (node_of fix) a then plain.candidate_rents setting M a shape - plain.candidate_cost setting M shape else 0)
        a shapes
        ≡ plain.earnings setting M budget (node_of fix) a shapes
    sums M a [] = refl
    sums M a (shape ∷ shapes) =
        ap
        (λ (n : ℕ). (if has_candidate (node_of fix).inside a then plain.candidate_rents setting M a shape else
        if nodes.is_open setting.cat setting.shapes budget (node_of fix) a then plain.candidate_rents setting M a shape - plain.candidate_cost setting M shape else 0)
        + n)
        (sums M (suc a) shapes)

-- ## What plans cost

plan-of : (setting : TheSetting) (config : Config) (rent : ℕ → ℕ → ℕ) (work : Work) (block : Block) (cost : ℕ) → block_of work ≡ Some block → plain.IsRentedCost setting config rent block cost → plain.IsRentedPlan setting config rent work cost
plan-of setting config rent (Select own) block cost is plan = let same : own ≡ block = cc in subst (λ b. plain.IsRentedCost setting config rent b cost) (sym same) plan
plan-of setting config rent (Update own columns) block cost is plan = let same : own ≡ block = cc in subst (λ b. plain.IsRentedCost setting config rent b cost) (sym same) plan
plan-of setting config rent (Delete own) block cost is plan = let same : own ≡ block = cc in subst (λ b. plain.IsRentedCost setting config rent b cost) (sym same) plan
plan-of setting config rent (Insert table rows) block cost is plan = absurd (cc)

no_plan-of : (setting : TheSetting) (config : Config) (rent : ℕ → ℕ → ℕ) (work : Work) → block_of work ≡ None → plain.IsRentedPlan setting config rent work 0
no_plan-of setting config rent (Select own) is = absurd (cc)
no_plan-of setting config rent (Update own columns) is = absurd (cc)
no_plan-of setting config rent (Delete own) is = absurd (cc)
no_plan-of setting config rent (Insert table rows) is = refl

record AreSummed (setting : TheSetting) (config : Config) (rent : ℕ → ℕ → ℕ → ℕ) (q : ℕ) (statements : List Statement) (parts : List Part) (rents : List ℕ) : Type 0 where
  costs : List ℕ
  costs_are : plain.AreRentedPlans setting config rent q statements costs
  sum : weighted_sum statements costs ≡ weighted_costs parts (plan_costs config parts rents)

summed : (setting : TheSetting) (config : Config) (rent : ℕ → ℕ → ℕ → ℕ) → ((r : ℕ) → IsRent (rent r)) → (q : ℕ) (statements : List Statement) (parts : List Part) (rents : List ℕ) → All (λ statement. NamesWork setting.cat statement.work) statements →
    AreEach (IsPart setting) (blocked_from q statements) parts → PartsAre rent parts rents → AreSummed setting config rent q statements parts rents
summed setting config rent limit q [] [] rents named are rented = record { costs = []; costs_are = tt; sum = refl }
summed setting config rent limit q [] (part ∷ parts) rents named are rented = absurd are
summed setting config rent limit q (statement ∷ statements) parts rents named are rented =
    one (block_of statement.work) refl (λ ps rs each own. summed setting config rent limit (suc q) statements ps rs (All-tail (λ (s : Statement). NamesWork setting.cat s.work) statement statements named) each own) parts rents are rented
  where
    here : NamesWork setting.cat statement.work
    here = All-head (λ (s : Statement). NamesWork setting.cat s.work) statement statements named

    one : (there : Option Block) → block_of statement.work ≡ there →
        ((ps : List Part) (rs : List ℕ) → AreEach (IsPart setting) (blocked_from (suc q) statements) ps → PartsAre rent ps rs → AreSummed setting config rent (suc q) statements ps rs) →
        (parts : List Part) (rents : List ℕ) → AreEach (IsPart setting) (blocked_in q statement.weight there (blocked_from (suc q) statements)) parts → PartsAre rent parts rents → AreSummed setting config rent q (statement ∷ statements) parts rents
    one None none more parts rents are rented =
        let rest = more parts rents are rented in
        record { costs = 0 ∷ rest.costs; costs_are = (no_plan-of setting config (rent q) statement.work none, rest.costs_are); sum = omega (arith, rest.sum) }
    one (Some block) is more [] rents are rented = absurd are
    one (Some block) is more (part ∷ parts) rents are rented =
        let rest = more parts (drop (part_grants part) rents) are.1 rented.1 in
        let own = are.0 in
        let blocked : Blocked = record { number = q; weight = statement.weight; block = block } in
        let cost : ℕ = rented_cost config part rents in
        let paid_here : SlotsAre (rent q) 0 part.slots rents = subst (λ (r : ℕ). SlotsAre (rent r) 0 part.slots rents) own.statement_is rented.0 in
        let least = rented-least (rent q) setting blocked part config rents (limit q) (named-of setting.cat statement.work block here is) own paid_here in
        let plan : plain.IsRentedCost setting config (rent q) block cost = record { task = own.task; task_is = own.task_is; least = least } in
        let same : part.weight * cost ≡ statement.weight * cost = ap (λ (w : ℕ). w * cost) own.weight_is in
        record {
          costs = cost ∷ rest.costs;
          costs_are = (plan-of setting config (rent q) statement.work block cost is plan, rest.costs_are);
          sum = omega (arith, rest.sum, same);
        }

-- the costs of the parts' plans are those of least plans of their blocks
abbrev IsRentedFor : TheSetting → Config → (ℕ → ℕ → ℕ → ℕ) → Blocked → ℕ → Type 0
IsRentedFor setting config rent blocked cost = plain.IsRentedCost setting config (rent blocked.number) blocked.block cost

least-each : (setting : TheSetting) (config : Config) (rent : ℕ → ℕ → ℕ → ℕ) → ((r : ℕ) → IsRent (rent r)) → (q : ℕ) (statements : List Statement) (parts : List Part) (rents : List ℕ) → All (λ statement. NamesWork setting.cat statement.work) statements →
    AreEach (IsPart setting) (blocked_from q statements) parts → PartsAre rent parts rents → AreEach (IsRentedFor setting config rent) (blocked_from q statements) (plan_costs config parts rents)
least-each setting config rent limit q [] [] rents named are rented = tt
least-each setting config rent limit q [] (part ∷ parts) rents named are rented = absurd are
least-each setting config rent limit q (statement ∷ statements) parts rents named are rented =
    one (block_of statement.work) refl (λ ps rs each own. least-each setting config rent limit (suc q) statements ps rs (All-tail (λ (s : Statement). NamesWork setting.cat s.work) statement statements named) each own) parts rents are rented
  where
    here : NamesWork setting.cat statement.work
    here = All-head (λ (s : Statement). NamesWork setting.cat s.work) statement statements named

    one : (there : Option Block) → block_of statement.work ≡ there →
        ((ps : List Part) (rs : List ℕ) → AreEach (IsPart setting) (blocked_from (suc q) statements) ps → PartsAre rent ps rs → AreEach (IsRentedFor setting config rent) (blocked_from (suc q) statements) (plan_costs config ps rs)) →
        (parts : List Part) (rents : List ℕ) → AreEach (IsPart setting) (blocked_in q statement.weight there (blocked_from (suc q) statements)) parts → PartsAre rent parts rents →
        AreEach (IsRentedFor setting config rent) (blocked_in q statement.weight there (blocked_from (suc q) statements)) (plan_costs config parts rents)
    one None none more parts rents are rented = more parts rents are rented
    one (Some block) is more [] rents are rented = absurd are
    one (Some block) is more (part ∷ parts) rents are rented =
        let blocked : Blocked = record { number = q; weight = statement.weight; block = block } in
        let paid_here : SlotsAre (rent q) 0 part.slots rents = subst (λ (r : ℕ). SlotsAre (rent r) 0 part.slots rents) are.0.statement_is rented.0 in
        let least = rented-least (rent q) setting blocked part config rents (limit q) (named-of setting.cat statement.work block here is) are.0 paid_here in
        (record { task = are.0.task; task_is = are.0.task_is; least = least }, more parts (drop (part_grants part) rents) are.1 rented.1)

-- ## Rents within limits

rent-most : (list : List views.Place) (rents : List ℕ) (q s a most : ℕ) → All (λ rent. rent ≤ most) rents → rent_at list rents q s a ≤ most
rent-most [] rents q s a most are = omega arith
rent-most (place ∷ list) [] q s a most are = omega arith
rent-most (place ∷ list) (rent ∷ rents) q s a most are =
    either-way (views.is_place place q s a) (All-head (λ (r : ℕ). r ≤ most) rent rents are) (rent-most list rents q s a most (All-tail (λ (r : ℕ). r ≤ most) rent rents are))
  where
    either-way : (b : Bool) → rent ≤ most → rent_at list rents q s a ≤ most → (if b then rent else rent_at list rents q s a) ≤ most
    either-way true first second = first
    either-way false first second = second

parts-are : (setting : TheSetting) (programme : Programme) (multipliers : Multipliers) → StandsFor setting programme → AreMultipliers programme multipliers →
    PartsAre (multipliers_of programme multipliers).rent programme.parts multipliers.lambda
unfolding grant_count
parts-are setting programme multipliers stands are =
    let enough : length multipliers.lambda ≡ total part_grants programme.parts = are.one_each ∙ sum-total part_grants programme.parts in
    parts-rents 1 programme.parts multipliers.lambda (parts-ascending setting 1 setting.statements programme.parts stands.parts_are) (omega (arith, enough))

-- ## The value

pub lagrangian-is : (setting : TheSetting) (programme : Programme) (budget : ℕ) (fix : Fix) (multipliers : Multipliers) → KeepsLimits setting → StandsFor setting programme → AreMultipliers programme multipliers →
    plain.IsLagrangian setting budget (node_of fix) (multipliers_of programme multipliers) (lagrangian programme budget fix multipliers)
unfolding lagrangian value_of_plans
lagrangian-is setting programme budget fix multipliers limits stands are =
    let M : plain.TheMultipliers = multipliers_of programme multipliers in
    let config : Config = nodes.available setting.cat setting.shapes budget (node_of fix) in
    let rented : PartsAre M.rent programme.parts multipliers.lambda = parts-are setting programme multipliers stands are in
    let limit : (r : ℕ) → IsRent (M.rent r) = λ r s a. rent-most (views.places programme) multipliers.lambda r s a MOST_RENT are.rents_most in
    let plans = summed setting config M.rent limit 1 setting.statements programme.parts multipliers.lambda limits.statements_named stands.parts_are rented in
    let costs : weighted_costs programme.parts (costs_at programme budget fix multipliers) ≡ weighted_sum setting.statements plans.costs =
    ap (λ (c : Config). weighted_costs programme.parts (plan_costs c programme.parts multipliers.lambda)) (available-is setting programme budget fix stands) ∙ sym plans.sum in
    let more : 65536 * (weighted_costs programme.parts (costs_at programme budget fix multipliers) + programme.kept) + paid_in_all programme fix multipliers
    ≡ 65536 * (weighted_sum setting.statements plans.costs + plain.weighted_kept setting) + plain.costs_inside setting M (node_of fix) 1 setting.shapes =
    omega (arith, costs, stands.kept_is, paid-is setting programme fix multipliers stands) in
    let less : earned_in_all programme budget fix multipliers + multipliers.mu * budget ≡ plain.earnings setting M budget (node_of fix) 1 setting.shapes + M.page * budget =
    ap (λ (n : ℕ). n + multipliers.mu * budget) (earned-is setting programme budget fix multipliers stands rented) in
    let up : ℕ = 65536 * (weighted_costs programme.parts (costs_at programme budget fix multipliers) + programme.kept) + paid_in_all programme fix multipliers in
    let down : ℕ = earned_in_all programme budget fix multipliers + multipliers.mu * budget in
    record {
      costs = plans.costs;
      costs_are = plans.costs_are;
      value_is =
          subst (λ (n : ℕ). plain.IsRoundedUp n (plain.earnings setting M budget (node_of fix) 1 setting.shapes + M.page * budget) (rounded_up up down)) more
          (subst (λ (n : ℕ). plain.IsRoundedUp up n (rounded_up up down)) less (rounded up down ((pos up -ℤ pos down) +ℤ pos 65535) refl));
    }

-- the plan costs in it
pub plans-least : (setting : TheSetting) (programme : Programme) (budget : ℕ) (fix : Fix) (multipliers : Multipliers) → KeepsLimits setting → StandsFor setting programme → AreMultipliers programme multipliers →
    AreLeastPlans setting budget (node_of fix) (multipliers_of programme multipliers) (costs_at programme budget fix multipliers)
plans-least setting programme budget fix multipliers limits stands are =
    let M : plain.TheMultipliers = multipliers_of programme multipliers in
    let config : Config = nodes.available setting.cat setting.shapes budget (node_of fix) in
    let rented : PartsAre M.rent programme.parts multipliers.lambda = parts-are setting programme multipliers stands are in
    let limit : (r : ℕ) → IsRent (M.rent r) = λ r s a. rent-most (views.places programme) multipliers.lambda r s a MOST_RENT are.rents_most in
    subst (λ (c : Config). AreEach (IsRentedFor setting config M.rent) (blocked_from 1 setting.statements) (plan_costs c programme.parts multipliers.lambda)) (sym (available-is setting programme budget fix stands))
    (least-each setting config M.rent limit 1 setting.statements programme.parts multipliers.lambda limits.statements_named stands.parts_are rented)
