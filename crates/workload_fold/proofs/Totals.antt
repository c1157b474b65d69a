-- A folded workload costs what the whole costs.
use Rattle.std.proofs.Common.{◌≡◌, ◌↔◌, ℕ, ◌+◌, ◌*◌, Bool, true, false, if◌then◌else◌, List, [], ◌∷◌, refl, sym, ap, add-mul, arith}
use Rattle.std.specs.Prelude.{nat_le, fold}
use Rattle.std.specs.List.{enumerate_from}
use Rattle.std.proofs.lemmas.Bool.{and_parts}
use Rattle.adv_base.specs.declared.catalogue.Catalogue.{Catalogue}
use Rattle.adv_base.specs.declared.catalogue.index.IndexShape.{IndexShape}
use Rattle.adv_base.specs.declared.limits.TheConstants.{MOST_WEIGHT}
use Rattle.adv_base.specs.declared.setting.Config.{Config}
use Rattle.adv_base.specs.declared.workload.Statement.{Statement}
use Rattle.plan_model.specs.Totals.{IsCost, AreCosts, weighted_sum, IsTotal}
use Rattle.plan_model.proofs.Unique.{one-cost}
use Rattle.workload_fold.specs.Alike.{is_alike}
use Rattle.workload_fold.specs.Groups.{Group, takes, heavier, joined, groups_of, StandFor, IsFolded}
use Rattle.workload_fold.proofs.Costing.{same_cost}

module _ (cat : Catalogue) (shapes : List IndexShape) (config : Config) where
  -- the cost of each group's first statement
  abbrev AreGroupCosts : List Group → List ℕ → Type 0
  AreGroupCosts [] [] = Unit {0}
  AreGroupCosts (group ∷ groups) (cost ∷ costs) = IsCost cat shapes config group.first.work cost × AreGroupCosts groups costs
  AreGroupCosts groups costs = ⊥

abbrev group_sum : List Group → List ℕ → ℕ
group_sum [] costs = 0
group_sum (group ∷ groups) [] = 0
group_sum (group ∷ groups) (cost ∷ costs) = group.weight * cost + group_sum groups costs

module _ (cat : Catalogue) (shapes : List IndexShape) (config : Config) where
  -- costs of groups with this sum
  record Summed (groups : List Group) (total : ℕ) : Type 0 where
    pub costs : List ℕ
    pub are : AreGroupCosts cat shapes config groups costs
    pub sum : group_sum groups costs ≡ total

  -- ## Forth

  heavier_sum : (w v k c rest : ℕ) → k ≡ c → (w + v) * k + rest ≡ (w * k + rest) + v * c
  heavier_sum w v k c rest e =
      let parts : (w + v) * k ≡ w * k + v * k = add-mul w v k in
      let other : v * k ≡ v * c = ap (λ (n : ℕ). v * n) e in
      omega (arith, parts, other)

  join_costs : (groups : List Group) (costs : List ℕ) (n : ℕ) (s : Statement) (cost : ℕ) → AreGroupCosts cat shapes config groups costs → IsCost cat shapes config s.work cost
      → Summed (joined cat groups (n, s)) (group_sum groups costs + s.weight * cost)
  join_costs [] [] n s cost are is = record { costs = cost ∷ []; are = (is, tt); sum = omega arith }
  join_costs [] (k ∷ costs) n s cost are is = absurd are
  join_costs (group ∷ groups) [] n s cost are is = absurd are
  join_costs (group ∷ groups) (k ∷ costs) n s cost are is = by_case (join_costs groups costs n s cost are.1 is) (takes cat s group) refl
    where
      by_case : Summed (joined cat groups (n, s)) (group_sum groups costs + s.weight * cost) → (b : Bool) → takes cat s group ≡ b
          → Summed (if b then heavier group s.weight ∷ groups else group ∷ joined cat groups (n, s)) ((group.weight * k + group_sum groups costs) + s.weight * cost)
      by_case later true e =
          let both = and_parts (nat_le (group.weight + s.weight) MOST_WEIGHT) (is_alike cat group.first.work s.work) e in
          let same : k ≡ cost = one-cost cat shapes config s.work k cost ((same_cost cat shapes config group.first.work s.work k both.1).0 are.0) is in
          record { costs = k ∷ costs; are = are; sum = heavier_sum group.weight s.weight k cost (group_sum groups costs) same }
      by_case later false e =
          record { costs = k ∷ later.costs; are = (are.0, later.are); sum = omega (arith, later.sum) }

  forth : (groups : List Group) (costs : List ℕ) (n : ℕ) (statements : List Statement) (each : List ℕ) → AreGroupCosts cat shapes config groups costs → AreCosts cat shapes config statements each
      → Summed (fold (joined cat) groups (enumerate_from n statements)) (group_sum groups costs + weighted_sum statements each)
  forth groups costs n [] [] are each_are = record { costs = costs; are = are; sum = omega arith }
  forth groups costs n [] (c ∷ each) are each_are = absurd each_are
  forth groups costs n (s ∷ statements) [] are each_are = absurd each_are
  forth groups costs n (s ∷ statements) (c ∷ each) are each_are =
      let one = join_costs groups costs n s c are each_are.0 in
      let rest = forth (joined cat groups (n, s)) one.costs (n + 1) statements each one.are each_are.1 in
      record { costs = rest.costs; are = rest.are; sum = omega (arith, rest.sum, one.sum) }

  -- ## Back

  -- costs of groups and of a statement with this sum
  record Parted (groups : List Group) (s : Statement) (total : ℕ) : Type 0 where
    pub costs : List ℕ
    pub own : ℕ
    pub are : AreGroupCosts cat shapes config groups costs
    pub is : IsCost cat shapes config s.work own
    pub sum : total ≡ group_sum groups costs + s.weight * own

  part_costs : (groups : List Group) (n : ℕ) (s : Statement) (costs : List ℕ) → AreGroupCosts cat shapes config (joined cat groups (n, s)) costs
      → Parted groups s (group_sum (joined cat groups (n, s)) costs)
  part_costs [] n s [] are = absurd are
  part_costs [] n s (k ∷ []) are = record { costs = []; own = k; are = tt; is = are.0; sum = omega arith }
  part_costs [] n s (k ∷ l ∷ costs) are = absurd are.1
  part_costs (group ∷ groups) n s costs are = by_case (part_costs groups n s) (takes cat s group) refl costs are
    where
      by_case : ((ks : List ℕ) → AreGroupCosts cat shapes config (joined cat groups (n, s)) ks → Parted groups s (group_sum (joined cat groups (n, s)) ks))
          → (b : Bool) → takes cat s group ≡ b → (ks : List ℕ) → AreGroupCosts cat shapes config (if b then heavier group s.weight ∷ groups else group ∷ joined cat groups (n, s)) ks
          → Parted (group ∷ groups) s (group_sum (if b then heavier group s.weight ∷ groups else group ∷ joined cat groups (n, s)) ks)
      by_case later true e [] h = absurd h
      by_case later true e (k ∷ ks) h =
          let both = and_parts (nat_le (group.weight + s.weight) MOST_WEIGHT) (is_alike cat group.first.work s.work) e in
          record {
            costs = k ∷ ks;
            own = k;
            are = h;
            is = (same_cost cat shapes config group.first.work s.work k both.1).0 h.0;
            sum = heavier_sum group.weight s.weight k k (group_sum groups ks) refl;
          }
      by_case later false e [] h = absurd h
      by_case later false e (k ∷ ks) h =
          let rest = later ks h.1 in
          record { costs = k ∷ rest.costs; own = rest.own; are = (h.0, rest.are); is = rest.is; sum = omega (arith, rest.sum) }

  -- costs of groups and of statements with this sum
  record Told (groups : List Group) (statements : List Statement) (total : ℕ) : Type 0 where
    pub costs : List ℕ
    pub each : List ℕ
    pub are : AreGroupCosts cat shapes config groups costs
    pub each_are : AreCosts cat shapes config statements each
    pub sum : total ≡ group_sum groups costs + weighted_sum statements each

  back : (groups : List Group) (n : ℕ) (statements : List Statement) (costs : List ℕ) → AreGroupCosts cat shapes config (fold (joined cat) groups (enumerate_from n statements)) costs
      → Told groups statements (group_sum (fold (joined cat) groups (enumerate_from n statements)) costs)
  back groups n [] costs are = record { costs = costs; each = []; are = are; each_are = tt; sum = omega arith }
  back groups n (s ∷ statements) costs are =
      let rest = back (joined cat groups (n, s)) (n + 1) statements costs are in
      let one = part_costs groups n s rest.costs rest.are in
      record { costs = one.costs; each = one.own ∷ rest.each; are = one.are; each_are = (one.is, rest.each_are); sum = omega (arith, rest.sum, one.sum) }

  -- ## The statements that stand for groups

  to_folded : (groups : List Group) (folded : List Statement) (costs : List ℕ) → StandFor cat groups folded → AreGroupCosts cat shapes config groups costs → AreCosts cat shapes config folded costs
  to_folded [] [] [] h are = tt
  to_folded [] [] (k ∷ costs) h are = absurd are
  to_folded [] (s ∷ folded) costs h are = absurd h
  to_folded (group ∷ groups) [] costs h are = absurd h
  to_folded (group ∷ groups) (s ∷ folded) [] h are = absurd are
  to_folded (group ∷ groups) (s ∷ folded) (k ∷ costs) h are =
      ((same_cost cat shapes config group.first.work s.work k h.1).0 are.0, to_folded groups folded costs h.2 are.1)

  from_folded : (groups : List Group) (folded : List Statement) (costs : List ℕ) → StandFor cat groups folded → AreCosts cat shapes config folded costs → AreGroupCosts cat shapes config groups costs
  from_folded [] [] [] h are = tt
  from_folded [] [] (k ∷ costs) h are = absurd are
  from_folded [] (s ∷ folded) costs h are = absurd h
  from_folded (group ∷ groups) [] costs h are = absurd h
  from_folded (group ∷ groups) (s ∷ folded) [] h are = absurd are
  from_folded (group ∷ groups) (s ∷ folded) (k ∷ costs) h are =
      ((same_cost cat shapes config group.first.work s.work k h.1).1 are.0, from_folded groups folded costs h.2 are.1)

same_sum : (cat : Catalogue) (groups : List Group) (folded : List Statement) (costs : List ℕ) → StandFor cat groups folded → group_sum groups costs ≡ weighted_sum folded costs
same_sum cat [] [] costs h = refl
same_sum cat [] (s ∷ folded) costs h = absurd h
same_sum cat (group ∷ groups) [] costs h = absurd h
same_sum cat (group ∷ groups) (s ∷ folded) [] h = refl
same_sum cat (group ∷ groups) (s ∷ folded) (k ∷ costs) h =
    let later = same_sum cat groups folded costs h.2 in
    λ i. sym h.0 i * k + later i

pub same_total : (cat : Catalogue) (shapes : List IndexShape) (config : Config) (statements folded : List Statement) (total : ℕ) → IsFolded cat statements folded
    → IsTotal cat shapes config statements total ↔ IsTotal cat shapes config folded total
unfolding groups_of
same_total cat shapes config statements folded total h =
    let groups = groups_of cat statements in (
      λ is.
          (let all = forth cat shapes config [] [] 1 statements is.costs tt is.costs_are in
          record {
            costs = all.costs;
            costs_are = to_folded cat shapes config groups folded all.costs h all.are;
            sum =
                (let whole : group_sum groups all.costs ≡ 0 + weighted_sum statements is.costs = all.sum in
                let own : group_sum groups all.costs ≡ weighted_sum folded all.costs = same_sum cat groups folded all.costs h in
                omega (arith, is.sum, whole, own));
          }),
      λ is.
          (let all = back cat shapes config [] 1 statements is.costs (from_folded cat shapes config groups folded is.costs h is.costs_are) in
          record {
            costs = all.each;
            costs_are = all.each_are;
            sum =
                (let whole : group_sum groups is.costs ≡ 0 + weighted_sum statements all.each = all.sum in
                let own : group_sum groups is.costs ≡ weighted_sum folded is.costs = same_sum cat groups folded is.costs h in
                omega (arith, is.sum, whole, own));
          }),
    )
