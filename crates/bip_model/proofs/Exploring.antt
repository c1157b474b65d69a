-- A search that goes through its nodes in preorder with the least cost met so far: each branch hopes for less than that.
use Rattle.std.proofs.Common.{◌≡◌, ◌∙◌, inl, inr, ℕ, zero, suc, ◌<◌, ◌≤◌, true, List, [], ◌∷◌, ◌++◌, ℤ, pos, sym, ap, subst, arith}
use Rattle.std.specs.Prelude.{Some, slice_get, ◌<ℤ◌}
use Rattle.std.proofs.lemmas.Int.{ints}
use Rattle.std.proofs.lemmas.Option.{slice_get_within}
use Rattle.adv_base.specs.declared.setting.Config.{Config}
use Rattle.adv_base.specs.Configs.{Fits}
use Rattle.adv_base.specs.Nodes as nodes
use Rattle.adv_base.specs.Settings.{TheSetting}
use Rattle.plan_model.specs.Useful.{IsUseful}
use Rattle.bip_model.specs.Best.{Subproblem, HasTotal, HasLagrangian, AreWorthwhile, NoneCostsLess}
use Rattle.bip_model.specs.Trees.{Tree, Branches, zeros}
use Rattle.bip_model.proofs.Lists.{either-of}

-- what is in at each of the first nodes, where that fits, costs no less than a level
abbrev pub NoneCostsLessUpTo : TheSetting → ℕ → List Subproblem → ℕ → ℕ → Type 0
NoneCostsLessUpTo setting budget list count level =
    (k : ℕ) (earlier : Subproblem) → k < count → slice_get list k ≡ Some earlier →
    Fits setting.cat setting.shapes earlier.node.inside budget → HasTotal setting earlier.node.inside (λ total. level ≤ total)

-- the branch at place i is on an open and useful candidate, and the value without rents is below a level
pub record IsHopeful (setting : TheSetting) (budget before : ℕ) (list : List Subproblem) (i : ℕ) (node : nodes.Node) (a : ℕ) : Type 0 where
  pub is_open : nodes.is_open setting.cat setting.shapes budget node a ≡ true
  pub useful : IsUseful setting budget a
  pub level : ℕ
  pub level_most : level ≤ before
  pub level_is : NoneCostsLessUpTo setting budget list (suc i) level
  pub promising : HasLagrangian setting budget node zeros (λ value. value <ℤ pos level)

-- Nodes that a search went through, with the least cost known before and after them.
pub record AreExplored (setting : TheSetting) (budget : ℕ) (list : List Subproblem) (before after : ℕ) : Type 0 where
  pub falls : after ≤ before
  pub costs : NoneCostsLess setting budget list after
  pub hopeful : (i : ℕ) (s : Subproblem) (a : ℕ) (inside outside : Tree) → slice_get list i ≡ Some s → s.tree ≡ Branches a inside outside → IsHopeful setting budget before list i s.node a

-- a node that is no branch
pub leaf-explored : (setting : TheSetting) (budget : ℕ) (s : Subproblem) (before after : ℕ) → after ≤ before → ((a : ℕ) (inside outside : Tree) → s.tree ≡ Branches a inside outside → ⊥) →
    (Fits setting.cat setting.shapes s.node.inside budget → HasTotal setting s.node.inside (λ total. after ≤ total)) → AreExplored setting budget (s ∷ []) before after
leaf-explored setting budget s before after falls no_branch costs =
    record {
      falls = falls;
      costs = λ i x found fits. one i x found fits;
      hopeful = λ i x a inside outside found is. branch i x a inside outside found is;
    }
  where
    one : (i : ℕ) (x : Subproblem) → slice_get (s ∷ []) i ≡ Some x → Fits setting.cat setting.shapes x.node.inside budget → HasTotal setting x.node.inside (λ total. after ≤ total)
    one zero x found fits =
        let same : s ≡ x = cc in
        subst (λ (y : Subproblem). HasTotal setting y.node.inside (λ total. after ≤ total)) same (costs (subst (λ (y : Subproblem). Fits setting.cat setting.shapes y.node.inside budget) (sym same) fits))
    one (suc i) x found fits = absurd (cc)

    branch : (i : ℕ) (x : Subproblem) (a : ℕ) (inside outside : Tree) → slice_get (s ∷ []) i ≡ Some x → x.tree ≡ Branches a inside outside → IsHopeful setting budget before (s ∷ []) i x.node a
    branch zero x a inside outside found is = let same : s ≡ x = cc in absurd (no_branch a inside outside (ap (λ (y : Subproblem). y.tree) same ∙ is))
    branch (suc i) x a inside outside found is = absurd (cc)

-- a branch
pub branch-explored : (setting : TheSetting) (budget : ℕ) (node : nodes.Node) (a : ℕ) (inside outside : Tree) (before after : ℕ) → after ≤ before → nodes.is_open setting.cat setting.shapes budget node a ≡ true → IsUseful setting budget a →
    HasLagrangian setting budget node zeros (λ value. value <ℤ pos after) → (Fits setting.cat setting.shapes node.inside budget → HasTotal setting node.inside (λ total. after ≤ total)) →
    AreExplored setting budget (record { node = node; tree = Branches a inside outside } ∷ []) before after
branch-explored setting budget node a inside outside before after falls open' useful promising costs =
    record {
      falls = falls;
      costs = one;
      hopeful = branch;
    }
  where
    own : Subproblem
    own = record { node = node; tree = Branches a inside outside }

    one : NoneCostsLess setting budget (record { node = node; tree = Branches a inside outside } ∷ []) after
    one zero x found fits =
        let same : record { node = node; tree = Branches a inside outside } ≡ x = cc in
        subst (λ (y : Subproblem). HasTotal setting y.node.inside (λ total. after ≤ total)) same (costs (subst (λ (y : Subproblem). Fits setting.cat setting.shapes y.node.inside budget) (sym same) fits))
    one (suc i) x found fits = absurd (cc)

    branch : (i : ℕ) (x : Subproblem) (b : ℕ) (l r : Tree) → slice_get (record { node = node; tree = Branches a inside outside } ∷ []) i ≡ Some x → x.tree ≡ Branches b l r → IsHopeful setting budget before (record { node = node; tree = Branches a inside outside } ∷ []) i x.node b
    branch zero x b l r found is =
        let same : record { node = node; tree = Branches a inside outside } ≡ x = cc in
        let trees : Branches a inside outside ≡ Branches b l r = ap (λ (y : Subproblem). y.tree) same ∙ is in
        let number : a ≡ b = cc in
        let here : node ≡ x.node = ap (λ (y : Subproblem). y.node) same in
        subst (λ (n : nodes.Node). IsHopeful setting budget before (record { node = node; tree = Branches a inside outside } ∷ []) 0 n b) here
        (subst (λ (c : ℕ). IsHopeful setting budget before (record { node = node; tree = Branches a inside outside } ∷ []) 0 node c) number
        (record {
          is_open = open';
          useful = useful;
          level = after;
          level_most = falls;
          level_is = λ k earlier below there fits. one k earlier there fits;
          promising = promising;
        }))
    branch (suc i) x b l r found is = absurd (cc)

weaker : (setting : TheSetting) (config : Config) (low high : ℕ) → low ≤ high → HasTotal setting config (λ total. high ≤ total) → HasTotal setting config (λ total. low ≤ total)
weaker setting config low high less has = record { total = has.total; total_is = has.total_is; holds = omega (arith, less, has.holds) }

-- one list of nodes, and then another
pub both-explored : (setting : TheSetting) (budget : ℕ) (xs ys : List Subproblem) (before middle after : ℕ) → AreExplored setting budget xs before middle → AreExplored setting budget ys middle after → AreExplored setting budget (xs ++ ys) before after
both-explored setting budget xs ys before middle after one two =
    record {
      falls = omega (arith, one.falls, two.falls);
      costs = λ i s found fits.
          elim (either-of xs ys i s found) [
            | inl front ↦ weaker setting s.node.inside after middle two.falls (one.costs i s front fits)
            | inr back ↦ two.costs back.number s back.found fits
          ];
      hopeful = λ i s a inside outside found is.
          elim (either-of xs ys i s found) [
            | inl front ↦
                let here = one.hopeful i s a inside outside front is in
                let there = slice_get_within xs i s front in
                record {
                  is_open = here.is_open;
                  useful = here.useful;
                  level = here.level;
                  level_most = here.level_most;
                  level_is = λ k earlier below at' fits.
                      elim (either-of xs ys k earlier at') [
                        | inl own ↦ here.level_is k earlier below own fits
                        | inr past ↦ absurd (omega (arith, past.place, below, there))
                      ];
                  promising = here.promising;
                }
            | inr back ↦
                let here = two.hopeful back.number s a inside outside back.found is in
                record {
                  is_open = here.is_open;
                  useful = here.useful;
                  level = here.level;
                  level_most = omega (arith, here.level_most, one.falls);
                  level_is = λ k earlier below at' fits.
                      elim (either-of xs ys k earlier at') [
                        | inl own ↦ weaker setting earlier.node.inside here.level middle here.level_most (one.costs k earlier own fits)
                        | inr past ↦ here.level_is past.number earlier (omega (arith, past.place, below, back.place)) past.found fits
                      ];
                  promising = here.promising;
                }
          ];
    }

-- so no branch was in vain
pub explored-worthwhile : (setting : TheSetting) (budget : ℕ) (list : List Subproblem) (before after : ℕ) → AreExplored setting budget list before after → AreWorthwhile setting budget list
explored-worthwhile setting budget list before after are i s a inside outside found is =
    let here = are.hopeful i s a inside outside found is in
    record {
      is_open = here.is_open;
      useful = here.useful;
      promising =
          record {
            value = here.promising.value;
            value_is = here.promising.value_is;
            holds = λ k earlier below at' fits.
                let cost = here.level_is k earlier below at' fits in
                record { total = cost.total; total_is = cost.total_is; holds = less here.promising.value here.level cost.total here.promising.holds cost.holds };
          };
    }
  where
    less : (value : ℤ) (level total : ℕ) → value <ℤ pos level → level ≤ total → value <ℤ pos total
    less value level total one two = omega (arith, ints, one, two)
