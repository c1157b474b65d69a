-- What the search's code shows, as the best answer of each setting.
use Rattle.std.proofs.Common.{◌≡◌, ◌∙◌, ◌⊎◌, inl, inr, ℕ, zero, suc, ◌+◌, ◌*◌, ◌<◌, ◌≤◌, Bool, true, cond, false, List, [], ◌∷◌, length, take, min, replicate, All, refl, sym, ap, subst, arith}
use Rattle.std.specs.Prelude.{slice_index_or, ◌≤ℤ◌}
use Rattle.std.proofs.Math.Path.{fun_ext}
use Rattle.std.proofs.Math.Nat.{mul-le-mul}
use Rattle.adv_base.specs.declared.limits.TheConstants.{MOST_CANDIDATES, MOST_ENTRIES}
use Rattle.adv_base.specs.declared.setting.Config.{Config}
use Rattle.plan_model.specs.Lagrangian.{TheMultipliers}
use Rattle.bip_model.specs.declared.answer.Node.{Node}
use Rattle.bip_model.specs.declared.fix.Fix.{Fix}
use Rattle.bip_model.specs.declared.multipliers.Multipliers.{Multipliers}
use Rattle.bip_model.specs.declared.programme.Programme.{Programme}
use Rattle.bip_model.specs.Candidates.{is_useful, useful_below}
use Rattle.bip_model.specs.Trees.{zeros}
use Rattle.bip_model.specs.Values.{grant_count}
use Rattle.bip_model.specs.Views.{Place, is_place, rent_at, places, multipliers_of, AreMultipliers}
use Rattle.lagrange_bound.specs.Bounds.{lagrangian}
use Rattle.lagrange_bound.specs.Rents.{rent_multipliers, tried_price}
use Rattle.lagrange_bound.proofs.StandingValue.{lagrangian-is}
use Rattle.lagrange_bound.proofs.ReachedRents.{tried-within}
use Rattle.lagrange_bound.proofs.WrittenRents.{rents-agree}
use Rattle.branch_bound.specs.declared.climb.Costed.{Costed}
use Rattle.branch_bound.specs.declared.found.Found.{Found}
use Rattle.branch_bound.specs.Answers.{IsBestForEach}
use Rattle.branch_bound.specs.Rooms.{IsSetLimit}
use Rattle.branch_bound.specs.Sides.{IsRoot}
use Rattle.branch_bound.specs.inner.Climbs.{IsSound, IsTop}
use Rattle.branch_bound.specs.inner.Runs.{Rules, reaches, started, IsExplored, least_bound}
use Rattle.branch_bound.proofs.Running.{AreRulesFor, runs-count}
use Rattle.branch_bound.proofs.Final.{AtMostRents, at-most-rents, best-answer}

-- ## Zeros

pick-zero : (b : Bool) (n : ℕ) → n ≡ 0 → cond b 0 n ≡ 0
pick-zero true n is = refl
pick-zero false n is = is

zero-rent : (list : List Place) (n q s a : ℕ) → rent_at list (replicate n 0) q s a ≡ 0
zero-rent [] n q s a = refl
zero-rent (place ∷ list) zero q s a = refl
zero-rent (place ∷ list) (suc n) q s a = pick-zero (is_place place q s a) (rent_at list (replicate n 0) q s a) (zero-rent list n q s a)

zeros-are : (programme : Programme) (multipliers : Multipliers) → multipliers.mu ≡ 0 → multipliers.lambda ≡ replicate (grant_count programme) 0 → multipliers_of programme multipliers ≡ zeros
zeros-are programme multipliers page rents =
    let each : (q s a : ℕ) → rent_at (places programme) multipliers.lambda q s a ≡ 0 = λ q s a. ap (λ (l : List ℕ). rent_at (places programme) l q s a) rents ∙ zero-rent (places programme) (grant_count programme) q s a in
    let own : ℕ → ℕ → ℕ → ℕ = λ q s a. rent_at (places programme) multipliers.lambda q s a in
    let none : ℕ → ℕ → ℕ → ℕ = λ q s a. 0 in
    let all : own ≡ none = fun_ext (λ q. fun_ext (λ s. fun_ext (λ a. each q s a))) in
    ap (λ (r : ℕ → ℕ → ℕ → ℕ). told r multipliers.mu) all ∙ ap (told none) page
  where
    told : (ℕ → ℕ → ℕ → ℕ) → ℕ → TheMultipliers
    told r n = record { rent = r; page = n }

-- ## The answer

-- the sets that a search keeps, of which the first is this one
pub record AreKept (rules : Rules) (first : Multipliers) (count : ℕ) : Type 0 where
  pub front : take 1 rules.sets ≡ first ∷ []
  pub some : 1 ≤ length rules.sets
  pub few : length rules.sets ≤ count
  pub fit : All (AreMultipliers rules.programme) rules.sets
  pub limit : IsSetLimit rules.programme count

front-is : (sets : List Multipliers) (first d : Multipliers) → take 1 sets ≡ first ∷ [] → slice_index_or sets 0 d ≡ first
front-is [] first d front = absurd (cc)
front-is (set ∷ sets) first d front = cc

scaled : (n count g : ℕ) → n ≤ count → n * g ≤ count * g
scaled n count g less = let same : g ≤ g = omega arith in mul-le-mul less same

kept-entries : (rules : Rules) (first : Multipliers) (count : ℕ) → AreKept rules first count → (length rules.sets ≡ 1) ⊎ (length rules.sets * grant_count rules.programme ≤ MOST_ENTRIES)
kept-entries rules first count kept =
    elim kept.limit.entries [
      | inl one ↦ inl (omega (arith, one, kept.some, kept.few))
      | inr most ↦ let all = scaled (length rules.sets) count (grant_count rules.programme) kept.few in inr (omega (arith, all, most))
    ]

pub search-best : (rules : Rules) (root : Fix) (known : Costed) (after : Found) (tree_list : List Node) (config : Config) (cost : ℕ) (first : Multipliers) (count useful : ℕ) →
    AreMultipliers rules.programme rules.zeros → AreKept rules first count → rules.zeros.mu ≡ 0 → rules.zeros.lambda ≡ replicate (grant_count rules.programme) 0 →
    ((i : ℕ) → i < length rules.programme.sizes → slice_index_or rules.useful i false ≡ is_useful rules.programme rules.budget (i + 1)) →
    IsRoot rules.programme rules.shapes rules.budget root → length root.state ≡ MOST_CANDIDATES → IsExplored rules root (started known) [] after tree_list →
    after.made ≤ rules.nodes → (rules.stops ≡ true → (reaches after.low after.cost ≡ true) ⊎ (rules.nodes ≤ after.made + 1)) → useful ≡ useful_below rules.programme rules.budget (length rules.programme.sizes) →
    IsSound rules.programme rules.shapes rules.budget root config cost → cost ≤ after.cost → IsTop rules.programme rules.shapes rules.budget root config cost →
    ((i : ℕ) → i < min 41 41 → lagrangian rules.programme rules.budget root (rent_multipliers rules.programme (tried_price i)) ≤ℤ lagrangian rules.programme rules.budget root first) →
    IsBestForEach rules.programme rules.shapes rules.budget rules.nodes root (record { config = config; cost = cost; bound = least_bound cost after.low; sets = rules.sets; tree = tree_list; useful = useful })
search-best rules root known after tree_list config cost first count useful zeros_fit kept page lambda useful_are is_root long explored most done useful_is sound cheaper top tried setting limits stands shapes_are =
    let are : AreRulesFor setting rules =
    record {
      limits = limits;
      stands = stands;
      shapes_are = shapes_are;
      zeros_fit = zeros_fit;
      sets_fit = kept.fit;
      some = kept.some;
      few = omega (arith, kept.few, kept.limit.most);
      entries = kept-entries rules first count kept;
      zeros_are = zeros-are rules.programme rules.zeros page lambda;
      useful_are = useful_are;
      values = λ fix multipliers fit. lagrangian-is setting rules.programme rules.budget fix multipliers limits stands fit;
    } in
    let at-most : (i : ℕ) → i < 41 → AtMostRents setting rules root (tried_price i) = λ i few.
    at-most-rents setting rules root (tried_price i) (rent_multipliers rules.programme (tried_price i)) are (tried-within rules.programme i few) (rents-agree setting rules.programme (tried_price i) stands)
    (subst (λ (m : Multipliers). lagrangian rules.programme rules.budget root (rent_multipliers rules.programme (tried_price i)) ≤ℤ lagrangian rules.programme rules.budget root m) (sym (front-is rules.sets first rules.zeros kept.front))
    (tried i (omega (arith, few)))) in
    let made = runs-count rules root (started known) explored.tree after explored.run in
    best-answer setting rules root known explored.tree after config cost rules.sets tree_list useful are is_root long explored.run explored.list_is (omega (arith, made, ap length explored.list_is)) most done refl useful_is sound cheaper top
    (at-most 0 (omega arith)) (λ j few. at-most (suc j) (omega (arith, few)))
