-- A tree whose branches name useful candidates is no larger than a whole tree over these; a leaf at which one is still free
-- makes it smaller.
use Rattle.std.proofs.Common.{◌≡◌, ◌∙◌, ◌⊎◌, inl, inr, ℕ, zero, suc, ◌+◌, ◌-◌, ◌*◌, ◌^◌, ◌≤◌, Bool, true, false, cond, List, [], ◌∷◌, length, ℤ, pos, refl, sym, ap, subst, arith}
use Rattle.std.specs.Prelude.{Some, count_by, nat_le, slice_get, slice_index_or, ◌≤ℤ◌, ◌<ℤ◌}
use Rattle.std.proofs.Math.Nat.{pow-succ'}
use Rattle.std.proofs.Math.Pow.{pow_mono}
use Rattle.std.proofs.lemmas.Bool.{cases_Bool, false≢true, and_parts}
use Rattle.std.proofs.lemmas.Int.{ints}
use Rattle.std.proofs.lemmas.List.{length-append, length-set}
use Rattle.adv_base.specs.declared.limits.TheConstants.{MOST_CANDIDATES}
use Rattle.adv_base.specs.declared.setting.Config.{Config}
use Rattle.adv_base.specs.Configs.{has_candidate, config_pages, candidate_pages, IsConfigOf}
use Rattle.adv_base.specs.Nodes as nodes
use Rattle.adv_base.specs.Nodes.{is_free}
use Rattle.adv_base.specs.Settings.{TheSetting, KeepsLimits}
use Rattle.plan_model.specs.Lagrangian.{TheMultipliers, IsLagrangian}
use Rattle.plan_model.specs.Useful.{IsUseful, AreUseful}
use Rattle.plan_model.proofs.Renting.{flag-of}
use Rattle.plan_model.proofs.Sums.{total, sum-total, passing, passing-more, passing-one_more}
use Rattle.plan_model.proofs.Duality.{flag-found}
use Rattle.bip_model.specs.Best.{Subproblem, subproblems, AreWorthwhile, NoneCostsLess, HasTotal, IsTight}
use Rattle.bip_model.specs.Laws.{NoneUseful}
use Rattle.bip_model.specs.SearchLaws.{IsWhole, NodesFit}
use Rattle.bip_model.specs.Trees.{Tree, Branches, Leaf, Full, with_candidate, in_side, out_side, zeros}
use Rattle.bip_model.proofs.Descending.{AtBranches, IsUsefulBranch, useful-branches, config-below}
use Rattle.bip_model.proofs.Lists.{either-of, set-there}
use Rattle.bip_model.proofs.Showing.{with_candidate-keeps}
use Rattle.bip_model.proofs.Sides.{free-parts, parts-free}
use Rattle.bip_model.proofs.Unrented.{useless-total}

-- ## Nodes with a flag for each candidate that there may be

in-whole : (node : nodes.Node) (a : ℕ) → IsWhole node → IsWhole (in_side node a)
in-whole node a is = record { inside = length-set node.inside.on (a - 1) true ∙ is.inside; outside = is.outside }

out-whole : (node : nodes.Node) (a : ℕ) → IsWhole node → IsWhole (out_side node a)
out-whole node a is = record { inside = is.inside; outside = length-set node.outside.on (a - 1) true ∙ is.outside }

-- a candidate that was put in is there
pub with_candidate-on : (config : Config) (a : ℕ) → 1 ≤ a → a ≤ length config.on → has_candidate (with_candidate config a) a ≡ true
with_candidate-on config zero some within = absurd (omega (arith, some))
with_candidate-on config (suc i) some within =
    let same : suc i - 1 ≡ i = omega arith in
    flag-of (with_candidate config (suc i)) i
    ∙ ap (λ (k : ℕ). slice_index_or (with_candidate config (suc i)).on k false) (sym same) ∙ set-there config.on (suc i - 1) (omega (arith, within))

-- ## What is free on a side was free, and the candidate of the branch isn't

in-free : (node : nodes.Node) (a k : ℕ) → is_free (in_side node a) k ≡ true → is_free node k ≡ true
in-free node a k free =
    let parts = free-parts (in_side node a) k free in
    parts-free node k
    (elim (cases_Bool (has_candidate node.inside k)) [
      | inl on ↦ absurd (false≢true (sym parts.0 ∙ with_candidate-keeps node.inside a k on))
      | inr off ↦ off
    ])
    parts.1

out-free : (node : nodes.Node) (a k : ℕ) → is_free (out_side node a) k ≡ true → is_free node k ≡ true
out-free node a k free =
    let parts = free-parts (out_side node a) k free in
    parts-free node k parts.0
    (elim (cases_Bool (has_candidate node.outside k)) [
      | inl on ↦ absurd (false≢true (sym parts.1 ∙ with_candidate-keeps node.outside a k on))
      | inr off ↦ off
    ])

in-taken : (node : nodes.Node) (a : ℕ) → 1 ≤ a → a ≤ MOST_CANDIDATES → IsWhole node → is_free (in_side node a) a ≡ false
in-taken node a some most is =
    let on = with_candidate-on node.inside a some (omega (arith, most, is.inside)) in
    elim (cases_Bool (is_free (in_side node a) a)) [
      | inl free ↦ absurd (false≢true (sym (free-parts (in_side node a) a free).0 ∙ on))
      | inr taken ↦ taken
    ]

out-taken : (node : nodes.Node) (a : ℕ) → 1 ≤ a → a ≤ MOST_CANDIDATES → IsWhole node → is_free (out_side node a) a ≡ false
out-taken node a some most is =
    let on = with_candidate-on node.outside a some (omega (arith, most, is.outside)) in
    elim (cases_Bool (is_free (out_side node a) a)) [
      | inl free ↦ absurd (false≢true (sym (free-parts (out_side node a) a free).1 ∙ on))
      | inr taken ↦ taken
    ]

-- ## Useful candidates that are free

-- how many flagged numbers pass a test
counted : (ℕ → Bool) → List Bool → ℕ
counted test flags = passing test (λ k flag. cond flag 1 0) 1 flags

counted-more : (few many : ℕ → Bool) (flags : List Bool) → ((k : ℕ) → few k ≡ true → many k ≡ true) → counted few flags ≤ counted many flags
unfolding counted
counted-more few many flags more = passing-more few many (λ k flag. cond flag 1 0) 1 flags more

counted-one : (few many : ℕ → Bool) (flags : List Bool) (a : ℕ) → ((k : ℕ) → few k ≡ true → many k ≡ true) → 1 ≤ a → slice_index_or flags (a - 1) false ≡ true → few a ≡ false → many a ≡ true → counted few flags + 1 ≤ counted many flags
unfolding counted
counted-one few many flags a more some on out inside =
    let same : a ≡ 1 + (a - 1) = omega (arith, some) in
    passing-one_more few many (λ k flag. cond flag 1 0) 1 (a - 1) true flags more (flag-found flags (a - 1) on) (ap few (sym same) ∙ out) (ap many (sym same) ∙ inside)

passing-all : (a : ℕ) (flags : List Bool) → passing (λ k. true) (λ k flag. cond flag 1 0) a flags ≡ total (λ flag. cond flag 1 0) flags
passing-all a [] = refl
passing-all a (flag ∷ flags) = let rest = passing-all (suc a) flags in omega (arith, rest)

counted-most : (test : ℕ → Bool) (flags : List Bool) → counted test flags ≤ count_by (λ flag. flag) flags
unfolding counted
counted-most test flags =
    omega (arith, counted-more test (λ k. true) flags (λ k on. refl), passing-all 1 flags, sum-total (λ (flag : Bool). cond flag 1 0) flags)

-- the flags of useful candidates
pub record AreFlagsOf (setting : TheSetting) (budget : ℕ) (flags : List Bool) : Type 0 where
  pub each : (a : ℕ) → IsUseful setting budget a → slice_index_or flags (a - 1) false ≡ true

-- how many of them are free
pub free_count : nodes.Node → List Bool → ℕ
free_count node flags = counted (is_free node) flags

in-fewer : (setting : TheSetting) (budget : ℕ) (flags : List Bool) (node : nodes.Node) (a : ℕ) → length setting.shapes ≤ MOST_CANDIDATES → AreFlagsOf setting budget flags → IsWhole node → IsUsefulBranch setting budget node a → free_count (in_side node a) flags + 1 ≤ free_count node flags
unfolding free_count
in-fewer setting budget flags node a few are whole p =
    counted-one (is_free (in_side node a)) (is_free node) flags a (in-free node a) p.branch.some (are.each a p.useful)
    (in-taken node a p.branch.some (omega (arith, p.branch.within, few)) whole) p.branch.free

out-fewer : (setting : TheSetting) (budget : ℕ) (flags : List Bool) (node : nodes.Node) (a : ℕ) → length setting.shapes ≤ MOST_CANDIDATES → AreFlagsOf setting budget flags → IsWhole node → IsUsefulBranch setting budget node a → free_count (out_side node a) flags + 1 ≤ free_count node flags
unfolding free_count
out-fewer setting budget flags node a few are whole p =
    counted-one (is_free (out_side node a)) (is_free node) flags a (out-free node a) p.branch.some (are.each a p.useful)
    (out-taken node a p.branch.some (omega (arith, p.branch.within, few)) whole) p.branch.free

-- ## How large a tree is

double : (n f : ℕ) → n + 1 ≤ f → 2 ^ (n + 1) + 2 ^ (n + 1) ≤ 2 ^ (f + 1)
double n f less =
    let up : 2 ^ (n + 1) ≤ 2 ^ f = pow_mono less in
    let next : 2 ^ suc f ≡ 2 * 2 ^ f = pow-succ' 2 f in
    let same : 2 ^ (f + 1) ≡ 2 ^ suc f = ap (λ (k : ℕ). 2 ^ k) (omega arith) in
    omega (arith, up, next, same)

-- as large as a whole tree over the useful candidates that are free, at most
pub tree-small : (setting : TheSetting) (budget : ℕ) (flags : List Bool) (node : nodes.Node) (tree : Tree) → length setting.shapes ≤ MOST_CANDIDATES → AreFlagsOf setting budget flags → IsWhole node →
    AtBranches (IsUsefulBranch setting budget) node tree → length (subproblems node tree) + 1 ≤ 2 ^ (free_count node flags + 1)
tree-small setting budget flags node (Branches a inside outside) few are whole at' =
    let one = tree-small setting budget flags (in_side node a) inside few are (in-whole node a whole) at'.1 in
    let two = tree-small setting budget flags (out_side node a) outside few are (out-whole node a whole) at'.2 in
    let left : free_count (in_side node a) flags + 1 ≤ free_count node flags = in-fewer setting budget flags node a few are whole at'.0 in
    let right : free_count (out_side node a) flags + 1 ≤ free_count node flags = out-fewer setting budget flags node a few are whole at'.0 in
    let twice = double (free_count (in_side node a) flags) (free_count node flags) left in
    let again = double (free_count (out_side node a) flags) (free_count node flags) right in
    let joined = length-append (subproblems (in_side node a) inside) (subproblems (out_side node a) outside) in
    omega (arith, one, two, twice, again, joined)
tree-small setting budget flags node (Leaf k) few are whole at' =
    let least : 1 ≤ free_count node flags + 1 = omega arith in
    let up : 2 ^ 1 ≤ 2 ^ (free_count node flags + 1) = pow_mono least in
    omega (arith, up)
tree-small setting budget flags node Full few are whole at' =
    let least : 1 ≤ free_count node flags + 1 = omega arith in
    let up : 2 ^ 1 ≤ 2 ^ (free_count node flags + 1) = pow_mono least in
    omega (arith, up)

leaf-small : (f : ℕ) → 1 ≤ f → 1 + 3 ≤ 2 ^ (f + 1)
leaf-small f some =
    let least : 2 ≤ f + 1 = omega (arith, some) in
    let up : 2 ^ 2 ≤ 2 ^ (f + 1) = pow_mono least in
    omega (arith, up)

-- smaller where a bounded leaf leaves one of them free
pub tree-smaller : (setting : TheSetting) (budget : ℕ) (flags : List Bool) (node : nodes.Node) (tree : Tree) → length setting.shapes ≤ MOST_CANDIDATES → AreFlagsOf setting budget flags → IsWhole node →
    AtBranches (IsUsefulBranch setting budget) node tree → (i : ℕ) (leaf : Subproblem) (set : ℕ) → slice_get (subproblems node tree) i ≡ Some leaf → leaf.tree ≡ Leaf set → 1 ≤ free_count leaf.node flags →
    length (subproblems node tree) + 3 ≤ 2 ^ (free_count node flags + 1)
tree-smaller setting budget flags node (Branches a inside outside) few are whole at' zero leaf set found is some =
    let same : record { node = node; tree = Branches a inside outside } ≡ leaf = cc in
    let wrong : Branches a inside outside ≡ Leaf set = ap (λ (s : Subproblem). s.tree) same ∙ is in
    absurd (cc)
tree-smaller setting budget flags node (Branches a inside outside) few are whole at' (suc i) leaf set found is some =
    let xs : List Subproblem = subproblems (in_side node a) inside in
    let ys : List Subproblem = subproblems (out_side node a) outside in
    let left : free_count (in_side node a) flags + 1 ≤ free_count node flags = in-fewer setting budget flags node a few are whole at'.0 in
    let right : free_count (out_side node a) flags + 1 ≤ free_count node flags = out-fewer setting budget flags node a few are whole at'.0 in
    let twice = double (free_count (in_side node a) flags) (free_count node flags) left in
    let again = double (free_count (out_side node a) flags) (free_count node flags) right in
    let joined = length-append xs ys in
    elim (either-of xs ys i leaf found) [
      | inl front ↦
          let one = tree-smaller setting budget flags (in_side node a) inside few are (in-whole node a whole) at'.1 i leaf set front is some in
          let two = tree-small setting budget flags (out_side node a) outside few are (out-whole node a whole) at'.2 in
          omega (arith, one, two, twice, again, joined)
      | inr back ↦
          let one = tree-small setting budget flags (in_side node a) inside few are (in-whole node a whole) at'.1 in
          let two = tree-smaller setting budget flags (out_side node a) outside few are (out-whole node a whole) at'.2 back.number leaf set back.found is some in
          omega (arith, one, two, twice, again, joined)
    ]
tree-smaller setting budget flags node (Leaf k) few are whole at' zero leaf set found is some =
    let same : record { node = node; tree = Leaf k } ≡ leaf = cc in
    leaf-small (free_count node flags) (subst (λ (s : Subproblem). 1 ≤ free_count s.node flags) (sym same) some)
tree-smaller setting budget flags node (Leaf k) few are whole at' (suc i) leaf set found is some = absurd (cc)
tree-smaller setting budget flags node Full few are whole at' zero leaf set found is some =
    let same : record { node = node; tree = Full } ≡ leaf = cc in
    let wrong : Full ≡ Leaf set = ap (λ (s : Subproblem). s.tree) same ∙ is in
    absurd (cc)
tree-smaller setting budget flags node Full few are whole at' (suc i) leaf set found is some = absurd (cc)

-- ## A leaf whose value is below what is in costs leaves something useful open

none-passes : (flags : List Bool) (test : ℕ → Bool) (a : ℕ) → 1 ≤ a → slice_index_or flags (a - 1) false ≡ true → test a ≡ true → 1 ≤ counted test flags
none-passes flags test a some on passes =
    let one = counted-one (λ k. false) test flags a (λ k wrong. absurd (false≢true wrong)) some on refl passes in
    omega (arith, one)

open-free : (setting : TheSetting) (budget : ℕ) (node : nodes.Node) (k : ℕ) → nodes.is_open setting.cat setting.shapes budget node k ≡ true → is_free node k ≡ true
open-free setting budget node k open' = (and_parts (is_free node k) (nat_le (config_pages setting.cat setting.shapes node.inside + candidate_pages setting.cat setting.shapes k) budget) open').0

some-free : (setting : TheSetting) (budget : ℕ) (flags : List Bool) (node : nodes.Node) (value bound : ℤ) (cost : ℕ) → KeepsLimits setting → AreFlagsOf setting budget flags → IsConfigOf setting.shapes node.inside →
    IsLagrangian setting budget node zeros value → value ≤ℤ bound → bound <ℤ pos cost → HasTotal setting node.inside (λ total. cost ≤ total) → 1 ≤ free_count node flags
unfolding free_count
some-free setting budget flags node value bound cost limits are is lag at_most below in_cost =
    let opens : ℕ → Bool = nodes.is_open setting.cat setting.shapes budget node in
    let more : counted opens flags ≤ counted (is_free node) flags = counted-more opens (is_free node) flags (open-free setting budget node) in
    elim (count-cases (counted opens flags)) [
      | inr some ↦ omega (arith, some, more)
      | inl none ↦
          let useless : NoneUseful setting budget node = λ a open' useful.
          let one = none-passes flags opens a useful.some (are.each a useful) open' in
          let wrong : 1 ≤ 0 = subst (λ (n : ℕ). 1 ≤ n) none one in
          omega (arith, wrong) in
          let same : value ≡ pos in_cost.total = useless-total setting budget node value in_cost.total limits is useless lag in_cost.total_is in
          absurd (clash value bound cost in_cost.total same at_most below in_cost.holds)
    ]
  where
    count-cases : (n : ℕ) → (n ≡ 0) ⊎ (1 ≤ n)
    count-cases zero = inl refl
    count-cases (suc n) = inr (omega arith)

    clash : (value bound : ℤ) (cost total : ℕ) → value ≡ pos total → value ≤ℤ bound → bound <ℤ pos cost → cost ≤ total → ⊥
    clash value bound cost total same one two three = omega (arith, ints, same, one, two, three)

free-most : (node : nodes.Node) (flags : List Bool) (count : ℕ) → count ≡ count_by (λ flag. flag) flags → free_count node flags ≤ count
unfolding free_count
free-most node flags count is = let most = counted-most (is_free node) flags in omega (arith, most, is)

-- So a tree with a tight leaf below the cost is smaller than a whole one over the useful candidates, by two nodes at least.
pub tight-smaller : (setting : TheSetting) (budget useful : ℕ) (root : nodes.Node) (tree : Tree) (sets : List TheMultipliers) (bound : ℤ) (cost : ℕ) → KeepsLimits setting → AreUseful setting budget useful → IsWhole root →
    IsConfigOf setting.shapes root.inside → NodesFit setting budget (subproblems root tree) → AreWorthwhile setting budget (subproblems root tree) → NoneCostsLess setting budget (subproblems root tree) cost →
    IsTight setting budget bound sets (subproblems root tree) → bound <ℤ pos cost → length (subproblems root tree) + 3 ≤ 2 ^ (useful + 1)
tight-smaller setting budget useful root tree sets bound cost limits are_useful whole is fits worthwhile costs tight below =
    let at' = useful-branches setting budget root tree worthwhile in
    let flags : List Bool = are_useful.flags in
    let are : AreFlagsOf setting budget flags = record { each = λ a u. (are_useful.each a u.some).1 u } in
    let leaf : Subproblem = tight.leaf in
    let leaf_is = config-below setting budget root tree at' is tight.number leaf tight.leaf_found in
    let leaf_fits = fits tight.number leaf tight.leaf_found (λ full. leaf-or-full tight.set (sym tight.leaf_is ∙ full)) in
    let zero_set = tight.highest 0 zeros refl in
    let some = some-free setting budget flags leaf.node zero_set.value bound cost limits are leaf_is zero_set.value_is zero_set.holds below (costs tight.number leaf tight.leaf_found leaf_fits) in
    let size = tree-smaller setting budget flags root tree limits.shapes_most are whole at' tight.number leaf tight.set tight.leaf_found tight.leaf_is some in
    let most : free_count root flags ≤ useful = free-most root flags useful are_useful.counted in
    let up : 2 ^ (free_count root flags + 1) ≤ 2 ^ (useful + 1) = pow_mono (omega (arith, most)) in
    omega (arith, size, up)
  where
    leaf-or-full : (k : ℕ) → Leaf k ≡ Full → ⊥
    leaf-or-full k same = absurd (cc)
