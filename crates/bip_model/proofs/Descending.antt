-- Below a root, along branches on open candidates: what is in stays within the budget, and the Lagrangian value never falls.
use Rattle.std.proofs.Common.{◌≡◌, ◌∙◌, inl, inr, ℕ, zero, suc, ◌+◌, ◌-◌, ◌≤◌, Bool, true, false, List, [], ◌∷◌, length, ℤ, refl, sym, subst, arith}
use Rattle.std.specs.Prelude.{Some, nat_le, slice_get, slice_set, ◌≤ℤ◌}
use Rattle.std.specs.Option.{option_map_or}
use Rattle.std.proofs.lemmas.Bool.{cases_Bool, false≢true, and_parts, leb-true}
use Rattle.std.proofs.lemmas.List.{length-append}
use Rattle.std.proofs.lemmas.Option.{slice_get_within}
use Rattle.adv_base.specs.declared.catalogue.Catalogue.{Catalogue}
use Rattle.adv_base.specs.declared.catalogue.index.IndexShape.{IndexShape}
use Rattle.adv_base.specs.declared.setting.Config.{Config}
use Rattle.adv_base.specs.Configs.{has_candidate, config_pages, candidate_pages, candidates_in, chosen, IsConfigOf}
use Rattle.adv_base.specs.Laws.{IsRent}
use Rattle.adv_base.specs.Nodes as nodes
use Rattle.adv_base.specs.Nodes.{is_free, is_open}
use Rattle.adv_base.specs.Settings.{TheSetting}
use Rattle.adv_base.specs.Sizes.{shape_pages}
use Rattle.adv_base.proofs.ConfigLaws.{pages-by-shape, size-by-shape}
use Rattle.plan_model.specs.Lagrangian.{TheMultipliers, IsLagrangian}
use Rattle.plan_model.specs.Useful.{IsUseful}
use Rattle.plan_model.proofs.Renting.{flag-of}
use Rattle.plan_model.proofs.Sums.{total, sum-total}
use Rattle.plan_model.proofs.Duality.{flag-found}
use Rattle.bip_model.specs.Best.{Subproblem, subproblems, AreWorthwhile}
use Rattle.bip_model.specs.Trees.{Tree, Branches, Leaf, Full, with_candidate, in_side, out_side, IsBranch, preorder}
use Rattle.bip_model.proofs.Fixing.{IsNarrower, narrower-value, in-narrower, out-narrower}
use Rattle.bip_model.proofs.Lists.{front-of, back-of, either-of, on-get}
use Rattle.bip_model.proofs.Showing.{with_candidate-has}

-- ## Narrower nodes

pub narrower-self : (setting : TheSetting) (budget : ℕ) (node : nodes.Node) → IsNarrower setting budget node node
narrower-self setting budget node = record { keeps = λ k on. on; added = λ k on off. absurd (false≢true (sym off ∙ on)); opens = λ k open'. open' }

pub narrower-more : (setting : TheSetting) (budget : ℕ) (first second third : nodes.Node) → IsNarrower setting budget first second → IsNarrower setting budget second third → IsNarrower setting budget first third
narrower-more setting budget first second third one two =
    record {
      keeps = λ k on. two.keeps k (one.keeps k on);
      added = λ k on off.
          elim (cases_Bool (has_candidate second.inside k)) [
            | inl there ↦ one.added k there off
            | inr lacks ↦ one.opens k (two.added k on lacks)
          ];
      opens = λ k open'. one.opens k (two.opens k open');
    }

-- ## What holds at branches, and then at every node

-- something holds of each branch of a tree: its node, and its candidate
abbrev pub AtBranches : (nodes.Node → ℕ → Type 0) → nodes.Node → Tree → Type 0
AtBranches P node (Branches a inside outside) = P node a × AtBranches P (in_side node a) inside × AtBranches P (out_side node a) outside
AtBranches P node (Leaf k) = Unit {0}
AtBranches P node Full = Unit {0}

pub at-branches : (P : nodes.Node → ℕ → Type 0) (node : nodes.Node) (tree : Tree) →
    ((i : ℕ) (s : Subproblem) (a : ℕ) (inside outside : Tree) → slice_get (subproblems node tree) i ≡ Some s → s.tree ≡ Branches a inside outside → P s.node a) → AtBranches P node tree
at-branches P node (Branches a inside outside) each =
    let xs : List Subproblem = subproblems (in_side node a) inside in
    let ys : List Subproblem = subproblems (out_side node a) outside in (
      each 0 (record { node = node; tree = Branches a inside outside }) a inside outside refl refl,
      at-branches P (in_side node a) inside (λ i s b x y found is. each (suc i) s b x y (front-of xs ys i s found) is),
      at-branches P (out_side node a) outside (λ i s b x y found is. each (suc (length xs + i)) s b x y (back-of xs ys i s found) is),
    )
at-branches P node (Leaf k) each = tt
at-branches P node Full each = tt

-- what holds of the root, and goes from each node to the sides of its branch, holds of every node
pub each-node : (Q : nodes.Node → Type 0) (P : nodes.Node → ℕ → Type 0) → ((n : nodes.Node) (a : ℕ) → P n a → Q n → Q (in_side n a)) → ((n : nodes.Node) (a : ℕ) → P n a → Q n → Q (out_side n a)) →
    (node : nodes.Node) (tree : Tree) → AtBranches P node tree → Q node → (i : ℕ) (s : Subproblem) → slice_get (subproblems node tree) i ≡ Some s → Q s.node
each-node Q P into out node (Branches a inside outside) at' start zero s found =
    let same : record { node = node; tree = Branches a inside outside } ≡ s = cc in
    subst (λ (x : Subproblem). Q x.node) same start
each-node Q P into out node (Branches a inside outside) at' start (suc i) s found =
    elim (either-of (subproblems (in_side node a) inside) (subproblems (out_side node a) outside) i s found) [
      | inl front ↦ each-node Q P into out (in_side node a) inside at'.1 (into node a at'.0 start) i s front
      | inr back ↦ each-node Q P into out (out_side node a) outside at'.2 (out node a at'.0 start) back.number s back.found
    ]
each-node Q P into out node (Leaf k) at' start zero s found =
    let same : record { node = node; tree = Leaf k } ≡ s = cc in
    subst (λ (x : Subproblem). Q x.node) same start
each-node Q P into out node (Leaf k) at' start (suc i) s found = absurd (cc)
each-node Q P into out node Full at' start zero s found =
    let same : record { node = node; tree = Full } ≡ s = cc in
    subst (λ (x : Subproblem). Q x.node) same start
each-node Q P into out node Full at' start (suc i) s found = absurd (cc)

-- ## Branches on open and useful candidates

pub record IsUsefulBranch (setting : TheSetting) (budget : ℕ) (node : nodes.Node) (a : ℕ) : Type 0 where
  pub branch : IsBranch setting node a
  pub is_open : is_open setting.cat setting.shapes budget node a ≡ true
  pub useful : IsUseful setting budget a

pub useful-branch : (setting : TheSetting) (budget : ℕ) (node : nodes.Node) (a : ℕ) → nodes.is_open setting.cat setting.shapes budget node a ≡ true → IsUseful setting budget a → IsUsefulBranch setting budget node a
useful-branch setting budget node a open' useful =
    let within = slice_get_within setting.shapes (a - 1) useful.shape useful.found in
    let parts = and_parts (is_free node a) (nat_le (config_pages setting.cat setting.shapes node.inside + candidate_pages setting.cat setting.shapes a) budget) open' in
    record {
      branch = record { some = useful.some; within = omega (arith, within, useful.some); free = parts.0 };
      is_open = open';
      useful = useful;
    }

pub useful-branches : (setting : TheSetting) (budget : ℕ) (root : nodes.Node) (tree : Tree) → AreWorthwhile setting budget (subproblems root tree) → AtBranches (IsUsefulBranch setting budget) root tree
useful-branches setting budget root tree are =
    at-branches (IsUsefulBranch setting budget) root tree
    (λ i s a inside outside found is. let here = are i s a inside outside found is in useful-branch setting budget s.node a here.is_open here.useful)

-- each node is narrower than the root
pub narrower-below : (setting : TheSetting) (budget : ℕ) (root : nodes.Node) (tree : Tree) → AtBranches (IsUsefulBranch setting budget) root tree →
    (i : ℕ) (s : Subproblem) → slice_get (subproblems root tree) i ≡ Some s → IsNarrower setting budget root s.node
narrower-below setting budget root tree at' i s found =
    each-node (IsNarrower setting budget root) (IsUsefulBranch setting budget)
    (λ n a p before. narrower-more setting budget root n (in_side n a) before (in-narrower setting budget n a p.branch p.is_open))
    (λ n a p before. narrower-more setting budget root n (out_side n a) before (out-narrower setting budget n a p.branch))
    root tree at' (narrower-self setting budget root) i s found

-- so no Lagrangian value falls below that of the root
pub value-below : (setting : TheSetting) (budget : ℕ) (root : nodes.Node) (tree : Tree) (multipliers : TheMultipliers) (above value : ℤ) → ((q : ℕ) → IsRent (multipliers.rent q)) →
    AtBranches (IsUsefulBranch setting budget) root tree → (i : ℕ) (s : Subproblem) → slice_get (subproblems root tree) i ≡ Some s →
    IsLagrangian setting budget root multipliers above → IsLagrangian setting budget s.node multipliers value → above ≤ℤ value
value-below setting budget root tree multipliers above value limits at' i s found at_root here =
    narrower-value setting budget root s.node multipliers above value limits (narrower-below setting budget root tree at' i s found) at_root here

-- ## What is in has space, and is of the candidates

chosen-more : {X : Type 0} (f : X → ℕ) (flags : List Bool) (xs : List X) (i : ℕ) → total f (chosen (slice_set flags i true) xs) ≤ total f (chosen flags xs) + option_map_or f (slice_get xs i) 0
chosen-more f [] xs i = omega arith
chosen-more f (flag ∷ flags) [] zero = omega arith
chosen-more f (flag ∷ flags) [] (suc i) = omega arith
chosen-more f (true ∷ flags) (x ∷ xs) zero = omega arith
chosen-more f (false ∷ flags) (x ∷ xs) zero = omega arith
chosen-more f (true ∷ flags) (x ∷ xs) (suc i) = let rest = chosen-more f flags xs i in omega (arith, rest)
chosen-more f (false ∷ flags) (x ∷ xs) (suc i) = let rest = chosen-more f flags xs i in omega (arith, rest)

pub pages-with : (cat : Catalogue) (shapes : List IndexShape) (config : Config) (a : ℕ) → config_pages cat shapes (with_candidate config a) ≤ config_pages cat shapes config + candidate_pages cat shapes a
pages-with cat shapes config a =
    let before = pages-by-shape cat shapes config ∙ sum-total (shape_pages cat) (candidates_in shapes config) in
    let after = pages-by-shape cat shapes (with_candidate config a) ∙ sum-total (shape_pages cat) (candidates_in shapes (with_candidate config a)) in
    let own = size-by-shape cat shapes a in
    let more = chosen-more (shape_pages cat) config.on shapes (a - 1) in
    omega (arith, before, after, own, more)

pub open-space : (setting : TheSetting) (budget : ℕ) (node : nodes.Node) (a : ℕ) → nodes.is_open setting.cat setting.shapes budget node a ≡ true → config_pages setting.cat setting.shapes (with_candidate node.inside a) ≤ budget
open-space setting budget node a open' =
    let pages : ℕ = config_pages setting.cat setting.shapes node.inside + candidate_pages setting.cat setting.shapes a in
    let parts = and_parts (is_free node a) (nat_le pages budget) open' in
    let room : pages ≤ budget = leb-true pages budget parts.1 in
    omega (arith, room, pages-with setting.cat setting.shapes node.inside a)

pub space-below : (setting : TheSetting) (budget : ℕ) (root : nodes.Node) (tree : Tree) → AtBranches (IsUsefulBranch setting budget) root tree → config_pages setting.cat setting.shapes root.inside ≤ budget →
    (i : ℕ) (s : Subproblem) → slice_get (subproblems root tree) i ≡ Some s → config_pages setting.cat setting.shapes s.node.inside ≤ budget
space-below setting budget root tree at' space i s found =
    each-node (λ n. config_pages setting.cat setting.shapes n.inside ≤ budget) (IsUsefulBranch setting budget)
    (λ n a p before. open-space setting budget n a p.is_open) (λ n a p before. before) root tree at' space i s found

pub with-config : (shapes : List IndexShape) (config : Config) (a : ℕ) → 1 ≤ a → a ≤ length shapes → IsConfigOf shapes config → IsConfigOf shapes (with_candidate config a)
with-config shapes config a some within is i on =
    let flag : has_candidate (with_candidate config a) (suc i) ≡ true = flag-of (with_candidate config a) i ∙ on-get (with_candidate config a).on i on in
    elim (with_candidate-has config a (suc i) some flag) [
      | inl before ↦ is i (flag-found config.on i (sym (flag-of config i) ∙ before))
      | inr new ↦ omega (arith, new, within)
    ]

pub config-below : (setting : TheSetting) (budget : ℕ) (root : nodes.Node) (tree : Tree) → AtBranches (IsUsefulBranch setting budget) root tree → IsConfigOf setting.shapes root.inside →
    (i : ℕ) (s : Subproblem) → slice_get (subproblems root tree) i ≡ Some s → IsConfigOf setting.shapes s.node.inside
config-below setting budget root tree at' is i s found =
    each-node (λ n. IsConfigOf setting.shapes n.inside) (IsUsefulBranch setting budget)
    (λ n a p before. with-config setting.shapes n.inside a p.branch.some p.branch.within before) (λ n a p before. before) root tree at' is i s found

-- ## The nodes of a tree are as many as those of its list

pub subproblems-length : (node : nodes.Node) (tree : Tree) → length (subproblems node tree) ≡ length (preorder tree)
subproblems-length node (Branches a inside outside) =
    let one = subproblems-length (in_side node a) inside in
    let two = subproblems-length (out_side node a) outside in
    let left = length-append (subproblems (in_side node a) inside) (subproblems (out_side node a) outside) in
    let right = length-append (preorder inside) (preorder outside) in
    omega (arith, one, two, left, right)
subproblems-length node (Leaf k) = refl
subproblems-length node Full = refl
