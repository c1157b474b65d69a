-- Lists of nodes are whole trees exactly where they are trees in preorder.
use Rattle.std.proofs.Common.{◌≡◌, ◌∙◌, ℕ, zero, suc, List, [], ◌∷◌, ◌++◌, length, drop, sym, ap, subst, refl, arith}
use Rattle.std.proofs.lemmas.List.{append-nil, append_assoc}
use Rattle.bip_model.specs.declared.answer.Node.{Node}
use Rattle.bip_model.specs.declared.answer.Node.TheVariants.{Branch, Bounded, Overfull}
use Rattle.bip_model.specs.Trees.{Tree, Branches, Leaf, Full, preorder}
use Rattle.certificate.specs.Limits.{AreTrees}
use Rattle.certificate.specs.Trees.{preorders, ArePreorders, IsPreorder, TreesArePreorders, TreeIsPreorder, OneTree}

-- a tree in front of trees
pub tree-front : (tree : Tree) (n : ℕ) (ns : List Node) → AreTrees n ns → AreTrees (suc n) (preorder tree ++ ns)
tree-front (Branches a inside outside) n ns h =
    let both : AreTrees (suc (suc n)) (preorder inside ++ (preorder outside ++ ns)) = tree-front inside (suc n) (preorder outside ++ ns) (tree-front outside n ns h) in
    subst (λ (xs : List Node). AreTrees (suc (suc n)) xs) (sym (append_assoc (preorder inside) (preorder outside) ns)) both
tree-front (Leaf k) n ns h = h
tree-front Full n ns h = h

pub preorders-whole : (trees : List Tree) → AreTrees (length trees) (preorders trees)
preorders-whole [] = tt
preorders-whole (tree ∷ trees) = tree-front tree (length trees) (preorders trees) (preorders-whole trees)

pub preorder-whole : (tree : Tree) → AreTrees 1 (preorder tree)
preorder-whole tree = subst (λ (xs : List Node). AreTrees 1 xs) (append-nil (preorder tree)) (tree-front tree 0 [] tt)

-- a branch takes the first two of the trees behind it
branch-front : (a n : ℕ) (ns : List Node) (trees : List Tree) → length trees ≡ suc (suc n) → ns ≡ preorders trees → ArePreorders (suc n) (Branch a ∷ ns)
branch-front a n ns [] count are = absurd (omega arith)
branch-front a n ns (only ∷ []) count are = absurd (omega arith)
branch-front a n ns (inside ∷ outside ∷ trees) count are = record {
  trees = Branches a inside outside ∷ trees;
  count_is = omega (arith, count);
  nodes_are = ap (λ (xs : List Node). Branch a ∷ xs) (are ∙ sym (append_assoc (preorder inside) (preorder outside) (preorders trees)));
}

pub whole-preorders : (n : ℕ) (ns : List Node) → AreTrees n ns → ArePreorders n ns
whole-preorders zero [] h = record { trees = []; count_is = refl; nodes_are = refl }
whole-preorders (suc n) [] h = absurd h
whole-preorders zero (node ∷ ns) h = absurd h
whole-preorders (suc n) (Branch a ∷ ns) h =
    let rest = whole-preorders (suc (suc n)) ns h in branch-front a n ns rest.trees rest.count_is rest.nodes_are
whole-preorders (suc n) (Bounded k ∷ ns) h =
    let rest = whole-preorders n ns h in
    record { trees = Leaf k ∷ rest.trees; count_is = ap suc rest.count_is; nodes_are = ap (λ (xs : List Node). Bounded k ∷ xs) rest.nodes_are }
whole-preorders (suc n) (Overfull ∷ ns) h =
    let rest = whole-preorders n ns h in
    record { trees = Full ∷ rest.trees; count_is = ap suc rest.count_is; nodes_are = ap (λ (xs : List Node). Overfull ∷ xs) rest.nodes_are }

one-of : (ns : List Node) (trees : List Tree) → length trees ≡ 1 → ns ≡ preorders trees → IsPreorder ns
one-of ns [] count are = absurd (omega arith)
one-of ns (tree ∷ []) count are = record { tree = tree; nodes_are = are ∙ append-nil (preorder tree) }
one-of ns (tree ∷ other ∷ trees) count are = absurd (omega arith)

pub whole-preorder : (ns : List Node) → AreTrees 1 ns → IsPreorder ns
whole-preorder ns h = let all = whole-preorders 1 ns h in one-of ns all.trees all.count_is all.nodes_are

-- a tree in front of nodes is told by the list
pub one-front : (s t : Tree) (xs ys : List Node) → preorder s ++ xs ≡ preorder t ++ ys → (s ≡ t) × (xs ≡ ys)
one-front (Branches a i o) (Branches b j p) xs ys e =
    let first : a ≡ b = cc in
    let behind : (preorder i ++ preorder o) ++ xs ≡ (preorder j ++ preorder p) ++ ys = ap (drop 1) e in
    let inside = one-front i j (preorder o ++ xs) (preorder p ++ ys) (sym (append_assoc (preorder i) (preorder o) xs) ∙ behind ∙ append_assoc (preorder j) (preorder p) ys) in
    let outside = one-front o p xs ys inside.1 in
    (λ k. Branches (first k) (inside.0 k) (outside.0 k), outside.1)
one-front (Branches a i o) (Leaf l) xs ys e = absurd (cc)
one-front (Branches a i o) Full xs ys e = absurd (cc)
one-front (Leaf k) (Branches b j p) xs ys e = absurd (cc)
one-front (Leaf k) (Leaf l) xs ys e = let same : k ≡ l = cc in (ap Leaf same, ap (drop 1) e)
one-front (Leaf k) Full xs ys e = absurd (cc)
one-front Full (Branches b j p) xs ys e = absurd (cc)
one-front Full (Leaf l) xs ys e = absurd (cc)
one-front Full Full xs ys e = (refl, ap (drop 1) e)

pub trees-preorders : TreesArePreorders
trees-preorders = λ n ns.
    (whole-preorders n ns, λ (h : ArePreorders n ns). subst (λ (k : ℕ). AreTrees k ns) h.count_is (subst (λ (xs : List Node). AreTrees (length h.trees) xs) (sym h.nodes_are) (preorders-whole h.trees)))

pub tree-preorder : TreeIsPreorder
tree-preorder = λ ns. (whole-preorder ns, λ (h : IsPreorder ns). subst (λ (xs : List Node). AreTrees 1 xs) (sym h.nodes_are) (preorder-whole h.tree))

pub one-tree : OneTree
one-tree = λ s t e. (one-front s t [] [] (append-nil (preorder s) ∙ e ∙ sym (append-nil (preorder t)))).0
