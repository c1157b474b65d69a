-- The text of a tree, line by line.
use Rattle.std.proofs.Common.{◌≡◌, ◌≢◌, ◌∙◌, ℕ, zero, suc, ◌+◌, ◌-◌, ◌/◌, ◌%◌, ◌^◌, ◌<◌, ◌≤◌, List, [], ◌∷◌, ◌++◌, length, map, drop, get_or, refl, sym, ap, subst, arith}
use Rattle.std.specs.Prelude.{codes, slice_index_or}
use Rattle.std.specs.List.{AllByRecursion}
use Rattle.std.proofs.lemmas.List.Elements.{All-from_recursion}
use Rattle.bip_model.specs.declared.answer.Node.{Node}
use Rattle.bip_model.specs.declared.answer.Node.TheVariants.{Branch, Bounded, Overfull}
use Rattle.certificate.specs.Certificates.{IsLine}
use Rattle.certificate.specs.Limits.{NodeLimits, AreTrees}
use Rattle.certificate.specs.Texts.{word, node_line, end_line}
use Rattle.certificate.proofs.Sizes.{node-size, end-size}
use Rattle.certificate.proofs.Splits.{node-plain, all-append}
use Rattle.certificate.proofs.WideDigits.{wide-injective}
use Rattle.gap_checker.specs.inner.Walks.{trees_after, TreesFit}

-- ## Lines of nodes

same-number : (m n : ℕ) → m < 2 ^ 128 → n < 2 ^ 128 → word m ≡ word n → m ≡ n
same-number m n m_small n_small e = wide-injective m n m_small n_small (ap (drop 1) e)

abbrev first-byte : List ℕ → ℕ
first-byte line = slice_index_or line 0 0

-- a line is that of one node
pub one-node : (sets : ℕ) (m n : Node) → sets ≤ 16 → NodeLimits sets m → NodeLimits sets n → node_line m ≡ node_line n → m ≡ n
unfolding node_line
one-node sets (Branch a) (Branch b) few h g e = ap Branch (same-number a b (omega (arith, h.1)) (omega (arith, g.1)) (ap (drop 1) e))
one-node sets (Bounded k) (Bounded l) few h g e = ap Bounded (same-number k l (omega (arith, h)) (omega (arith, g)) (ap (drop 1) e))
one-node sets Overfull Overfull few h g e = refl
one-node sets (Branch a) (Bounded l) few h g e = let first : 66 ≡ 76 = ap first-byte e in absurd (omega (arith, first))
one-node sets (Branch a) Overfull few h g e = let first : 66 ≡ 88 = ap first-byte e in absurd (omega (arith, first))
one-node sets (Bounded k) (Branch b) few h g e = let first : 76 ≡ 66 = ap first-byte e in absurd (omega (arith, first))
one-node sets (Bounded k) Overfull few h g e = let first : 76 ≡ 88 = ap first-byte e in absurd (omega (arith, first))
one-node sets Overfull (Branch b) few h g e = let first : 88 ≡ 66 = ap first-byte e in absurd (omega (arith, first))
one-node sets Overfull (Bounded l) few h g e = let first : 88 ≡ 76 = ap first-byte e in absurd (omega (arith, first))

-- and not the one behind the nodes
pub no-end : (node : Node) → node_line node ≡ end_line → ⊥
unfolding node_line end_line
no-end (Branch a) e = let first : 66 ≡ 101 = ap first-byte e in absurd (omega (arith, first))
no-end (Bounded k) e = let first : 76 ≡ 101 = ap first-byte e in absurd (omega (arith, first))
no-end Overfull e = let first : 88 ≡ 101 = ap first-byte e in absurd (omega (arith, first))

pub end-plain : IsLine end_line
unfolding end_line
end-plain = All-from_recursion (λ (b : ℕ). b ≢ 10) (codes "end") (λ e. omega (arith, e), (λ e. omega (arith, e), (λ e. omega (arith, e), tt)))

pub nodes-plain : (sets : ℕ) (ns : List Node) → sets ≤ 16 → AllByRecursion (NodeLimits sets) ns → AllByRecursion IsLine (map node_line ns)
nodes-plain sets [] few h = tt
nodes-plain sets (n ∷ ns) few h = (node-plain sets n few h.0, nodes-plain sets ns few h.1)

pub tree-plain : (sets : ℕ) (ns : List Node) → sets ≤ 16 → AllByRecursion (NodeLimits sets) ns → AllByRecursion IsLine (map node_line ns ++ end_line ∷ [])
tree-plain sets ns few h = all-append IsLine (map node_line ns) (end_line ∷ []) (nodes-plain sets ns few h) (end-plain, tt)

-- nodes and a line behind them that a tree's lines begin with
pub record Fronts (ys : List Node) (xs : List Node) (line : List ℕ) (zs : List (List ℕ)) : Type 0 where
  pub others : List Node
  pub parts : ys ≡ xs ++ others
  pub lines : line ∷ zs ≡ map node_line others ++ end_line ∷ []

abbrev first-line : List (List ℕ) → List ℕ
first-line lines = get_or lines 0 []

pub fronts : (sets : ℕ) (xs ys : List Node) (line : List ℕ) (zs : List (List ℕ)) → sets ≤ 16 → AllByRecursion (NodeLimits sets) xs → AllByRecursion (NodeLimits sets) ys →
    map node_line xs ++ line ∷ zs ≡ map node_line ys ++ end_line ∷ [] → Fronts ys xs line zs
fronts sets [] ys line zs few h g e = record { others = ys; parts = refl; lines = e }
fronts sets (x ∷ xs) [] line zs few h g e = absurd (no-end x (ap first-line e))
fronts sets (x ∷ xs) (y ∷ ys) line zs few h g e =
    let same : x ≡ y = one-node sets x y few h.0 g.0 (ap first-line e) in
    let rest = fronts sets xs ys line zs few h.1 g.1 (ap (drop 1) e) in
    record { others = rest.others; parts = ap (λ (n : Node). n ∷ ys) (sym same) ∙ ap (λ (ns : List Node). x ∷ ns) rest.parts; lines = rest.lines }

-- no line is longer than five bytes
pub line-short : (sets : ℕ) (others : List Node) (line : List ℕ) (zs : List (List ℕ)) → sets ≤ 16 → AllByRecursion (NodeLimits sets) others → line ∷ zs ≡ map node_line others ++ end_line ∷ [] → length line ≤ 5
line-short sets [] line zs few h e =
    let same : line ≡ end_line = ap first-line e in
    omega (arith, end-size, ap length same)
line-short sets (n ∷ ns) line zs few h e =
    let same : line ≡ node_line n = ap first-line e in
    omega (arith, node-size sets n few h.0, ap length same)

-- bytes without a line feed lie in the line that begins so
pub line-within : (line more partial rest : List ℕ) → line ++ 10 ∷ more ≡ partial ++ rest → IsLine partial → length partial ≤ length line
line-within line more [] rest e plain = omega arith
line-within [] more (b ∷ partial) rest e plain = absurd (plain 0 0 (omega arith) (sym (ap (λ (t : List ℕ). slice_index_or t 0 0) e)))
line-within (l ∷ line) more (b ∷ partial) rest e plain = omega (arith, line-within line more partial rest (ap (drop 1) e) (λ k d h. plain (suc k) d (omega arith)))

pub no-bytes : (bytes : List ℕ) → length bytes ≡ 0 → bytes ≡ []
no-bytes [] none = refl
no-bytes (b ∷ bytes) none = absurd (omega (arith, none))

-- ## Counts of trees

pub next-trees : (trees : ℕ) (node : Node) (ns : List Node) → AreTrees trees (node ∷ ns) → AreTrees (trees_after trees node) ns
next-trees zero node ns h = absurd h
next-trees (suc t) (Branch a) ns h = let more : suc (suc t) ≡ suc t + 1 = omega arith in subst (λ (k : ℕ). AreTrees k ns) more h
next-trees (suc t) (Bounded k) ns h = let fewer : t ≡ suc t - 1 = omega arith in subst (λ (j : ℕ). AreTrees j ns) fewer h
next-trees (suc t) Overfull ns h = let fewer : t ≡ suc t - 1 = omega arith in subst (λ (j : ℕ). AreTrees j ns) fewer h

pub trees-few : (t : ℕ) (ns : List Node) → AreTrees t ns → t ≤ length ns
trees-few zero [] h = omega arith
trees-few (suc t) [] h = absurd h
trees-few zero (n ∷ ns) h = absurd h
trees-few (suc t) (Branch a ∷ ns) h = omega (arith, trees-few (suc (suc t)) ns h)
trees-few (suc t) (Bounded k ∷ ns) h = omega (arith, trees-few t ns h)
trees-few (suc t) (Overfull ∷ ns) h = omega (arith, trees-few t ns h)

no-trees : (t : ℕ) (ns : List Node) → AreTrees t ns → t ≡ 0 → length ns ≡ 0
no-trees zero [] h none = refl
no-trees zero (n ∷ ns) h none = absurd h
no-trees (suc t) ns h none = absurd (omega (arith, none))

-- nodes that are so many trees are enough for them
pub trees-fit : (t : ℕ) (ns : List Node) → AreTrees t ns → TreesFit t (length ns)
trees-fit t ns h = record { few = trees-few t ns h; none = no-trees t ns h }

-- the count of a tree's nodes is odd
pub trees-even : (t : ℕ) (ns : List Node) → AreTrees t ns → (t + length ns) % 2 ≡ 0
trees-even zero [] h = refl
trees-even (suc t) [] h = absurd h
trees-even zero (n ∷ ns) h = absurd h
trees-even (suc t) (Branch a ∷ ns) h = omega (arith, trees-even (suc (suc t)) ns h)
trees-even (suc t) (Bounded k ∷ ns) h = omega (arith, trees-even t ns h)
trees-even (suc t) (Overfull ∷ ns) h = omega (arith, trees-even t ns h)

-- ## Trees of so many nodes

pub record Fills (sets trees left : ℕ) : Type 0 where
  pub nodes : List Node
  pub count : length nodes ≡ left
  pub limits : AllByRecursion (NodeLimits sets) nodes
  pub trees_are : AreTrees trees nodes

leaves : (sets trees : ℕ) → Fills sets trees trees
leaves sets zero = record { nodes = []; count = refl; limits = tt; trees_are = tt }
leaves sets (suc trees) =
    let rest = leaves sets trees in
    record { nodes = Overfull ∷ rest.nodes; count = ap suc rest.count; limits = (tt, rest.limits); trees_are = rest.trees_are }

branches : (sets trees more : ℕ) → 0 < trees → Fills sets trees (trees + (more + more))
branches sets trees zero some =
    let same : trees ≡ trees + (0 + 0) = omega arith in
    subst (λ (n : ℕ). Fills sets trees n) same (leaves sets trees)
branches sets zero (suc more) some = absurd (omega (arith, some))
branches sets (suc trees) (suc more) some =
    let rest = branches sets (suc (suc trees)) more (omega arith) in
    record {
      nodes = Branch 1 ∷ rest.nodes;
      count = omega (arith, rest.count);
      limits = ((omega arith, omega arith), rest.limits);
      trees_are = rest.trees_are;
    }

-- where the counts allow it there are such trees
pub fills : (sets trees left : ℕ) → TreesFit trees left → (trees + left) % 2 ≡ 0 → Fills sets trees left
fills sets zero left fit even = let same : 0 ≡ left = omega (arith, fit.none refl) in subst (λ (n : ℕ). Fills sets 0 n) same (leaves sets 0)
fills sets (suc trees) left fit even =
    let half : ℕ = (left - suc trees) / 2 in
    let same : suc trees + (half + half) ≡ left = omega (arith, fit.few, even) in
    subst (λ (n : ℕ). Fills sets (suc trees) n) same (branches sets (suc trees) half (omega arith))
