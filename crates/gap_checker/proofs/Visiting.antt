-- What is right at each node of a tree is shown, and the other way round.
use Rattle.std.proofs.Common.{ℕ, ℤ, List, ◌∷◌, ◌++◌, append_assoc}
use Rattle.std.specs.Prelude.{All}
use Rattle.std.proofs.lemmas.List.Elements.{All-head, All-tail, All-cons}
use Rattle.adv_base.specs.Nodes as nodes
use Rattle.adv_base.specs.Settings.{TheSetting}
use Rattle.bip_model.specs.declared.answer.Node.{Node}
use Rattle.bip_model.specs.declared.answer.Node.TheVariants.{Branch, Bounded, Overfull}
use Rattle.bip_model.specs.Trees.{Tree, Branches, Leaf, Full, Rule, preorder, in_side, out_side, Shows}
use Rattle.plan_model.specs.Lagrangian.{TheMultipliers}
use Rattle.gap_checker.specs.Visits.{Visit, visits, IsRight}

pub right-shown : (rule : Rule) (setting : TheSetting) (budget : ℕ) (bound : ℤ) (sets : List TheMultipliers) (at : nodes.Node) (starts : List nodes.Node) (tree : Tree) (rest : List Node) →
    All (IsRight rule setting budget bound sets) (visits (at ∷ starts) (preorder tree ++ rest)) → Shows rule setting budget bound sets at tree × All (IsRight rule setting budget bound sets) (visits starts rest)
right-shown rule setting budget bound sets at starts (Branches a inside outside) rest right =
    let P : Visit → Type 0 = IsRight rule setting budget bound sets in
    let visit : Visit = record { at = at; node = Branch a } in
    let list : List Node = (preorder inside ++ preorder outside) ++ rest in
    let next : List nodes.Node = in_side at a ∷ out_side at a ∷ starts in
    let here = All-head P visit (visits next list) right in
    let later = All-tail P visit (visits next list) right in
    let moved : All P (visits next (preorder inside ++ (preorder outside ++ rest))) = rw append_assoc at later in
    let first = right-shown rule setting budget bound sets (in_side at a) (out_side at a ∷ starts) inside (preorder outside ++ rest) moved in
    let second = right-shown rule setting budget bound sets (out_side at a) starts outside rest first.1 in
    ((here, first.0, second.0), second.1)
right-shown rule setting budget bound sets at starts (Leaf k) rest right =
    let P : Visit → Type 0 = IsRight rule setting budget bound sets in
    let visit : Visit = record { at = at; node = Bounded k } in
    (All-head P visit (visits starts rest) right, All-tail P visit (visits starts rest) right)
right-shown rule setting budget bound sets at starts Full rest right =
    let P : Visit → Type 0 = IsRight rule setting budget bound sets in
    let visit : Visit = record { at = at; node = Overfull } in
    (All-head P visit (visits starts rest) right, All-tail P visit (visits starts rest) right)

-- and what is shown is right at each node
pub shown-right : (rule : Rule) (setting : TheSetting) (budget : ℕ) (bound : ℤ) (sets : List TheMultipliers) (at : nodes.Node) (starts : List nodes.Node) (tree : Tree) (rest : List Node) →
    Shows rule setting budget bound sets at tree → All (IsRight rule setting budget bound sets) (visits starts rest) → All (IsRight rule setting budget bound sets) (visits (at ∷ starts) (preorder tree ++ rest))
shown-right rule setting budget bound sets at starts (Branches a inside outside) rest shows later =
    let P : Visit → Type 0 = IsRight rule setting budget bound sets in
    let visit : Visit = record { at = at; node = Branch a } in
    let list : List Node = (preorder inside ++ preorder outside) ++ rest in
    let next : List nodes.Node = in_side at a ∷ out_side at a ∷ starts in
    let second = shown-right rule setting budget bound sets (out_side at a) starts outside rest shows.2 later in
    let first = shown-right rule setting budget bound sets (in_side at a) (out_side at a ∷ starts) inside (preorder outside ++ rest) shows.1 second in
    let moved : All P (visits next list) = rw append_assoc first in
    All-cons P visit (visits next list) shows.0 moved
shown-right rule setting budget bound sets at starts (Leaf k) rest shows later =
    All-cons (IsRight rule setting budget bound sets) (record { at = at; node = Bounded k }) (visits starts rest) shows later
shown-right rule setting budget bound sets at starts Full rest shows later =
    All-cons (IsRight rule setting budget bound sets) (record { at = at; node = Overfull }) (visits starts rest) shows later
