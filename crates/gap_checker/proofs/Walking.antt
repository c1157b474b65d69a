-- The walk over a tree, from node to node.
use Rattle.std.proofs.Common.{◌≡◌, ◌∙◌, ℕ, suc, ◌+◌, ◌<◌, List, [], ◌∷◌, ◌++◌, length, length-append, append_assoc, map, take, drop, drop-cons, refl, sym, ap, subst, arith}
use Rattle.std.specs.Prelude.{All, Some, slice_get, reverse}
use Rattle.std.proofs.lemmas.List.{reverse-append, map-append, append-nil, take-append-drop}
use Rattle.std.proofs.lemmas.List.Elements.{All-append, All-cons, All-nil}
use Rattle.std.proofs.lemmas.Option.{slice_get_within, get_or_from_slice_get}
use Rattle.adv_base.specs.Nodes as nodes
use Rattle.bip_model.specs.declared.answer.Node.{Node}
use Rattle.bip_model.specs.declared.answer.Node.TheVariants.{Branch, Bounded, Overfull}
use Rattle.bip_model.specs.declared.fix.Fix.{Fix}
use Rattle.bip_model.specs.Views.{node_of}
use Rattle.certificate.specs.Limits.{AreTrees}
use Rattle.certificate.proofs.TreeLaws.{whole-preorder}
use Rattle.gap_checker.specs.declared.fault.CheckFault.{CheckFault}
use Rattle.gap_checker.specs.declared.fault.CheckFault.TheVariants as faults
use Rattle.gap_checker.specs.declared.judge.Judge.{Judge}
use Rattle.gap_checker.specs.Faults.{IsNodeAt}
use Rattle.gap_checker.specs.Views.{IsProof}
use Rattle.gap_checker.specs.Visits.{Visit, visits, IsRight}
use Rattle.gap_checker.specs.inner.Claims.{sets_in}
use Rattle.gap_checker.specs.inner.Judges.{setting_of, root_of, rule_in, cert_of, AreSound, IsRightFor, IsWrong, IsWalk, WalksOn, IsNextFault}
use Rattle.gap_checker.specs.inner.Nodes.{starts_of}
use Rattle.gap_checker.specs.inner.Walks.{sides, trees_after}
use Rattle.gap_checker.proofs.Lists.{length-front}
use Rattle.gap_checker.proofs.Visiting.{right-shown}

-- ## What is kept

pub starts-put : (kept : List Fix) (start : Fix) → starts_of (kept ++ start ∷ []) ≡ node_of start ∷ starts_of kept
starts-put kept start = ap reverse (map-append node_of kept (start ∷ [])) ∙ reverse-append (map node_of kept) (node_of start ∷ [])

-- ## Steps

next-visits : (at : nodes.Node) (starts : List nodes.Node) (node : Node) (list : List Node) → visits (at ∷ starts) (node ∷ list) ≡ record { at = at; node = node } ∷ visits (sides at node starts) list
next-visits at starts (Branch a) list = refl
next-visits at starts (Bounded k) list = refl
next-visits at starts Overfull list = refl

next-trees : (at : nodes.Node) (starts : List nodes.Node) (node : Node) (list : List Node) → AreTrees (length (at ∷ starts)) (node ∷ list) → AreTrees (length (sides at node starts)) list
next-trees at starts (Branch a) list are = are
next-trees at starts (Bounded k) list are = are
next-trees at starts Overfull list are = are

trees-next : (at : nodes.Node) (starts : List nodes.Node) (node : Node) (list : List Node) → AreTrees (length (sides at node starts)) list → AreTrees (length (at ∷ starts)) (node ∷ list)
trees-next at starts (Branch a) list are = are
trees-next at starts (Bounded k) list are = are
trees-next at starts Overfull list are = are

-- how many starts are left behind a node
pub sides-count : (at : nodes.Node) (node : Node) (starts : List nodes.Node) → length (sides at node starts) ≡ trees_after (suc (length starts)) node
sides-count at (Branch a) starts = omega arith
sides-count at (Bounded k) starts = omega arith
sides-count at Overfull starts = omega arith

-- some start is left where a node of a whole tree is
pub walk-some : (judge : Judge) (read : List Node) (starts : List nodes.Node) (node : Node) (rest : List Node) → IsWalk judge read starts → AreTrees 1 (read ++ node ∷ rest) → 0 < length starts
walk-some judge read [] node rest walk are = absurd ((walk.trees (node ∷ rest)).0 are)
walk-some judge read (at ∷ starts) node rest walk are = omega arith

walk-parts : (judge : Judge) (read : List Node) (at : nodes.Node) (starts : List nodes.Node) (node : Node) (rest : List Node) → (walk : IsWalk judge read (at ∷ starts)) →
    visits (root_of judge ∷ []) (read ++ node ∷ rest) ≡ walk.before ++ record { at = at; node = node } ∷ visits (sides at node starts) rest
walk-parts judge read at starts node rest walk = walk.parts (node ∷ rest) ∙ ap (λ (vs : List Visit). walk.before ++ vs) (next-visits at starts node rest)

pub walk-step : (judge : Judge) (at : nodes.Node) (starts : List nodes.Node) (node : Node) → IsRightFor judge at node → WalksOn judge (at ∷ starts) node (sides at node starts)
walk-step judge at starts node right = λ read walk.
    let P : Visit → Type 0 = IsRight (rule_in judge) (setting_of judge) judge.claims.budget judge.claims.bound (sets_in judge.claims) in
    let visit : Visit = record { at = at; node = node } in
    record {
      before = walk.before ++ visit ∷ [];
      count_is = omega (arith, walk.count_is, length-append read (node ∷ []), length-append walk.before (visit ∷ []));
      parts = λ rest.
          ap (visits (root_of judge ∷ [])) (append_assoc read (node ∷ []) rest) ∙ walk-parts judge read at starts node rest walk
          ∙ sym (append_assoc walk.before (visit ∷ []) (visits (sides at node starts) rest));
      right = All-append P walk.before (visit ∷ []) walk.right (All-cons P visit [] right (All-nil P));
      trees = λ rest. (
        λ are. next-trees at starts node rest ((walk.trees (node ∷ rest)).0 (subst (AreTrees 1) (append_assoc read (node ∷ []) rest) are)),
        λ are. subst (AreTrees 1) (sym (append_assoc read (node ∷ []) rest)) ((walk.trees (node ∷ rest)).1 (trees-next at starts node rest are)),
      );
    }

-- ## Faults

node-at : (judge : Judge) (read : List Node) (at : nodes.Node) (starts : List nodes.Node) (node : Node) (rest : List Node) → IsWalk judge read (at ∷ starts) →
    IsNodeAt (setting_of judge) (root_of judge) (cert_of judge (read ++ node ∷ rest)) (suc (length read)) at node
node-at judge read at starts node rest walk =
    record {
      before = walk.before;
      rest = visits (sides at node starts) rest;
      parts = walk-parts judge read at starts node rest walk;
      number_is = ap suc walk.count_is;
      right = walk.right;
    }

pub wrong-fault : (judge : Judge) (at : nodes.Node) (starts : List nodes.Node) (number : ℕ) (node : Node) (fault : CheckFault) → IsWrong judge number at node fault → IsNextFault judge (at ∷ starts) number node fault
wrong-fault judge at starts number node faults.Memory wrong = λ read rest sound walk is. tt
wrong-fault judge at starts number node (faults.BadConfig n) wrong = absurd wrong
wrong-fault judge at starts number node (faults.OverBudget n b) wrong = absurd wrong
wrong-fault judge at starts number node (faults.Clash n b) wrong = absurd wrong
wrong-fault judge at starts number node (faults.CostDiffers n b) wrong = absurd wrong
wrong-fault judge at starts number node (faults.BadPair n b) wrong = absurd wrong
wrong-fault judge at starts number node (faults.BadBranch n) wrong = λ read rest sound walk is.
    record {
      sound = sound (read ++ node ∷ rest);
      at = at;
      candidate = wrong.1.candidate;
      node_is = rw (wrong.0, is, ← wrong.1.node_is) (node-at judge read at starts node rest walk);
      wrong = wrong.1.wrong;
    }
wrong-fault judge at starts number node (faults.LeafBelow n computed claimed) wrong = λ read rest sound walk is.
    record {
      sound = sound (read ++ node ∷ rest);
      at = at;
      set = wrong.1.set;
      node_is = rw (wrong.0, is, ← wrong.1.node_is) (node-at judge read at starts node rest walk);
      multipliers = wrong.1.multipliers;
      found = wrong.1.found;
      value_is = wrong.1.value_is;
      claimed_is = wrong.1.claimed_is;
      below = wrong.1.below;
    }
wrong-fault judge at starts number node (faults.NotInfeasible n size) wrong = λ read rest sound walk is.
    record {
      sound = sound (read ++ node ∷ rest);
      at = at;
      node_is = rw (wrong.0, is, ← wrong.1.node_is) (node-at judge read at starts node rest walk);
      size_is = wrong.1.size_is;
      fits = wrong.1.fits;
    }

-- ## The ends of a walk

pub walk-start : (judge : Judge) → IsWalk judge [] (root_of judge ∷ [])
walk-start judge =
    record {
      before = [];
      count_is = refl;
      parts = λ rest. refl;
      right = All-nil (IsRight (rule_in judge) (setting_of judge) judge.claims.budget judge.claims.bound (sets_in judge.claims));
      trees = λ rest. (λ are. are, λ are. are);
    }

-- where a whole tree was read, it is a proof
pub walk-end : (judge : Judge) (tree : List Node) (starts : List nodes.Node) → AreSound judge → AreTrees 1 tree → IsWalk judge tree starts → IsProof (setting_of judge) (root_of judge) (cert_of judge tree)
walk-end judge list starts sound are walk =
    let P : Visit → Type 0 = IsRight (rule_in judge) (setting_of judge) judge.claims.budget judge.claims.bound (sets_in judge.claims) in
    let whole : visits (root_of judge ∷ []) (list ++ []) ≡ walk.before = walk.parts [] ∙ append-nil walk.before in
    let tree = whole-preorder list are in
    let all : All P (visits (root_of judge ∷ []) (list ++ [])) = subst (All P) (sym whole) walk.right in
    let moved = subst (λ (nodes : List Node). All P (visits (root_of judge ∷ []) (nodes ++ []))) tree.nodes_are all in
    let is = sound list in
    record {
      members = is.members;
      fits = is.fits;
      cost_is = is.cost_is;
      rents = is.rents;
      shown = record { tree = tree.tree; list_is = tree.nodes_are; shows = (right-shown (rule_in judge) (setting_of judge) judge.claims.budget judge.claims.bound (sets_in judge.claims) (root_of judge) [] tree.tree [] moved).0 };
    }

-- ## A tree's list, node by node

-- the node of a place, with what stands before and behind it
pub cut-at : (list : List Node) (i : ℕ) (node : Node) → slice_get list i ≡ Some node → list ≡ take i list ++ node ∷ drop (suc i) list
cut-at list i node there =
    let within : i < length list = slice_get_within list i node there in
    let behind : drop i list ≡ node ∷ drop (suc i) list = drop-cons list i node within ∙ ap (λ (n : Node). n ∷ drop (suc i) list) (get_or_from_slice_get list i node node there) in
    sym (take-append-drop i list) ∙ ap (λ (back : List Node). take i list ++ back) behind

pub number-at : (list : List Node) (i : ℕ) (node : Node) → slice_get list i ≡ Some node → i + 1 ≡ suc (length (take i list))
number-at list i node there =
    let within : i < length list = slice_get_within list i node there in
    omega (arith, length-front list i (omega (arith, within)))
