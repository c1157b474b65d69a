-- A run of the search below a node: what it had found before and what after, and the tree that it wrote.
use Rattle.std.specs.Prelude.{◌≡◌, ℕ, suc, ◌+◌, ◌-◌, ◌^◌, ◌<◌, ◌≤◌, nat_lt, nat_le, Bool, true, false, ◌&&◌, if◌then◌else◌, ◌⊎◌, List, [], ◌∷◌, ◌++◌, length, Option, Some, None, slice_index_or, ℤ, pos, negsuc, ◌≤ℤ◌}
use Rattle.std.specs.Int.{int_min}
use Rattle.adv_base.specs.declared.catalogue.index.IndexShape.{IndexShape}
use Rattle.adv_base.specs.Configs.{IsApart}
use Rattle.adv_base.specs.Nodes.{is_open_in}
use Rattle.bip_model.specs.declared.answer.Answer.{Answer}
use Rattle.bip_model.specs.declared.answer.Node.{Node}
use Rattle.bip_model.specs.declared.fix.Fix.{Fix}
use Rattle.bip_model.specs.declared.fix.State.TheVariants.{In, Out}
use Rattle.bip_model.specs.declared.multipliers.Multipliers.{Multipliers}
use Rattle.bip_model.specs.declared.programme.Programme.{Programme}
use Rattle.bip_model.specs.Trees.{Tree, Branches, Leaf, Full, preorder}
use Rattle.bip_model.specs.Views.{space_in, node_of}
use Rattle.lagrange_bound.specs.Bounds.{lagrangian}
use Rattle.lagrange_bound.specs.declared.ledger.Ledger.{Ledger}
use Rattle.lagrange_bound.specs.Ledgers.{IsLedger}
use Rattle.branch_bound.specs.declared.climb.Costed.{Costed}
use Rattle.branch_bound.specs.declared.found.Found.{Found}
use Rattle.branch_bound.specs.declared.frame.Frame.{Frame}
use Rattle.branch_bound.specs.declared.node.Fate.{Fate}
use Rattle.branch_bound.specs.declared.node.Fate.TheVariants.{Closed, Forced, Branch}
use Rattle.branch_bound.specs.declared.task.Task.{Task}
use Rattle.branch_bound.specs.Sides.{fixed, inside, total}

-- what stays the same in a search
pub record Rules : Type 0 where
  pub programme : Programme
  pub shapes : List IndexShape
  pub budget : ℕ
  pub nodes : ℕ
  pub zeros : Multipliers
  pub sets : List Multipliers
  pub useful : List Bool
  -- whether a walk may give up while nodes are left
  pub stops : Bool

abbrev pub rules_of : Frame → Rules
rules_of frame =
    record {
      programme = frame.programme.now;
      shapes = frame.shapes.now;
      budget = frame.budget;
      nodes = frame.nodes;
      zeros = frame.zeros.now;
      sets = frame.sets.now;
      useful = frame.useful.now;
      stops = frame.stops;
    }

abbrev pub rules_for : Task → ℕ → Multipliers → List Multipliers → Bool → Rules
rules_for task nodes zeros sets stops =
    record {
      programme = task.programme.now;
      shapes = task.shapes.now;
      budget = task.budget;
      nodes = nodes;
      zeros = zeros;
      sets = sets;
      useful = task.useful.now;
      stops = stops;
    }

-- the set of a number: 0 is that of zeros
abbrev pub set_of : Rules → ℕ → Multipliers
set_of rules k = slice_index_or (rules.zeros ∷ rules.sets) k rules.zeros

-- the first ledgers keep the bounds under zeros and so many of the sets, one each
pub record AreOpen (programme : Programme) (zeros : Multipliers) (sets : List Multipliers) (n : ℕ) (ledgers : List Ledger) : Type 0 where
  pub enough : n < length ledgers
  pub each : (k : ℕ) (d : Ledger) → k ≤ n → IsLedger programme (slice_index_or (zeros ∷ sets) k zeros) (slice_index_or ledgers k d)

abbrev pub AreLedgers : Rules → List Ledger → Type 0
AreLedgers rules ledgers = AreOpen rules.programme rules.zeros rules.sets (length rules.sets) ledgers

-- the Lagrangian value of a node under it
abbrev pub lag : Rules → Fix → ℕ → ℤ
lag rules fix k = lagrangian rules.programme rules.budget fix (set_of rules k)

-- a value is at least a cost
abbrev pub reaches : ℤ → ℕ → Bool
reaches (pos n) cost = nat_le cost n
reaches (negsuc n) cost = false

-- what was found, with a node whose in-candidates may cost less
abbrev pub visited_at : Fix → ℕ → Found → Found
visited_at fix cost found = if nat_lt cost found.cost then record { config = inside fix; cost = cost; low = found.low; made = found.made } else found

abbrev pub visited : Rules → Fix → Found → Found
visited rules fix found = visited_at fix (total rules.programme fix) found

-- a candidate is open and useful, by its index
abbrev pub is_choice : Rules → Fix → ℕ → Bool
is_choice rules fix i =
    slice_index_or rules.useful i false && is_open_in (space_in rules.programme rules.budget) (node_of fix) (suc i)

abbrev pub NoChoiceBelow : Rules → Fix → ℕ → Type 0
NoChoiceBelow rules fix n = (i : ℕ) → i < n → is_choice rules fix i ≡ false

abbrev pub NoChoice : Rules → Fix → Type 0
NoChoice rules fix = NoChoiceBelow rules fix (length rules.programme.sizes)

pub record IsChoice (rules : Rules) (fix : Fix) (i : ℕ) : Type 0 where
  pub within : i < length rules.programme.sizes
  pub chosen : is_choice rules fix i ≡ true

-- a choice among the candidates below an index, where there is one
abbrev pub IsChoiceBelow : Rules → Fix → ℕ → Option ℕ → Type 0
IsChoiceBelow rules fix n None = NoChoiceBelow rules fix n
IsChoiceBelow rules fix n (Some i) = IsChoice rules fix i

-- of the sets up to a number the set of another gives the highest value
pub record IsHighest (rules : Rules) (fix : Fix) (most k : ℕ) (value : ℤ) : Type 0 where
  pub set : k ≤ most
  pub value_is : value ≡ lag rules fix k
  pub over : (j : ℕ) → j ≤ most → lag rules fix j ≤ℤ value

-- a leaf below which nothing is cheaper than what was found
pub record IsClosed (rules : Rules) (fix : Fix) (found : Found) (k : ℕ) : Type 0 where
  pub set : k ≤ length rules.sets
  pub reached : reaches (lag rules fix k) found.cost ≡ true

-- why nothing branches at a leaf that isn't closed: the walk stops, nodes have run out, or no candidate is left
abbrev pub MayGiveUp : Rules → Fix → Found → Type 0
MayGiveUp rules fix found = (rules.stops ≡ true) ⊎ (rules.nodes < found.made + 2) ⊎ NoChoice rules fix

-- a leaf where the walk gives up, under the set that gives the highest value
pub record IsForced (rules : Rules) (fix : Fix) (found : Found) (k : ℕ) : Type 0 where
  pub highest : IsHighest rules fix (length rules.sets) k (lag rules fix k)
  pub promising : reaches (lag rules fix 0) found.cost ≡ false
  pub why : MayGiveUp rules fix found

-- a branch, for which two more nodes are left
pub record IsBranch (rules : Rules) (fix : Fix) (found : Found) (i : ℕ) : Type 0 where
  pub choice : IsChoice rules fix i
  pub promising : reaches (lag rules fix 0) found.cost ≡ false
  pub spare : found.made + 2 ≤ rules.nodes

-- what becomes of a node
abbrev pub IsFate : Rules → Fix → Found → Fate → Type 0
IsFate rules fix found (Closed k) = IsClosed rules fix found k
IsFate rules fix found (Forced k) = IsForced rules fix found k
IsFate rules fix found (Branch i) = IsBranch rules fix found i

abbrev pub lowered : Found → ℤ → Found
lowered found value = record { config = found.config; cost = found.cost; low = int_min found.low value; made = found.made }

abbrev pub branched : Found → Found
branched found = record { config = found.config; cost = found.cost; low = found.low; made = found.made + 2 }

pub record IsForcedLeaf (rules : Rules) (fix : Fix) (found : Found) (k : ℕ) (after : Found) : Type 0 where
  pub apart : IsApart rules.shapes (inside fix)
  pub forced : IsForced rules fix found k
  pub after_is : after ≡ lowered found (lag rules fix k)

pub record IsClosedLeaf (rules : Rules) (fix : Fix) (found : Found) (k : ℕ) (after : Found) : Type 0 where
  pub apart : IsApart rules.shapes (inside fix)
  pub closed : IsClosed rules fix found k
  pub after_is : after ≡ found

-- a leaf that isn't visited, as what is in clashes
pub record IsFullLeaf (rules : Rules) (fix : Fix) (before after : Found) : Type 0 where
  pub clash : ¬ (IsApart rules.shapes (inside fix))
  pub after_is : after ≡ before

-- a branch, what was found on its first side, and what on both
pub record IsBranching (rules : Rules) (fix : Fix) (found : Found) (number : ℕ) (first second : ℕ → Found → Type 0) : Type 0 where
  pub apart : IsApart rules.shapes (inside fix)
  pub index : ℕ
  pub numbered : number ≡ index + 1
  pub branch : IsBranch rules fix found index
  pub middle : Found
  pub inside_run : first index middle
  pub outside_run : second index middle

-- a run below a node, which is visited first where what is in is apart
abbrev pub Runs : Rules → Fix → Found → Tree → Found → Type 0
Runs rules fix before (Leaf k) after =
    IsClosedLeaf rules fix (visited rules fix before) k after ⊎ IsForcedLeaf rules fix (visited rules fix before) k after
Runs rules fix before (Branches a inside_tree outside_tree) after =
    IsBranching rules fix (visited rules fix before) a
    (λ i middle. Runs rules (fixed fix i In) (branched (visited rules fix before)) inside_tree middle)
    (λ i middle. Runs rules (fixed fix i Out) middle outside_tree after)
Runs rules fix before Full after = IsFullLeaf rules fix before after

-- what a search knows at its root, where a configuration is known
abbrev pub MOST_LOW : ℕ
MOST_LOW = 2 ^ 127 - 1

abbrev pub started : Costed → Found
started known = record { config = known.config; cost = known.cost; low = pos MOST_LOW; made = 1 }

-- a run, whose tree was appended to a list
pub record IsExplored (rules : Rules) (fix : Fix) (before : Found) (old : List Node) (after : Found) (new : List Node) : Type 0 where
  pub tree : Tree
  pub list_is : new ≡ old ++ preorder tree
  pub run : Runs rules fix before tree after

-- a walk along the plan that closed all leaves or left no node, or one that goes on beyond the plan
pub record IsWalked (rules : Bool → Rules) (root : Fix) (before after : Found) (list : List Node) : Type 0 where
  pub stops : Bool
  pub explored : IsExplored (rules stops) root before [] after list
  pub done : stops ≡ true → (reaches after.low after.cost ≡ true) ⊎ ((rules stops).nodes ≤ after.made + 1)

-- what nothing that fits costs less than: the cost found, or the least value of the leaves where the search gave up
abbrev pub least_bound : ℕ → ℤ → ℤ
least_bound cost (pos n) = if nat_lt n cost then pos n else pos cost
least_bound cost (negsuc n) = negsuc n

-- what a search answers with the cheapest configuration that it found
abbrev pub answer : Costed → ℤ → List Multipliers → List Node → ℕ → Answer
answer best low sets tree useful =
    record { config = best.config; cost = best.cost; bound = least_bound best.cost low; sets = sets; tree = tree; useful = useful }
