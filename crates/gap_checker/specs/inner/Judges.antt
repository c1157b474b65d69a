-- What a judge of nodes holds, and what it says of one.
use Rattle.std.specs.Prelude.{◌≡◌, ℕ, suc, ℤ, ◌<ℤ◌, ◌↔◌, List, [], ◌∷◌, ◌++◌, length, All, Some}
use Rattle.adv_base.specs.Configs.{config_pages}
use Rattle.adv_base.specs.Nodes as nodes
use Rattle.adv_base.specs.Settings.{TheSetting, the_setting}
use Rattle.bip_model.specs.declared.answer.Node.{Node}
use Rattle.bip_model.specs.declared.answer.Node.TheVariants.{Branch, Bounded, Overfull}
use Rattle.bip_model.specs.StandsFor.{AreEach}
use Rattle.bip_model.specs.Trees.{Rule, IsBranch, set_at}
use Rattle.bip_model.specs.Views.{node_of}
use Rattle.certificate.specs.declared.cert.Cert.{Cert}
use Rattle.certificate.specs.Limits.{AreTrees}
use Rattle.plan_model.specs.Lagrangian.{TheMultipliers, IsLagrangian}
use Rattle.gap_checker.specs.declared.claims.Claims.{Claims}
use Rattle.gap_checker.specs.declared.fault.CheckFault.{CheckFault}
use Rattle.gap_checker.specs.declared.fault.CheckFault.TheVariants as faults
use Rattle.gap_checker.specs.declared.judge.Judge.{Judge}
use Rattle.gap_checker.specs.Faults.{IsFault, IsSound, FitsBy}
use Rattle.gap_checker.specs.Views.{rule_of}
use Rattle.gap_checker.specs.Visits.{Visit, visits, IsRight, IsRightAt}
use Rattle.gap_checker.specs.inner.Claims.{KeepsLimits, cert_with, sets_in}
use Rattle.gap_checker.specs.inner.Kept.{IsKept, all_sets}

-- what a judge judges by, and the certificate's sets with what candidates earn under them
abbrev pub setting_of : Judge → TheSetting
setting_of judge = the_setting judge.setting.now

abbrev pub root_of : Judge → nodes.Node
root_of judge = node_of judge.root.now

pub record IsJudge (judge : Judge) : Type 0 where
  pub limits : KeepsLimits judge.claims
  pub sets_are : AreEach (IsKept (setting_of judge)) (all_sets judge.claims.sets.now) judge.sets.items

-- what it calls overfull
abbrev pub rule_in : Judge → Rule
rule_in judge = rule_of judge.claims.version

-- the certificate that it judges, with a tree
abbrev pub cert_of : Judge → List Node → Cert
cert_of judge tree = cert_with judge.claims tree

-- a fault of what is claimed, whatever the tree
abbrev pub IsFaultFor : Judge → CheckFault → Type 0
IsFaultFor judge fault = (tree : List Node) → IsFault (setting_of judge) (root_of judge) (cert_of judge tree) fault

-- what is claimed is as it has to be
abbrev pub AreSound : Judge → Type 0
AreSound judge = (tree : List Node) → IsSound (setting_of judge) (cert_of judge tree)

-- ## What is right with a node, and what may be wrong

abbrev pub IsRightFor : Judge → nodes.Node → Node → Type 0
IsRightFor judge at node = IsRightAt (rule_in judge) (setting_of judge) judge.claims.budget judge.claims.bound (sets_in judge.claims) at node

pub record IsWrongBranch (setting : TheSetting) (node : Node) (at : nodes.Node) : Type 0 where
  pub candidate : ℕ
  pub node_is : node ≡ Branch candidate
  pub wrong : ¬ (IsBranch setting at candidate)

pub record IsWeakLeaf (setting : TheSetting) (claims : Claims) (node : Node) (at : nodes.Node) (computed claimed : ℤ) : Type 0 where
  pub set : ℕ
  pub node_is : node ≡ Bounded set
  pub multipliers : TheMultipliers
  pub found : set_at (sets_in claims) set ≡ Some multipliers
  pub value_is : IsLagrangian setting claims.budget at multipliers computed
  pub claimed_is : claimed ≡ claims.bound
  pub below : computed <ℤ claimed

pub record IsFitting (setting : TheSetting) (claims : Claims) (node : Node) (at : nodes.Node) (size : ℕ) : Type 0 where
  pub node_is : node ≡ Overfull
  pub size_is : size ≡ config_pages setting.cat setting.shapes at.inside
  pub fits : FitsBy (rule_of claims.version) setting claims.budget at

abbrev pub IsWrong : Judge → ℕ → nodes.Node → Node → CheckFault → Type 0
IsWrong judge number at node faults.Memory = Unit {0}
IsWrong judge number at node (faults.BadBranch n) = (n ≡ number) × IsWrongBranch (setting_of judge) node at
IsWrong judge number at node (faults.LeafBelow n computed claimed) = (n ≡ number) × IsWeakLeaf (setting_of judge) judge.claims node at computed claimed
IsWrong judge number at node (faults.NotInfeasible n size) = (n ≡ number) × IsFitting (setting_of judge) judge.claims node at size
IsWrong judge number at node fault = ⊥

-- ## The walk

-- The nodes that were read are right, and whatever comes behind them starts at the nodes that are kept, the last one first.
pub record IsWalk (judge : Judge) (read : List Node) (starts : List nodes.Node) : Type 0 where
  pub before : List Visit
  pub count_is : length read ≡ length before
  pub parts : (rest : List Node) → visits (root_of judge ∷ []) (read ++ rest) ≡ before ++ visits starts rest
  pub right : All (IsRight (rule_in judge) (setting_of judge) judge.claims.budget judge.claims.bound (sets_in judge.claims)) before
  pub trees : (rest : List Node) → AreTrees 1 (read ++ rest) ↔ AreTrees (length starts) rest

-- a node more of a tree, whatever was read before it
abbrev pub WalksOn : Judge → List nodes.Node → Node → List nodes.Node → Type 0
WalksOn judge old node new = (read : List Node) → IsWalk judge read old → IsWalk judge (read ++ node ∷ []) new

-- or the fault there, whatever comes behind it
abbrev pub IsNextFault : Judge → List nodes.Node → ℕ → Node → CheckFault → Type 0
IsNextFault judge starts number node fault =
    (read rest : List Node) → AreSound judge → IsWalk judge read starts → number ≡ suc (length read) →
    IsFault (setting_of judge) (root_of judge) (cert_of judge (read ++ node ∷ rest)) fault
