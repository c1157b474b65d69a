-- What the checker answers: what a certificate proves below a root, or where it first fails to. Numbers of sets, entries
-- and nodes count from 1.
use Rattle.std.specs.Prelude.{◌≡◌, ◌≢◌, ℕ, suc, ◌-◌, ◌<◌, ◌≤◌, ℤ, ◌<ℤ◌, List, [], ◌∷◌, ◌++◌, length, All, Some, slice_get}
use Rattle.adv_base.specs.Configs.{IsConfigOf, Fits, IsFirstClash, config_pages}
use Rattle.adv_base.specs.Nodes as nodes
use Rattle.adv_base.specs.Settings.{TheSetting}
use Rattle.plan_model.specs.Lagrangian.{TheMultipliers, IsLagrangian}
use Rattle.plan_model.specs.Totals.{IsTotal}
use Rattle.bip_model.specs.declared.answer.Node.{Node}
use Rattle.bip_model.specs.declared.answer.Node.TheVariants.{Branch, Bounded, Overfull}
use Rattle.bip_model.specs.Trees.{Rule, ByPages, ByFit, IsBranch, set_at}
use Rattle.bip_model.specs.Proves.{NamesUse, RentsUses}
use Rattle.certificate.specs.declared.cert.Cert.{Cert}
use Rattle.certificate.specs.declared.cert.Entry.{Entry}
use Rattle.certificate.specs.declared.cert.SparseSet.{SparseSet}
use Rattle.gap_checker.specs.Views.{config_of, sets_of, rule_of, IsProof}
use Rattle.gap_checker.specs.Visits.{Visit, visits, IsRight}
use Rattle.gap_checker.specs.declared.fault.Checked.{Checked}
use Rattle.gap_checker.specs.declared.fault.CheckFault.{CheckFault}
use Rattle.gap_checker.specs.declared.fault.CheckFault.TheVariants as faults

-- the certificate proves what is told of it, below a root
pub record IsChecked (setting : TheSetting) (root : nodes.Node) (cert : Cert) (checked : Checked) : Type 0 where
  pub budget_is : checked.budget ≡ cert.budget
  pub cost_is : checked.cost ≡ cert.cost
  pub bound_is : checked.bound ≡ cert.bound
  pub proof : IsProof setting root cert

-- ## The configuration

-- the first number of the configuration that is no candidate's
pub record IsBadConfig (setting : TheSetting) (cert : Cert) (number : ℕ) : Type 0 where
  pub place : ℕ
  pub found : slice_get cert.config place ≡ Some number
  pub past : length setting.shapes < number
  pub before : (k n : ℕ) → k < place → slice_get cert.config k ≡ Some n → n ≤ length setting.shapes

-- its pages exceed the budget
pub record IsOverBudget (setting : TheSetting) (cert : Cert) (size budget : ℕ) : Type 0 where
  pub members : IsConfigOf setting.shapes (config_of cert)
  pub size_is : size ≡ config_pages setting.cat setting.shapes (config_of cert)
  pub budget_is : budget ≡ cert.budget
  pub over : cert.budget < size

-- they are within it, and two of its candidates are clustered on one table
pub record IsClashing (setting : TheSetting) (cert : Cert) (first second : ℕ) : Type 0 where
  pub members : IsConfigOf setting.shapes (config_of cert)
  pub pages : config_pages setting.cat setting.shapes (config_of cert) ≤ cert.budget
  pub clash : IsFirstClash setting.shapes (config_of cert) first second

-- it costs another number
pub record IsOtherCost (setting : TheSetting) (cert : Cert) (claimed computed : ℕ) : Type 0 where
  pub members : IsConfigOf setting.shapes (config_of cert)
  pub fits : Fits setting.cat setting.shapes (config_of cert) cert.budget
  pub claimed_is : claimed ≡ cert.cost
  pub computed_is : IsTotal setting.cat setting.shapes (config_of cert) setting.statements computed
  pub differ : claimed ≢ computed

-- ## The sets

-- an entry names a slot of a statement, and a candidate on its table
abbrev pub NamesPair : TheSetting → Entry → Type 0
NamesPair setting entry = NamesUse setting entry.statement (entry.slot - 1) entry.candidate

-- the first entry that doesn't
pub record IsBadPair (setting : TheSetting) (cert : Cert) (number place : ℕ) : Type 0 where
  pub members : IsConfigOf setting.shapes (config_of cert)
  pub fits : Fits setting.cat setting.shapes (config_of cert) cert.budget
  pub cost_is : IsTotal setting.cat setting.shapes (config_of cert) setting.statements cert.cost
  pub some_set : 0 < number
  pub set : SparseSet
  pub set_found : slice_get cert.sets (number - 1) ≡ Some set
  pub some_entry : 0 < place
  pub entry : Entry
  pub entry_found : slice_get set.entries (place - 1) ≡ Some entry
  pub none : ¬ (NamesPair setting entry)
  pub sets_before : (j : ℕ) (earlier : SparseSet) → j < number - 1 → slice_get cert.sets j ≡ Some earlier → All (NamesPair setting) earlier.entries
  pub entries_before : (k : ℕ) (earlier : Entry) → k < place - 1 → slice_get set.entries k ≡ Some earlier → NamesPair setting earlier

-- ## The tree, from a root

-- all but the tree is as it has to be
pub record IsSound (setting : TheSetting) (cert : Cert) : Type 0 where
  pub members : IsConfigOf setting.shapes (config_of cert)
  pub fits : Fits setting.cat setting.shapes (config_of cert) cert.budget
  pub cost_is : IsTotal setting.cat setting.shapes (config_of cert) setting.statements cert.cost
  pub rents : All (RentsUses setting) (sets_of cert)

-- a node of the tree, by its number in preorder; those before it are right
pub record IsNodeAt (setting : TheSetting) (root : nodes.Node) (cert : Cert) (number : ℕ) (at : nodes.Node) (node : Node) : Type 0 where
  pub before : List Visit
  pub rest : List Visit
  pub parts : visits (root ∷ []) cert.tree ≡ before ++ record { at = at; node = node } ∷ rest
  pub number_is : number ≡ suc (length before)
  pub right : All (IsRight (rule_of cert.version) setting cert.budget cert.bound (sets_of cert)) before

-- the first node that isn't right is a branch on what is no candidate, or isn't free there
pub record IsBadBranch (setting : TheSetting) (root : nodes.Node) (cert : Cert) (number : ℕ) : Type 0 where
  pub sound : IsSound setting cert
  pub at : nodes.Node
  pub candidate : ℕ
  pub node_is : IsNodeAt setting root cert number at (Branch candidate)
  pub wrong : ¬ (IsBranch setting at candidate)

-- it is a leaf whose Lagrangian value is below the bound
pub record IsLeafBelow (setting : TheSetting) (root : nodes.Node) (cert : Cert) (number : ℕ) (computed claimed : ℤ) : Type 0 where
  pub sound : IsSound setting cert
  pub at : nodes.Node
  pub set : ℕ
  pub node_is : IsNodeAt setting root cert number at (Bounded set)
  pub multipliers : TheMultipliers
  pub found : set_at (sets_of cert) set ≡ Some multipliers
  pub value_is : IsLagrangian setting cert.budget at multipliers computed
  pub claimed_is : claimed ≡ cert.bound
  pub below : computed <ℤ claimed

-- what is in at a node isn't too much, by a rule
abbrev pub FitsBy : Rule → TheSetting → ℕ → nodes.Node → Type 0
FitsBy ByPages setting budget at = config_pages setting.cat setting.shapes at.inside ≤ budget
FitsBy ByFit setting budget at = Fits setting.cat setting.shapes at.inside budget

-- it is called overfull, and isn't, by the rule of the certificate's version
pub record IsNotOverfull (setting : TheSetting) (root : nodes.Node) (cert : Cert) (number size : ℕ) : Type 0 where
  pub sound : IsSound setting cert
  pub at : nodes.Node
  pub node_is : IsNodeAt setting root cert number at Overfull
  pub size_is : size ≡ config_pages setting.cat setting.shapes at.inside
  pub fits : FitsBy (rule_of cert.version) setting cert.budget at

-- ## The first fault

-- what a fault says; each stands at the first place at which the certificate proves nothing
abbrev pub IsFault : TheSetting → nodes.Node → Cert → CheckFault → Type 0
IsFault setting root cert faults.Memory = Unit {0}
IsFault setting root cert (faults.BadConfig number) = IsBadConfig setting cert number
IsFault setting root cert (faults.OverBudget size budget) = IsOverBudget setting cert size budget
IsFault setting root cert (faults.Clash first second) = IsClashing setting cert first second
IsFault setting root cert (faults.CostDiffers claimed computed) = IsOtherCost setting cert claimed computed
IsFault setting root cert (faults.BadPair set entry) = IsBadPair setting cert set entry
IsFault setting root cert (faults.BadBranch number) = IsBadBranch setting root cert number
IsFault setting root cert (faults.LeafBelow number computed claimed) = IsLeafBelow setting root cert number computed claimed
IsFault setting root cert (faults.NotInfeasible number size) = IsNotOverfull setting root cert number size
