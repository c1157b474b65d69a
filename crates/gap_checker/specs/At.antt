-- What is answered to a certificate whose tree is read from a file: to its head, and to the text that stands behind that.
use Rattle.std.specs.Prelude.{◌≡◌, ◌≢◌, ◌⊎◌, ℕ, suc, ◌+◌, ℤ, List, [], ◌∷◌, ◌++◌, length, map, drop, All, Option, IfSome, MatchOption}
use Rattle.std.specs.FinMap.{get}
use Rattle.std.specs.List.{AllByRecursion}
use Rattle.adv_base.specs.declared.setting.Config.{Config}
use Rattle.adv_base.specs.Configs.{IsConfigOf, Fits}
use Rattle.adv_base.specs.Nodes as nodes
use Rattle.adv_base.specs.Settings.{TheSetting}
use Rattle.adv_shelf.specs.Shelf.{Files}
use Rattle.bip_model.specs.declared.answer.Node.{Node}
use Rattle.certificate.specs.declared.cert.Cert.{Cert}
use Rattle.certificate.specs.declared.head.Head.{Head}
use Rattle.certificate.specs.Certificates.{IsLine}
use Rattle.certificate.specs.Heads.{IsHeadOf, tree_text}
use Rattle.certificate.specs.Limits.{NodeLimits, AreTrees}
use Rattle.certificate.specs.Texts.{text_of, node_line}
use Rattle.plan_model.specs.Lagrangian.{IsAtMost}
use Rattle.plan_model.specs.Totals.{IsTotal}
use Rattle.gap_checker.specs.declared.fault.AtFault.{AtFault}
use Rattle.gap_checker.specs.declared.fault.AtFault.TheVariants as at_faults
use Rattle.gap_checker.specs.declared.fault.CheckFault.{CheckFault}
use Rattle.gap_checker.specs.declared.fault.CheckFault.TheVariants as faults
use Rattle.gap_checker.specs.declared.fault.Checked.{Checked}
use Rattle.gap_checker.specs.Faults.{IsChecked, IsFault, IsSound}
use Rattle.gap_checker.specs.Views.{multipliers_of, rule_of}
use Rattle.gap_checker.specs.Visits.{visits, IsRight}

-- the head of some certificate
pub record IsSomeHead (head : Head) : Type 0 where
  pub bytes : List ℕ
  pub is : IsHeadOf bytes head

-- its certificate with a tree
abbrev pub cert_at : Head → List Node → Cert
cert_at head tree =
    record { version = head.version; budget = head.budget; config = head.config; cost = head.cost; bound = head.bound; sets = head.sets; tree = tree }

-- where the shelf tells its files, what the file of a name has from a place on; nothing where there is no such file
abbrev pub IsBehind : Option Files → List ℕ → ℕ → List ℕ → Type 0
IsBehind files name at text = IfSome files (λ m. MatchOption (get m name) (text ≡ []) (λ file. drop at file ≡ text))

-- ## Trees as text

-- a tree that the head may have
pub record IsTreeOf (head : Head) (tree : List Node) : Type 0 where
  pub count_is : length tree ≡ head.nodes
  pub limits : AllByRecursion (NodeLimits (length head.sets)) tree
  pub whole : AreTrees 1 tree

-- a text begins with lines
abbrev pub BeginsWith : List ℕ → List (List ℕ) → Type 0
BeginsWith text lines = (rest : List ℕ) × (text ≡ text_of lines ++ rest)

-- a text begins with so many lines, and that of some such tree begins with them too
pub record GoesOn (head : Head) (text : List ℕ) (count : ℕ) : Type 0 where
  pub lines : List (List ℕ)
  pub whole : AllByRecursion IsLine lines
  pub count_is : length lines ≡ count
  pub begins : BeginsWith text lines
  pub tree : List Node
  pub tree_is : IsTreeOf head tree
  pub tree_begins : BeginsWith (tree_text tree) lines

-- a text is no such tree's, and the line of this number is the first at which none goes on
pub record BreaksAt (head : Head) (text : List ℕ) (number : ℕ) : Type 0 where
  pub none : (tree : List Node) → IsTreeOf head tree → text ≢ tree_text tree
  pub before : ℕ
  pub number_is : number ≡ suc before
  pub goes_on : GoesOn head text before
  pub first : ¬ (GoesOn head text number)

-- ## Answers

-- each fitting configuration below a root costs at least the bound
abbrev pub BoundsBelow : TheSetting → nodes.Node → ℕ → ℤ → Type 0
BoundsBelow setting root budget bound =
    (other : Config) (total : ℕ) → IsConfigOf setting.shapes other → Fits setting.cat setting.shapes other budget → nodes.IsBelow root other →
    IsTotal setting.cat setting.shapes other setting.statements total → IsAtMost bound total

-- the text is that of a tree, with which the certificate proves what is told of it
pub record IsProofAt (setting : TheSetting) (root : nodes.Node) (head : Head) (text : List ℕ) (checked : Checked) : Type 0 where
  pub tree : List Node
  pub tree_is : IsTreeOf head tree
  pub text_is : text ≡ tree_text tree
  pub checked_is : IsChecked setting root (cert_at head tree) checked

-- the text breaks at a line, which is counted from the file's first, and whatever stands before that is as it has to be
pub record IsMalformed (setting : TheSetting) (root : nodes.Node) (head : Head) (text : List ℕ) (number : ℕ) : Type 0 where
  pub sound : (tree : List Node) → IsSound setting (cert_at head tree)
  pub line : ℕ
  pub number_is : number ≡ head.lines + line
  pub breaks : BreaksAt head text line
  pub read : List Node
  pub begins : BeginsWith text (map node_line read)
  pub read_are : (suc (length read) ≡ line) ⊎ (length read ≡ head.nodes)
  pub right : All (IsRight (rule_of head.version) setting head.budget head.bound (map multipliers_of head.sets)) (visits (root ∷ []) read)

-- the text begins with nodes of a tree, and whatever comes behind them, the certificate has a fault up to there
pub record IsFaultAt (setting : TheSetting) (root : nodes.Node) (head : Head) (text : List ℕ) (fault : CheckFault) : Type 0 where
  pub read : List Node
  pub begins : BeginsWith text (map node_line read)
  pub more : List Node
  pub tree_is : IsTreeOf head (read ++ more)
  pub fault_is : (rest : List Node) → IsFault setting root (cert_at head (read ++ rest)) fault

-- what a fault says; each stands at the first place at which the certificate proves nothing
abbrev pub IsAtFault : TheSetting → nodes.Node → Head → List ℕ → AtFault → Type 0
IsAtFault setting root head text at_faults.Memory = Unit {0}
IsAtFault setting root head text at_faults.Failed = Unit {0}
IsAtFault setting root head text (at_faults.Malformed number) = IsMalformed setting root head text number
IsAtFault setting root head text (at_faults.Fault fault) = (fault ≢ faults.Memory) × IsFaultAt setting root head text fault
