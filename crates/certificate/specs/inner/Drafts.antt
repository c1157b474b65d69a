-- What a draft keeps.
use Rattle.std.specs.Prelude.{◌≡◌, ℕ, zero, suc, ◌+◌, ◌%◌, ◌<◌, ◌≤◌, ◌^◌, ℤ, List, [], ◌∷◌, length}
use Rattle.std.specs.List.{AllByRecursion}
use Rattle.adv_base.specs.declared.limits.TheConstants.{MOST_PAGES, MOST_PAGE_PRICE, MOST_SETS, MOST_ENTRIES, MOST_NODES}
use Rattle.bip_model.specs.declared.answer.Node.{Node}
use Rattle.certificate.specs.Limits.{Rise, IsSmall, SetLimits, EntriesFrom, NodeLimits, entry_place, entry_count}
use Rattle.certificate.specs.declared.cert.Cert.{Cert}
use Rattle.certificate.specs.declared.cert.Entry.{Entry}
use Rattle.certificate.specs.declared.cert.SparseSet.{SparseSet}
use Rattle.certificate.specs.declared.outline.Outline.{Outline}
use Rattle.certificate.specs.declared.stage.Stage.{Stage}
use Rattle.certificate.specs.declared.stage.Stage.TheVariants as stages
use Rattle.certificate.specs.declared.outline.TheConstants.{FIRST_PLACE, LAST_PLACE}
use Rattle.certificate.specs.inner.Outlines.{Draft}
use Rattle.certificate.specs.inner.Steps.{trees_after}

-- the certificate whose lines were all taken
abbrev pub cert_of : Draft → Cert
cert_of d = record { version = d.version; budget = d.budget; config = d.config; cost = d.cost; bound = d.bound; sets = d.sets; tree = d.tree }

-- the first place behind entries
abbrev pub next_place : ℕ → List Entry → ℕ
next_place least [] = least
next_place least (entry ∷ entries) = next_place (entry_place entry + 1) entries

-- so many trees leave so many to come behind the nodes of a front of them
abbrev pub Leave : ℕ → List Node → ℕ → Type 0
Leave trees [] left = trees ≡ left
Leave zero (node ∷ nodes) left = ⊥
Leave (suc more) (node ∷ nodes) left = Leave (trees_after (suc more) node) nodes left

pub record HeadFits (version budget : ℕ) (config : List ℕ) (cost : ℕ) (bound : ℤ) : Type 0 where
  pub version_least : 1 ≤ version
  pub version_most : version ≤ 2
  pub budget_most : budget ≤ MOST_PAGES
  pub config_rises : Rise 1 config
  pub cost_small : cost < 2 ^ 127
  pub bound_small : IsSmall bound

-- the whole sets, and the one that is begun
pub record SetsFit (sets : List SparseSet) (sets_left mu : ℕ) (entries : List Entry) (entries_left least spare : ℕ) : Type 0 where
  pub few : length sets + sets_left ≤ MOST_SETS
  pub whole : AllByRecursion SetLimits sets
  pub count : entry_count sets + length entries + entries_left + spare ≡ MOST_ENTRIES
  pub price : mu ≤ MOST_PAGE_PRICE
  pub rise : EntriesFrom FIRST_PLACE entries
  pub least_is : 0 < entries_left → least ≡ next_place FIRST_PLACE entries
  pub room : 0 < entries_left → entries_left + least ≤ LAST_PLACE + 1
  pub begun : 0 < entries_left → 0 < sets_left
  pub idle : entries_left ≡ 0 → entries ≡ []

abbrev pub BodyFits : Draft → Type 0
BodyFits d = SetsFit d.sets d.sets_left d.mu d.entries d.entries_left d.least d.spare

-- a set that is begun, maybe with all its entries
pub record HasBegun (d : Draft) : Type 0 where
  pub some : 0 < d.sets_left
  pub few : length d.sets + d.sets_left ≤ MOST_SETS
  pub whole : AllByRecursion SetLimits d.sets
  pub count : entry_count d.sets + length d.entries + d.entries_left + d.spare ≡ MOST_ENTRIES
  pub price : d.mu ≤ MOST_PAGE_PRICE
  pub rise : EntriesFrom FIRST_PLACE d.entries
  pub least_is : d.least ≡ next_place FIRST_PLACE d.entries
  pub room : d.entries_left + d.least ≤ LAST_PLACE + 1

-- the tree so far, and what is to come of it
pub record TreeFits (sets : ℕ) (tree : List Node) (nodes_left trees_left : ℕ) : Type 0 where
  pub nodes : AllByRecursion (NodeLimits sets) tree
  pub leaves : Leave 1 tree trees_left
  pub few : length tree + nodes_left ≤ MOST_NODES
  pub some : 0 < nodes_left → 0 < trees_left
  pub enough : trees_left ≤ nodes_left
  pub even : (trees_left + nodes_left) % 2 ≡ 0

-- before the sets
pub record IsFresh (d : Draft) : Type 0 where
  pub sets : d.sets ≡ []
  pub sets_left : d.sets_left ≡ 0
  pub entries_left : d.entries_left ≡ 0
  pub tree : d.tree ≡ []
  pub trees_left : d.trees_left ≡ 1

-- before the tree
pub record IsBody (d : Draft) : Type 0 where
  pub tree : d.tree ≡ []
  pub trees_left : d.trees_left ≡ 1

-- behind the sets
pub record IsTree (d : Draft) : Type 0 where
  pub sets_left : d.sets_left ≡ 0
  pub entries_left : d.entries_left ≡ 0

abbrev pub StageFits : Stage → Draft → Type 0
StageFits stages.Title d = IsFresh d
StageFits stages.Budget d = IsFresh d
StageFits stages.Config d = IsFresh d
StageFits stages.Cost d = IsFresh d
StageFits stages.Bound d = IsFresh d
StageFits stages.Sets d = IsFresh d
StageFits stages.Body d = IsBody d
StageFits stages.Nodes d = IsTree d
StageFits stages.Done d = IsTree d × (d.nodes_left ≡ 0)

pub record DraftFits (d : Draft) : Type 0 where
  pub head : HeadFits d.version d.budget d.config d.cost d.bound
  pub body : BodyFits d
  pub nodes : TreeFits (length d.sets) d.tree d.nodes_left d.trees_left
  pub stage : StageFits d.stage d

-- what an outline keeps of that, whatever the tree
pub record OutlineFits (o : Outline) : Type 0 where
  pub few_sets : length o.sets + o.sets_left ≤ MOST_SETS
  pub few_entries : o.entries_left ≤ MOST_ENTRIES
  pub begun : 0 < o.entries_left → 0 < o.sets_left
  pub few_nodes : o.nodes_left ≤ MOST_NODES
  pub enough : o.trees_left ≤ o.nodes_left
  pub some_trees : 0 < o.nodes_left → 0 < o.trees_left
