-- What a certificate keeps.
use Rattle.std.specs.Prelude.{ℕ, zero, suc, ◌+◌, ◌*◌, ◌<◌, ◌≤◌, ◌^◌, ℤ, pos, negsuc, List, [], ◌∷◌, length, sum_by}
use Rattle.std.specs.List.{AllByRecursion}
use Rattle.adv_base.specs.declared.limits.TheConstants.{MOST_PAGES, MOST_CANDIDATES, MOST_STATEMENTS, MOST_SLOTS, MOST_RENT, MOST_PAGE_PRICE, MOST_SETS, MOST_ENTRIES, MOST_NODES}
use Rattle.bip_model.specs.declared.answer.Node.{Node}
use Rattle.bip_model.specs.declared.answer.Node.TheVariants.{Branch, Bounded, Overfull}
use Rattle.certificate.specs.declared.cert.Cert.{Cert}
use Rattle.certificate.specs.declared.cert.Entry.{Entry}
use Rattle.certificate.specs.declared.cert.SparseSet.{SparseSet}

-- numbers of candidates, from a least one on, each above the one before
abbrev pub Rise : ℕ → List ℕ → Type 0
Rise least [] = Unit {0}
Rise least (n ∷ ns) = (least ≤ n) × (n ≤ MOST_CANDIDATES) × Rise (n + 1) ns

-- a magnitude is below 2^127
abbrev pub IsSmall : ℤ → Type 0
IsSmall (pos n) = n < 2 ^ 127
IsSmall (negsuc n) = n + 1 < 2 ^ 127

-- statement, slot and candidate are counted from 1, and a multiplier of 0 isn't listed
pub record EntryLimits (entry : Entry) : Type 0 where
  pub statement_least : 1 ≤ entry.statement
  pub statement_most : entry.statement ≤ MOST_STATEMENTS
  pub slot_least : 1 ≤ entry.slot
  pub slot_most : entry.slot ≤ MOST_SLOTS
  pub candidate_least : 1 ≤ entry.candidate
  pub candidate_most : entry.candidate ≤ MOST_CANDIDATES
  pub lambda_least : 1 ≤ entry.lambda
  pub lambda_most : entry.lambda ≤ MOST_RENT

-- An entry's place in the order by statement, then slot, then candidate. Entries within the limits have the places from
-- that of the first statement, slot and candidate to that of the last, each once.
abbrev pub entry_place : Entry → ℕ
entry_place entry = entry.statement * 2048 + entry.slot * 256 + entry.candidate

-- entries, from a place on, each behind the one before
abbrev pub EntriesFrom : ℕ → List Entry → Type 0
EntriesFrom least [] = Unit {0}
EntriesFrom least (entry ∷ entries) =
    EntryLimits entry × (least ≤ entry_place entry) × EntriesFrom (entry_place entry + 1) entries

pub record SetLimits (set : SparseSet) : Type 0 where
  pub price : set.mu ≤ MOST_PAGE_PRICE
  pub entries : EntriesFrom 0 set.entries

-- a leaf names one of so many sets, or the set of zeros
abbrev pub NodeLimits : ℕ → Node → Type 0
NodeLimits sets (Branch candidate) = (1 ≤ candidate) × (candidate ≤ MOST_CANDIDATES)
NodeLimits sets (Bounded set) = set ≤ sets
NodeLimits sets Overfull = Unit {0}

-- nodes in preorder are so many whole trees, one behind another
abbrev pub AreTrees : ℕ → List Node → Type 0
AreTrees zero [] = Unit {0}
AreTrees (suc more) [] = ⊥
AreTrees zero (node ∷ nodes) = ⊥
AreTrees (suc more) (Branch candidate ∷ nodes) = AreTrees (suc (suc more)) nodes
AreTrees (suc more) (Bounded set ∷ nodes) = AreTrees more nodes
AreTrees (suc more) (Overfull ∷ nodes) = AreTrees more nodes

-- how many entries the sets have
abbrev pub entry_count : List SparseSet → ℕ
entry_count sets = sum_by (λ set. length set.entries) sets

pub record CertLimits (cert : Cert) : Type 0 where
  pub version_least : 1 ≤ cert.version
  pub version_most : cert.version ≤ 2
  pub budget : cert.budget ≤ MOST_PAGES
  pub config : Rise 1 cert.config
  pub cost : cert.cost < 2 ^ 127
  pub bound : IsSmall cert.bound
  pub few_sets : length cert.sets ≤ MOST_SETS
  pub sets : AllByRecursion SetLimits cert.sets
  pub few_entries : entry_count cert.sets ≤ MOST_ENTRIES
  pub few_nodes : length cert.tree ≤ MOST_NODES
  pub nodes : AllByRecursion (NodeLimits (length cert.sets)) cert.tree
  pub tree : AreTrees 1 cert.tree
