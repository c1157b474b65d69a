-- The certificate of an answer, and which answers have one.
use Rattle.std.specs.Prelude.{ℕ, zero, suc, ◌<◌, ◌≤◌, ◌^◌, if◌then◌else◌, not, ◌==◌, Bool, true, false, List, [], ◌∷◌, ◌++◌, length, map, All, sum_by, count_by}
use Rattle.std.specs.List.{AllByRecursion, list_any}
use Rattle.adv_base.specs.declared.catalogue.index.IndexShape.{IndexShape}
use Rattle.adv_base.specs.declared.limits.TheConstants.{MOST_PAGES, MOST_SETS, MOST_ENTRIES, MOST_NODES}
use Rattle.adv_base.specs.Nodes as nodes
use Rattle.adv_base.specs.Settings.{TheSetting, KeepsLimits}
use Rattle.bip_model.specs.declared.answer.Answer.{Answer}
use Rattle.bip_model.specs.declared.grant.Grant.{Grant}
use Rattle.bip_model.specs.declared.multipliers.Multipliers.{Multipliers}
use Rattle.bip_model.specs.declared.part.Part.{Part}
use Rattle.bip_model.specs.declared.programme.Programme.{Programme}
use Rattle.bip_model.specs.Best.{IsBest}
use Rattle.bip_model.specs.StandsFor.{StandsFor}
use Rattle.bip_model.specs.Views.{Place, places, AreMultipliers}
use Rattle.certificate.specs.Limits.{IsSmall, NodeLimits, AreTrees}
use Rattle.certificate.specs.declared.cert.Cert.{Cert}
use Rattle.certificate.specs.declared.cert.Entry.{Entry}
use Rattle.certificate.specs.declared.cert.SparseSet.{SparseSet}

-- the entry of a place with a rent; slots of places are counted from 0, those of entries from 1, and a rent of 0 has none
abbrev pub entry_of : Place → ℕ → List Entry
entry_of place zero = []
entry_of place (suc more) =
    record { statement = place.statement; slot = suc place.slot; candidate = place.candidate; lambda = suc more } ∷ []

-- those of places, each with its rent
abbrev pub entries_of : List Place → List ℕ → List Entry
entries_of [] rents = []
entries_of (place ∷ places) [] = []
entries_of (place ∷ places) (rent ∷ rents) = entry_of place rent ++ entries_of places rents

-- multipliers of a programme as a set of a certificate
abbrev pub sparse_set : Programme → Multipliers → SparseSet
sparse_set programme multipliers = record { mu = multipliers.mu; entries = entries_of (places programme) multipliers.lambda }

-- the numbers, from one on, of the flags that are on
abbrev pub numbers_from : ℕ → List Bool → List ℕ
numbers_from number [] = []
numbers_from number (true ∷ flags) = number ∷ numbers_from (suc number) flags
numbers_from number (false ∷ flags) = numbers_from (suc number) flags

-- the certificate of an answer, of a version and a budget
abbrev pub answer_cert : Programme → ℕ → ℕ → Answer → Cert
answer_cert programme version budget answer = record {
  version = version;
  budget = budget;
  config = numbers_from 1 answer.config.on;
  cost = answer.cost;
  bound = answer.bound;
  sets = map (sparse_set programme) answer.sets;
  tree = answer.tree;
}

-- the version of the certificates of a setting with these candidates, 2 where one is clustered
abbrev pub version_of : List IndexShape → ℕ
version_of shapes = if list_any (λ shape. shape.clustered) shapes then 2 else 1

-- how many rents aren't 0
abbrev pub rent_count : List ℕ → ℕ
rent_count rents = count_by (λ rent. not (rent == 0)) rents

-- An answer keeps the limits of certificates: of the budget, of costs, of the multipliers and how many of them aren't 0, and
-- of the tree, which is a whole one.
pub record AnswerLimits (programme : Programme) (budget : ℕ) (answer : Answer) : Type 0 where
  pub budget_most : budget ≤ MOST_PAGES
  pub cost_small : answer.cost < 2 ^ 127
  pub bound_small : IsSmall answer.bound
  pub few_sets : length answer.sets ≤ MOST_SETS
  pub multipliers : All (AreMultipliers programme) answer.sets
  pub few_rents : sum_by (λ set. rent_count set.lambda) answer.sets ≤ MOST_ENTRIES
  pub few_nodes : length answer.tree ≤ MOST_NODES
  pub nodes : All (NodeLimits (length answer.sets)) answer.tree
  pub tree : AreTrees 1 answer.tree

-- the candidates of grants rise from one on
abbrev pub GrantsRise : ℕ → List Grant → Type 0
GrantsRise least [] = Unit {0}
GrantsRise least (grant ∷ grants) = (least ≤ grant.candidate) × GrantsRise (suc grant.candidate) grants

-- the statements of parts rise from one on, and at each slot the candidates do
abbrev pub PartsRise : ℕ → List Part → Type 0
PartsRise least [] = Unit {0}
PartsRise least (part ∷ parts) =
    (least ≤ part.statement) × AllByRecursion (λ slot. GrantsRise 1 slot.grants) part.slots × PartsRise (suc part.statement) parts

-- a programme's parts and grants are in order
abbrev pub InOrder : Programme → Type 0
InOrder programme = PartsRise 1 programme.parts

-- those of a programme that stands for a setting are
abbrev pub StandingInOrder : Type 0
StandingInOrder = (setting : TheSetting) (programme : Programme) → StandsFor setting programme → InOrder programme

-- the best answer of a search over such a programme keeps the limits of certificates
abbrev pub BestKeepLimits : Type 0
BestKeepLimits =
    (setting : TheSetting) (programme : Programme) (budget node_budget : ℕ) (root : nodes.Node) (answer : Answer) → KeepsLimits setting →
    StandsFor setting programme → budget ≤ MOST_PAGES → node_budget ≤ MOST_NODES → IsBest setting budget node_budget root answer →
    AnswerLimits programme budget answer
