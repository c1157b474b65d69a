-- A setting and a certificate, as the definitions of plan_model and bip_model see them.
use Rattle.std.specs.Prelude.{ℕ, suc, ◌==◌, Bool, ◌&&◌, if◌then◌else◌, List, [], ◌∷◌, map, fold}
use Rattle.adv_base.specs.declared.setting.Config.{Config}
use Rattle.adv_base.specs.Nodes as nodes
use Rattle.adv_base.specs.Settings.{TheSetting}
use Rattle.plan_model.specs.Lagrangian.{TheMultipliers}
use Rattle.plan_model.specs.Totals.{no_candidates}
use Rattle.bip_model.specs.Trees.{Rule, ByPages, ByFit, with_candidate}
use Rattle.bip_model.specs.Proves.{Proves}
use Rattle.certificate.specs.declared.cert.Cert.{Cert}
use Rattle.certificate.specs.declared.cert.Entry.{Entry}
use Rattle.certificate.specs.declared.cert.SparseSet.{SparseSet}

-- the configuration of the candidates with these numbers
abbrev pub config_with : List ℕ → Config
config_with numbers = fold with_candidate no_candidates numbers

-- An entry's use of a candidate. A certificate counts statements, slots and candidates from 1; rents count slots from 0.
abbrev pub is_entry_of : Entry → ℕ → ℕ → ℕ → Bool
is_entry_of entry q s a = (entry.statement == q) && ((entry.slot == suc s) && (entry.candidate == a))

-- the rent that the entries give a use; 0 where none lists it
abbrev pub rent_in : List Entry → ℕ → ℕ → ℕ → ℕ
rent_in [] q s a = 0
rent_in (entry ∷ entries) q s a = if is_entry_of entry q s a then entry.lambda else rent_in entries q s a

-- the multipliers of a set
abbrev pub multipliers_of : SparseSet → TheMultipliers
multipliers_of set = record { rent = λ q s a. rent_in set.entries q s a; page = set.mu }

abbrev pub sets_of : Cert → List TheMultipliers
sets_of cert = map multipliers_of cert.sets

abbrev pub config_of : Cert → Config
config_of cert = config_with cert.config

-- by what a certificate of a version calls a leaf overfull: a certificate of version 1 tells what is overfull by pages alone
abbrev pub rule_of : ℕ → Rule
rule_of version = if version == 1 then ByPages else ByFit

-- The certificate proves its bound below a root, and what its configuration costs, for a setting.
abbrev pub IsProof : TheSetting → nodes.Node → Cert → Type 0
IsProof setting root cert = Proves (rule_of cert.version) setting cert.budget root (config_of cert) cert.cost cert.bound (sets_of cert) cert.tree
