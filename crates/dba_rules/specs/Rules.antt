-- The root of a search that rules make: a fold over the lines of a text. Lines and candidates are numbered from 1, places of
-- candidates from 0.
use Rattle.std.specs.Prelude.{◌≡◌, ℕ, zero, suc, ◌+◌, ◌≤◌, ◌==◌, Bool, true, false, ◌&&◌, if◌then◌else◌, List, [], ◌∷◌, length, replicate, Option, Some, None, Result, Ok, Err, slice_get}
use Rattle.std.specs.List.{list_any, slice_split}
use Rattle.std.specs.Option.{option_map_or}
use Rattle.adv_base.specs.declared.catalogue.index.IndexShape.{IndexShape}
use Rattle.adv_base.specs.declared.limits.TheConstants.{MOST_CANDIDATES}
use Rattle.adv_base.specs.Readings.{◌>>=◌, where_holds}
use Rattle.adv_base.specs.Settings.{TheSetting}
use Rattle.bip_model.specs.declared.fix.Fix.{Fix}
use Rattle.bip_model.specs.declared.fix.State.{State}
use Rattle.bip_model.specs.declared.fix.State.TheVariants.{Free, In, Out}
use Rattle.bip_model.specs.Views.{state_at}
use Rattle.dba_rules.specs.declared.fault.RuleFault.{RuleFault}
use Rattle.dba_rules.specs.declared.fault.RuleFault.TheVariants.{BadLine, NotCandidate, Contrary}
use Rattle.dba_rules.specs.declared.line.IndexName.{IndexName}
use Rattle.dba_rules.specs.declared.line.Named.{Named}
use Rattle.dba_rules.specs.declared.line.Rule.{Rule}
use Rattle.dba_rules.specs.declared.line.Rule.TheVariants.{Blank, Must, Never}
use Rattle.dba_rules.specs.declared.names.Target.{Target}
use Rattle.dba_rules.specs.Lines.{rule_in}
use Rattle.dba_rules.specs.Names.{index_target, target_of, meets}

-- ## One rule

-- a rule meets the candidate at a place
abbrev pub meets_at : Target → List IndexShape → ℕ → Bool
meets_at target shapes place = option_map_or (meets target) (slice_get shapes place) false

abbrev pub are_opposite : State → State → Bool
are_opposite In Out = true
are_opposite Out In = true
are_opposite one other = false

-- a rule would turn the state of the candidate at a place round
unfoldable pub opposes : Target → State → List IndexShape → Fix → ℕ → Bool
opposes target to shapes root place = meets_at target shapes place && are_opposite to (state_at root place)

-- the first of n numbers from a on that passes a test
abbrev pub first_from : (ℕ → Bool) → ℕ → ℕ → Option ℕ
first_from passes a zero = None
first_from passes a (suc n) = if passes a then Some a else first_from passes (suc a) n

-- the least number of a candidate that earlier rules fixed the other way
unfoldable pub contrary : Target → State → List IndexShape → Fix → Option ℕ
contrary target to shapes root = option_map_or (λ place. Some (place + 1)) (first_from (opposes target to shapes root) 0 MOST_CANDIDATES) None

-- the state of the candidate at a place behind a rule that makes those that it meets in, or out
unfoldable pub state_behind : Target → State → List IndexShape → Fix → ℕ → State
state_behind target to shapes root place = if meets_at target shapes place then to else state_at root place

-- the states at n places from a on
abbrev pub states_from : (ℕ → State) → ℕ → ℕ → List State
states_from state a zero = []
states_from state a (suc n) = state a ∷ states_from state (suc a) n

unfoldable pub root_behind : Target → State → List IndexShape → Fix → Fix
root_behind target to shapes root = record { state = states_from (state_behind target to shapes root) 0 MOST_CANDIDATES }

-- the root behind a rule, where no earlier one says the opposite
unfoldable pub fixed : ℕ → Target → State → List IndexShape → Fix → Result Fix RuleFault
fixed number target to shapes root =
    option_map_or (λ candidate. Err (Contrary number candidate)) (contrary target to shapes root) (Ok (root_behind target to shapes root))

-- a `must` makes the candidate that it names in
unfoldable pub behind_must : TheSetting → ℕ → Fix → IndexName → Result Fix RuleFault
behind_must setting number root index = do
  target ← index_target setting.cat number index
  met ← where_holds (NotCandidate number) (list_any (meets target) setting.shapes) target
  fixed number met In setting.shapes root

-- a `never` makes each candidate that it meets out, if there is one
unfoldable pub behind_never : TheSetting → ℕ → Fix → Named → Result Fix RuleFault
behind_never setting number root named = do
  target ← target_of setting.cat number named
  fixed number target Out setting.shapes root

abbrev pub behind_rule : TheSetting → ℕ → Fix → Rule → Result Fix RuleFault
behind_rule setting number root Blank = Ok root
behind_rule setting number root (Must index) = behind_must setting number root index
behind_rule setting number root (Never named) = behind_never setting number root named

-- all states past the candidates are free
abbrev pub IsFreePast : List IndexShape → Fix → Type 0
IsFreePast shapes root = (i : ℕ) → length shapes ≤ i → state_at root i ≡ Free

-- ## All of a text

unfoldable pub behind_line : TheSetting → ℕ → Fix → List ℕ → Result Fix RuleFault
behind_line setting number root line = rule_in number line >>= behind_rule setting number root

-- the root behind what stands between the line feeds of a text: lines, and behind the last line feed nothing
abbrev pub behind_lines : TheSetting → ℕ → Fix → List (List ℕ) → Result Fix RuleFault
behind_lines setting number root [] = Ok root
behind_lines setting number root (last ∷ []) = where_holds (BadLine number) (length last == 0) root
behind_lines setting number root (line ∷ next ∷ more) = behind_line setting number root line >>= λ after. behind_lines setting (suc number) after (next ∷ more)

abbrev pub behind_text : TheSetting → ℕ → Fix → List ℕ → Result Fix RuleFault
behind_text setting number root bytes = behind_lines setting number root (slice_split (λ byte. byte == 10) bytes)

-- the root at which each candidate is free
abbrev pub free_root : Fix
free_root = record { state = replicate MOST_CANDIDATES Free }

-- what the rules of a text make of the candidates of a setting, or the fault of the first line that has one
unfoldable pub root_of : TheSetting → List ℕ → Result Fix RuleFault
root_of setting bytes = behind_text setting 1 free_root bytes
