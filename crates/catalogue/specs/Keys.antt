-- Keys that are needed, keys that may be left out, and key columns by their names.
use Rattle.std.specs.Prelude.{ℕ, List, position, Result, Ok, Option, Some, None, unwrap_or}
use Rattle.std.specs.Str.{bytes_eq}
use Rattle.toml.specs.Data.{Data, Members, get_member}
use Rattle.adv_base.specs.Readings.{◌>>=◌, or_fault}
use Rattle.catalogue.specs.declared.fault.CatFault.{CatFault}
use Rattle.catalogue.specs.declared.fault.CatFault.TheVariants.{Missing}
use Rattle.catalogue.specs.declared.fault.KeyPath.{KeyPath}
use Rattle.catalogue.specs.Values.{Rule}

-- the place of a folded name, counted from 0
abbrev pub number_of : List (List ℕ) → List ℕ → Option ℕ
number_of names word = position (bytes_eq word) names

-- the value that stands at a key
abbrev pub present : KeyPath → Option Data → Result Data CatFault
present path found = or_fault (Missing path) found

-- a key that has to be there
abbrev pub needed : {A : Type 0} → List ℕ → KeyPath → Rule A → Members → Result A CatFault
needed key path rule keys = present path (get_member key keys) >>= rule path

abbrev pub read_if_there : {A : Type 0} → KeyPath → Rule A → Option Data → Result (Option A) CatFault
read_if_there path rule None = Ok None
read_if_there path rule (Some d) = rule path d >>= λ x. Ok (Some x)

-- a key that may be left out
abbrev pub optional : {A : Type 0} → List ℕ → KeyPath → Rule A → Members → Result (Option A) CatFault
optional key path rule keys = read_if_there path rule (get_member key keys)

-- a key that may be left out, with what stands where it is
abbrev pub given_or : {A : Type 0} → A → List ℕ → KeyPath → Rule A → Members → Result A CatFault
given_or otherwise key path rule keys = optional key path rule keys >>= λ given. Ok (unwrap_or given otherwise)
