-- The kinds of values, and their ranges.
use Rattle.std.specs.Prelude.{ℕ, suc, Bool, true, not, ◌&&◌, ◌||◌, ◌==◌, nat_le, int_le, if◌then◌else◌, ℤ, pos, negsuc, neg_ℤ, List, [], ◌∷◌, ◌++◌, length, codes, Result, Ok, Err, Option, Some, None}
use Rattle.std.specs.Char.{is_ascii_digit, is_ascii_alphanumeric}
use Rattle.std.specs.Str.{bytes_eq, str_to_ascii_lowercase}
use Rattle.std.specs.List.{list_all, list_any}
use Rattle.toml.specs.Data.{Data, Items, no_items, item, Members, as_integer, as_str, as_bool, as_array, as_table}
use Rattle.adv_base.specs.Days.{day_number}
use Rattle.adv_base.specs.declared.catalogue.column.Kind.{Kind}
use Rattle.adv_base.specs.declared.catalogue.column.Kind.TheVariants.{Int, Text, Date}
use Rattle.adv_base.specs.Readings.{◌>>=◌, GivesUnless, or_fault, where_holds}
use Rattle.catalogue.specs.declared.fault.CatFault.{CatFault}
use Rattle.catalogue.specs.declared.fault.CatFault.TheVariants.{Memory, WrongKind, OutOfRange, TwoNames}
use Rattle.catalogue.specs.declared.fault.KeyPath.{KeyPath}

-- how the value at a path is read
abbrev pub Rule : Type 0 → Type 0
Rule A = KeyPath → Data → Result A CatFault

-- what a function returned, seen by view, is what reading gives, unless memory ran out
abbrev pub Gives : {X Y : Type 0} → (X → Y) → Result X CatFault → Result Y CatFault → Type 0
Gives view result read = GivesUnless Memory view result read

-- a number from low to high, neither of which is negative
abbrev pub natural_within : ℕ → ℕ → KeyPath → ℤ → Result ℕ CatFault
natural_within low high path (pos n) = where_holds (OutOfRange path) (nat_le low n && nat_le n high) n
natural_within low high path (negsuc n) = Err (OutOfRange path)

abbrev pub natural : ℕ → ℕ → Rule ℕ
natural low high path d = do
  z ← or_fault (WrongKind path) (as_integer d)
  natural_within low high path z

-- a number that a column may hold at an end of its values
abbrev pub end_number : Rule ℤ
end_number path d = do
  z ← or_fault (WrongKind path) (as_integer d)
  where_holds (OutOfRange path) (int_le (neg_ℤ (pos 1000000000000000000)) z && int_le z (pos 1000000000000000000)) z

-- a text
abbrev pub text : Rule (List ℕ)
text path d = or_fault (WrongKind path) (as_str d)

-- a text that is a date, as its number of days since 1970-01-01
abbrev pub end_day : Rule ℤ
end_day path d = do
  written ← text path d
  or_fault (OutOfRange path) (day_number written)

-- an end of a column's values, by the column's kind; no value is an end of texts
abbrev pub end_value : Kind → Rule ℤ
end_value Int path d = end_number path d
end_value Date path d = end_day path d
end_value Text path d = Err (WrongKind path)

abbrev pub boolean : Rule Bool
boolean path d = or_fault (WrongKind path) (as_bool d)

-- a table, as its members
abbrev pub keys_of : Rule Members
keys_of path d = or_fault (WrongKind path) (as_table d)

-- how many items there are
abbrev pub item_count : Items → ℕ
item_count no_items = 0
item_count (item d ds) = suc (item_count ds)

-- an array
abbrev pub elements : Rule Items
elements path d = or_fault (WrongKind path) (as_array d)

-- an array that has from low to high elements
abbrev pub elements_within : ℕ → ℕ → Rule Items
elements_within low high path d = do
  items ← elements path d
  where_holds (OutOfRange path) (nat_le low (item_count items) && nat_le (item_count items) high) items

-- each element of an array in turn, knowing what was read before it, behind the earlier ones
unfoldable pub read_each : {A : Type 0} → (List A → Data → Result A CatFault) → List A → Items → Result (List A) CatFault
read_each next earlier no_items = Ok earlier
read_each next earlier (item d ds) = next earlier d >>= λ x. read_each next (earlier ++ x ∷ []) ds

-- the name of a kind of columns
abbrev pub kind_named : List ℕ → Option Kind
kind_named word =
    if bytes_eq word (codes "int") then Some Int else (if bytes_eq word (codes "text") then Some Text
    else (if bytes_eq word (codes "date") then Some Date else None))

abbrev pub column_kind : Rule Kind
column_kind path d = do
  word ← text path d
  or_fault (OutOfRange path) (kind_named word)

-- a byte that a name may have
abbrev pub is_name_byte : ℕ → Bool
is_name_byte c = is_ascii_alphanumeric c || (c == 95)

-- a text that begins with no digit
abbrev pub begins_well : List ℕ → Bool
begins_well [] = true
begins_well (c ∷ cs) = not (is_ascii_digit c)

-- 1 to 64 letters of ASCII, digits and underscores, with no digit first
abbrev pub is_name : List ℕ → Bool
is_name word = nat_le 1 (length word) && nat_le (length word) 64 && list_all is_name_byte word && begins_well word

abbrev pub name : Rule (List ℕ)
name path d = do
  word ← text path d
  where_holds (OutOfRange path) (is_name word) word

-- a name with its letters folded, by which names are compared
abbrev pub folded : List ℕ → List ℕ
folded word = str_to_ascii_lowercase word

-- a folded name is one of these
abbrev pub has_name : List (List ℕ) → List ℕ → Bool
has_name names word = list_any (bytes_eq word) names

-- a name that no earlier one of its list has, where those are folded
abbrev pub new_name : List (List ℕ) → Rule (List ℕ)
new_name earlier path d = do
  word ← name path d
  where_holds (TwoNames path) (not (has_name earlier (folded word))) word
