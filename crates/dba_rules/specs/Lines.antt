-- Lines of rules: how they are spelled, and how they are read.
use Rattle.std.specs.Prelude.{◌≡◌, ◌⊎◌, ℕ, zero, suc, ◌≤◌, ◌==◌, nat_le, Bool, true, false, not, ◌&&◌, ◌||◌, if◌then◌else◌, List, [], ◌∷◌, ◌++◌, length, drop, take_while, slice_index, codes, Option, Some, None, Result, Ok, Err}
use Rattle.std.specs.Char.{is_ascii_digit, is_ascii_alphanumeric}
use Rattle.std.specs.List.{list_all, prefix_len}
use Rattle.std.specs.Option.{option_map_or}
use Rattle.std.specs.Str.{bytes_eq}
use Rattle.adv_base.specs.declared.limits.TheConstants.{MOST_KEYS}
use Rattle.adv_base.specs.Readings.{◌>>=◌, or_fault, where_holds}
use Rattle.dba_rules.specs.declared.fault.RuleFault.{RuleFault}
use Rattle.dba_rules.specs.declared.fault.RuleFault.TheVariants.{BadLine}
use Rattle.dba_rules.specs.declared.line.IndexName.{IndexName}
use Rattle.dba_rules.specs.declared.line.Named.{Named}
use Rattle.dba_rules.specs.declared.line.Named.TheVariants.{Index, Table, Column}
use Rattle.dba_rules.specs.declared.line.Rule.{Rule}
use Rattle.dba_rules.specs.declared.line.Rule.TheVariants.{Blank, Must, Never}

-- ## Names

-- a byte that a name may have
abbrev pub is_name_byte : ℕ → Bool
is_name_byte c = is_ascii_alphanumeric c || (c == 95)

-- bytes that begin with no digit
abbrev pub begins_well : List ℕ → Bool
begins_well [] = true
begins_well (c ∷ cs) = not (is_ascii_digit c)

-- 1 to 64 letters of ASCII, digits and underscores, with no digit first
unfoldable pub is_name : List ℕ → Bool
is_name word = nat_le 1 (length word) && nat_le (length word) 64 && list_all is_name_byte word && begins_well word

-- ## How a rule is spelled

-- a comma and a space between each two columns
abbrev pub columns_text : List (List ℕ) → List ℕ
columns_text [] = []
columns_text (name ∷ []) = name
columns_text (name ∷ next ∷ more) = name ++ (codes ", " ++ columns_text (next ∷ more))

abbrev pub index_text : IndexName → List ℕ
index_text index = index.table ++ (codes "(" ++ (columns_text index.columns ++ (codes ")" ++ (if index.clustered then codes " clustered" else []))))

abbrev pub named_text : Named → List ℕ
named_text (Index index) = index_text index
named_text (Table table) = table
named_text (Column table column) = table ++ (codes "." ++ column)

-- a table and 1 to 8 columns by their names
pub record IsIndexName (index : IndexName) : Type 0 where
  pub table : is_name index.table ≡ true
  pub some : 1 ≤ length index.columns
  pub few : length index.columns ≤ MOST_KEYS
  pub columns : list_all is_name index.columns ≡ true

abbrev pub IsNamed : Named → Type 0
IsNamed (Index index) = IsIndexName index
IsNamed (Table table) = is_name table ≡ true
IsNamed (Column table column) = (is_name table ≡ true) × (is_name column ≡ true)

-- a line is a rule: empty or a comment, or one of `must INDEX`, `never INDEX`, `never TABLE` and `never TABLE.COLUMN`
abbrev pub IsRule : List ℕ → Rule → Type 0
IsRule line Blank = (line ≡ []) ⊎ ((comment : List ℕ) × (line ≡ codes "#" ++ comment))
IsRule line (Must index) = IsIndexName index × (line ≡ codes "must " ++ index_text index)
IsRule line (Never named) = IsNamed named × (line ≡ codes "never " ++ named_text named)

-- ## How a line is read; lines are numbered from 1

-- the name at the front, as long as it goes, and what follows it
abbrev pub front_name : ℕ → List ℕ → Result (List ℕ × List ℕ) RuleFault
front_name number bytes = where_holds (BadLine number) (is_name (take_while is_name_byte bytes)) (take_while is_name_byte bytes, drop (prefix_len is_name_byte bytes) bytes)

-- what follows a word at the front
abbrev pub after : List ℕ → List ℕ → Option (List ℕ)
after [] bytes = Some bytes
after (c ∷ word) [] = None
after (c ∷ word) (byte ∷ bytes) = if byte == c then after word bytes else None

-- the same of a word that has to be there
abbrev pub behind : ℕ → List ℕ → List ℕ → Result (List ℕ) RuleFault
behind number word bytes = or_fault (BadLine number) (after word bytes)

abbrev pub put : List (List ℕ) → List ℕ → Result (List (List ℕ)) RuleFault
put columns name = Ok (columns ++ name ∷ [])

-- a column behind the others, whether it is the last one, and what follows
unfoldable pub column_step : ℕ → List (List ℕ) → List ℕ → Result (List (List ℕ) × Bool × List ℕ) RuleFault
column_step number columns bytes = do
  name ← front_name number bytes
  more ← put columns name.0
  option_map_or (λ rest. Ok (more, true, rest)) (after (codes ")") name.1) (behind number (codes ", ") name.1 >>= λ rest. Ok (more, false, rest))

-- the columns behind others up to the closing parenthesis, at most so many, and what follows that
abbrev pub columns_from : ℕ → ℕ → List (List ℕ) → List ℕ → Result (List (List ℕ) × List ℕ) RuleFault
columns_from number zero columns bytes = Err (BadLine number)
columns_from number (suc n) columns bytes =
    column_step number columns bytes >>= λ step. if step.1 then Ok (step.0, step.2) else columns_from number n step.0 step.2

-- whether ` clustered` ends the line, or nothing does
abbrev pub tail : ℕ → List ℕ → Result Bool RuleFault
tail number rest = if length rest == 0 then Ok false else where_holds (BadLine number) (bytes_eq rest (codes " clustered")) true

unfoldable pub index_from : ℕ → List ℕ → List ℕ → Result IndexName RuleFault
index_from number table rest = do
  inside ← behind number (codes "(") rest
  columns ← columns_from number MOST_KEYS [] inside
  clustered ← tail number columns.1
  Ok (record { table = table; columns = columns.0; clustered = clustered })

unfoldable pub column_of : ℕ → List ℕ → List ℕ → Result Named RuleFault
column_of number table column = where_holds (BadLine number) (is_name column) (Column table column)

unfoldable pub named_from : ℕ → List ℕ → List ℕ → Result Named RuleFault
named_from number table rest =
    if length rest == 0 then Ok (Table table)
    else (option_map_or (column_of number table) (after (codes ".") rest) (index_from number table rest >>= λ index. Ok (Index index)))

abbrev pub is_blank : List ℕ → Bool
is_blank line = (length line == 0) || (slice_index line 0 == 35)

unfoldable pub must : ℕ → List ℕ → Result Rule RuleFault
must number rest = do
  name ← front_name number rest
  index ← index_from number name.0 name.1
  Ok (Must index)

unfoldable pub never : ℕ → List ℕ → Result Rule RuleFault
never number rest = do
  name ← front_name number rest
  named ← named_from number name.0 name.1
  Ok (Never named)

-- what a line that isn't blank says
unfoldable pub spoken : ℕ → List ℕ → Result Rule RuleFault
spoken number line = option_map_or (must number) (after (codes "must ") line) (behind number (codes "never ") line >>= never number)

-- what a line without its line feed says
unfoldable pub rule_in : ℕ → List ℕ → Result Rule RuleFault
rule_in number line = if is_blank line then Ok Blank else spoken number line
