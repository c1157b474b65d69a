-- The statements that a workload means over a catalogue.
use Rattle.std.specs.Prelude.{ℕ, ◌+◌, nat_le, List, [], ◌∷◌, ◌++◌, length, unwrap_or, Result, Ok, Err}
use Rattle.adv_base.specs.declared.limits.TheConstants.{MOST_SLOTS_IN_ALL}
use Rattle.adv_base.specs.declared.catalogue.Catalogue.{Catalogue}
use Rattle.adv_base.specs.Readings.{◌>>=◌, where_holds, in_turn}
use Rattle.sql_tokens.specs.declared.token.Span.{Span}
use Rattle.sql_reader.specs.declared.parsed.Body.{Body}
use Rattle.sql_reader.specs.declared.parsed.Body.TheVariants as bodies
use Rattle.sql_reader.specs.declared.parsed.Condition.{Condition}
use Rattle.sql_reader.specs.declared.parsed.NameUse.{NameUse}
use Rattle.sql_reader.specs.declared.parsed.ParsedStatement.{ParsedStatement}
use Rattle.sql_reader.specs.declared.parsed.Source.{Source}
use Rattle.binder.specs.declared.fault.BindFault.{BindFault}
use Rattle.binder.specs.declared.fault.BindFault.TheVariants.{NoColumn, TooManySlotsInAll}
use Rattle.binder.specs.declared.scope.Visible.{Visible}
use Rattle.binder.specs.Names.{place}
use Rattle.binder.specs.Blocks.{select_of, delete_of, changed_block, one_source, written_columns}
use Rattle.binder.specs.Items.{columns_of}
use Rattle.binder.specs.Plain.{PlainWork, PlainStatement, Select, Update, Delete, Insert}
use Rattle.binder.specs.Faults.{both}
use Rattle.binder.specs.Sources.{table_meant}

-- the table of an UPDATE's source
abbrev pub first_table : List Visible → ℕ
first_table [] = 0
first_table (v ∷ vs) = v.table

-- an UPDATE: the columns that it sets and the names on the right of SET stand among each other, before the conditions
unfoldable pub update_of : Catalogue → List ℕ → Source → List NameUse → List NameUse → List Condition → Result PlainWork BindFault
update_of cat text source columns uses conditions = do
  names ← one_source cat text source
  set ← both (written_columns names.cat names.text (first_table names.sources) columns) (columns_of names uses)
  block ← changed_block names conditions set.1
  Ok (Update block set.0)

-- the first of the tokens of a name
abbrev pub first_span : NameUse → Span
first_span name_use = unwrap_or name_use.qualifier name_use.name

-- no name has a meaning in VALUES
abbrev pub without_names : {A : Type 0} → List NameUse → A → Result A BindFault
without_names [] x = Ok x
without_names (name_use ∷ more) x = Err (NoColumn (place (first_span name_use)))

unfoldable pub insert_of : Catalogue → List ℕ → Span → List NameUse → List NameUse → ℕ → Result PlainWork BindFault
insert_of cat text table columns uses rows = do
  t ← table_meant cat text table
  listed ← written_columns cat text t columns
  without_names uses (Insert t rows)

-- what a statement does, whose first token stands at a place
unfoldable pub work_of : Catalogue → List ℕ → ℕ → Body → Result PlainWork BindFault
work_of cat text at (bodies.Select select) = select_of cat text at select >>= λ block. Ok (Select block)
work_of cat text at (bodies.Insert table columns uses rows) = insert_of cat text table columns uses rows
work_of cat text at (bodies.Update source columns uses conditions) = update_of cat text source columns uses conditions
work_of cat text at (bodies.Delete source conditions) = delete_of cat text source conditions >>= λ block. Ok (Delete block)

-- the statements so far, and how many slots they have
pub record PlainBound : Type 0 where
  pub slots : ℕ
  pub statements : List PlainStatement

abbrev pub slot_count : PlainWork → ℕ
slot_count (Select block) = length block.slots
slot_count (Update block columns) = length block.slots
slot_count (Delete block) = length block.slots
slot_count (Insert table rows) = 0

-- what a statement does, and how many slots there are with its own; all together have at most 2000
unfoldable pub counted_work : Catalogue → List ℕ → ℕ → ParsedStatement → Result (PlainWork × ℕ) BindFault
counted_work cat text slots statement = do
  work ← work_of cat text statement.place statement.body
  where_holds (TooManySlotsInAll statement.place) (nat_le (slots + slot_count work) MOST_SLOTS_IN_ALL) (work, slots + slot_count work)

-- one statement more
unfoldable pub with_statement : Catalogue → List ℕ → PlainBound → ParsedStatement → Result PlainBound BindFault
with_statement cat text so_far statement = do
  counted ← counted_work cat text so_far.slots statement
  Ok (record { slots = counted.1; statements = so_far.statements ++ (record { weight = statement.weight; work = counted.0 }) ∷ [] })

-- the statements that a text means over a catalogue, with the count of their slots, or the first fault
abbrev pub bound_of : Catalogue → List ℕ → List ParsedStatement → Result PlainBound BindFault
bound_of cat text statements = in_turn (with_statement cat text) (record { slots = 0; statements = [] }) statements

-- the statements that a text means over a catalogue, or the first fault
unfoldable pub statements_of : Catalogue → List ℕ → List ParsedStatement → Result (List PlainStatement) BindFault
statements_of cat text statements = bound_of cat text statements >>= λ bound. Ok bound.statements
