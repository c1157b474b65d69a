-- The conditions of ON and WHERE: tests of one slot, and equijoins of two.
use Rattle.std.specs.Prelude.{◌==◌, if◌then◌else◌, List, [], ◌∷◌, ◌++◌, Result, Ok}
use Rattle.std.specs.Option.{option_map_or}
use Rattle.std.specs.Prelude.{slice_get, option_and_then}
use Rattle.adv_base.specs.declared.catalogue.column.Kind.{Kind}
use Rattle.adv_base.specs.declared.catalogue.column.Kind.TheVariants as kinds
use Rattle.adv_base.specs.declared.workload.predicate.Test.{Test}
use Rattle.adv_base.specs.declared.workload.predicate.Test.TheVariants as tests
use Rattle.adv_base.specs.declared.workload.predicate.Value.{Value}
use Rattle.adv_base.specs.Readings.{◌>>=◌, in_turn}
use Rattle.sql_reader.specs.declared.parsed.Compare.{Compare}
use Rattle.sql_reader.specs.declared.parsed.Compare.TheVariants as compares
use Rattle.sql_reader.specs.declared.parsed.Condition.{Condition}
use Rattle.sql_reader.specs.declared.parsed.Condition.TheVariants as conditions
use Rattle.sql_reader.specs.declared.parsed.Literal.{Literal}
use Rattle.sql_reader.specs.declared.parsed.NameUse.{NameUse}
use Rattle.binder.specs.declared.gathered.SlotColumn.{SlotColumn}
use Rattle.binder.specs.declared.fault.BindFault.{BindFault}
use Rattle.binder.specs.Plain.{PlainPred, PlainEdge}
use Rattle.binder.specs.Scopes.{Names, meaning}
use Rattle.binder.specs.Values.{value_of}

-- the kind of a slot's column
abbrev pub kind_of : Names → SlotColumn → Kind
kind_of names c =
    option_map_or (λ column. column.kind)
    (option_and_then (λ v. option_and_then (λ table. slice_get table.columns c.column) (slice_get names.cat.tables v.table)) (slice_get names.sources c.slot)) kinds.Text

-- the predicates and join edges so far, and the columns that they mention, all in written order
pub record PlainTests : Type 0 where
  pub preds : List PlainPred
  pub edges : List PlainEdge
  pub mentions : List SlotColumn

abbrev pub no_tests : PlainTests
no_tests = record { preds = []; edges = []; mentions = [] }

abbrev pub pred_of : SlotColumn → Test → PlainPred
pred_of c test = record { slot = c.slot; column = c.column; test = test }

abbrev pub edge_of : SlotColumn → SlotColumn → PlainEdge
edge_of c d = record { left = c.slot; left_column = c.column; right = d.slot; right_column = d.column }

-- a test of one column
abbrev pub with_test : PlainTests → SlotColumn → Test → PlainTests
with_test so_far c test =
    record { preds = so_far.preds ++ pred_of c test ∷ []; edges = so_far.edges; mentions = so_far.mentions ++ c ∷ [] }

-- an equality of two columns: a test within a slot, a join edge between two
abbrev pub with_equality : PlainTests → SlotColumn → SlotColumn → PlainTests
with_equality so_far c d =
    if c.slot == d.slot then record { preds = so_far.preds ++ pred_of c (tests.Same d.column) ∷ []; edges = so_far.edges; mentions = so_far.mentions ++ c ∷ d ∷ [] }
    else record { preds = so_far.preds; edges = so_far.edges ++ edge_of c d ∷ []; mentions = so_far.mentions ++ c ∷ d ∷ [] }

-- what a comparison with a value asks
abbrev pub compare_test : Compare → Value → Test
compare_test compares.Equal value = tests.Equal
compare_test compares.NotEqual value = tests.NotEqual
compare_test compares.Below value = tests.Below value
compare_test compares.Above value = tests.Above value

-- a test of what a name means
abbrev pub named_test : Names → PlainTests → NameUse → (SlotColumn → Test) → Result PlainTests BindFault
named_test names so_far name test = meaning names name >>= λ c. Ok (with_test so_far c (test c))

-- an equality of what two names mean
abbrev pub named_equality : Names → PlainTests → NameUse → NameUse → Result PlainTests BindFault
named_equality names so_far left right = meaning names left >>= λ c. meaning names right >>= λ d. Ok (with_equality so_far c d)

abbrev pub literal_value : Names → SlotColumn → Literal → Value
literal_value names c literal = value_of names.text (kind_of names c) literal

-- the tests with one condition more
unfoldable pub with_condition : Names → PlainTests → Condition → Result PlainTests BindFault
with_condition names so_far (conditions.Compared name compare literal) = named_test names so_far name (λ c. compare_test compare (literal_value names c literal))
with_condition names so_far (conditions.Tied left right) = named_equality names so_far left right
with_condition names so_far (conditions.Between name low high) = named_test names so_far name (λ c. tests.Between (literal_value names c low) (literal_value names c high))
with_condition names so_far (conditions.OneOf name n) = named_test names so_far name (λ c. tests.OneOf n)
with_condition names so_far (conditions.Like name) = named_test names so_far name (λ c. tests.Like)
with_condition names so_far (conditions.IsNull name) = named_test names so_far name (λ c. tests.IsNull)
with_condition names so_far (conditions.NotNull name) = named_test names so_far name (λ c. tests.NotNull)

abbrev pub tests_of : Names → List Condition → Result PlainTests BindFault
tests_of names conds = in_turn (with_condition names) no_tests conds
