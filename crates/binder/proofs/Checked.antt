-- What the conditions of a statement give.
use Rattle.std.proofs.Common.{◌≡◌, ℕ, ◌+◌, ◌<◌, ◌≤◌, Bool, true, false, cond, eqb, List, [], ◌∷◌, ◌++◌, length, Ok, refl, ap, subst, arith}
use Rattle.std.specs.Prelude.{All}
use Rattle.std.proofs.lemmas.Bool.{eqb-true}
use Rattle.std.proofs.lemmas.List.{length-append}
use Rattle.std.proofs.lemmas.List.Elements.{All-nil, All-push}
use Rattle.adv_base.specs.declared.workload.predicate.Test.{Test}
use Rattle.adv_base.specs.declared.workload.predicate.Value.{Value}
use Rattle.adv_base.specs.declared.workload.predicate.Test.TheVariants as tests
use Rattle.adv_base.specs.Readings.{◌>>=◌}
use Rattle.sql_reader.specs.declared.parsed.Compare.{Compare}
use Rattle.sql_reader.specs.declared.parsed.Compare.TheVariants as compares
use Rattle.sql_reader.specs.declared.parsed.Condition.{Condition}
use Rattle.sql_reader.specs.declared.parsed.Condition.TheVariants as conditions
use Rattle.sql_reader.specs.declared.parsed.NameUse.{NameUse}
use Rattle.binder.specs.declared.gathered.SlotColumn.{SlotColumn}
use Rattle.binder.specs.Plain.{PlainPred, PlainEdge}
use Rattle.binder.specs.Conditions.{PlainTests, no_tests, pred_of, edge_of, with_test, with_equality, compare_test, named_test, named_equality, literal_value, with_condition, tests_of}
use Rattle.binder.specs.Scopes.{Names, meaning}
use Rattle.binder.proofs.Readings.{bind_ok, ok_is, in_turn-keeps, in_turn-counts}
use Rattle.binder.proofs.Within.{width, IsColumn, IsColumn-meaning}

-- a predicate on a column of one of the sources, with a second one of the same source where it compares two
pub record IsPred (names : Names) (pred : PlainPred) : Type 0 where
  pub slot : pred.slot < length names.sources
  pub column : pred.column < width names pred.slot
  pub other : (d : ℕ) → pred.test ≡ tests.Same d → d < width names pred.slot

-- a join edge between columns of two sources
pub record IsEdge (names : Names) (edge : PlainEdge) : Type 0 where
  pub left : edge.left < length names.sources
  pub left_column : edge.left_column < width names edge.left
  pub right : edge.right < length names.sources
  pub right_column : edge.right_column < width names edge.right

pub record AreTests (names : Names) (so_far : PlainTests) : Type 0 where
  pub preds : All (IsPred names) so_far.preds
  pub edges : All (IsEdge names) so_far.edges

abbrev NoSame : Test → Type 0
NoSame test = (d : ℕ) → test ≡ tests.Same d → ⊥

AreTests-test : (names : Names) (so_far : PlainTests) (c : SlotColumn) (test : Test) → NoSame test → AreTests names so_far → IsColumn names c → AreTests names (with_test so_far c test)
AreTests-test names so_far c test none are is = record {
  preds = All-push (IsPred names) so_far.preds (pred_of c test) are.preds (record { slot = is.slot; column = is.column; other = λ d e. absurd (none d e) });
  edges = are.edges;
}

AreTests-equality : (names : Names) (so_far : PlainTests) (c d : SlotColumn) → AreTests names so_far → IsColumn names c → IsColumn names d → AreTests names (with_equality so_far c d)
AreTests-equality names so_far c d are is_c is_d = by (eqb c.slot d.slot) refl
  where
    by : (t : Bool) → eqb c.slot d.slot ≡ t → AreTests names (cond (eqb c.slot d.slot)
        (record { preds = so_far.preds ++ pred_of c (tests.Same d.column) ∷ []; edges = so_far.edges; mentions = so_far.mentions ++ c ∷ d ∷ [] })
        (record { preds = so_far.preds; edges = so_far.edges ++ edge_of c d ∷ []; mentions = so_far.mentions ++ c ∷ d ∷ [] }))
    by true e =
        let same = eqb-true c.slot d.slot e in
        rw e (record {
          preds = All-push (IsPred names) so_far.preds (pred_of c (tests.Same d.column)) are.preds
              (record { slot = is_c.slot; column = is_c.column; other = λ k h. let kd : d.column ≡ k = cc in subst (λ (x : ℕ). x < width names c.slot) kd (rw same is_d.column) });
          edges = are.edges;
        })
    by false e =
        rw e (record {
          preds = are.preds;
          edges = All-push (IsEdge names) so_far.edges (edge_of c d) are.edges (record { left = is_c.slot; left_column = is_c.column; right = is_d.slot; right_column = is_d.column });
        })

AreTests-named : (names : Names) (so_far : PlainTests) (name : NameUse) (test : SlotColumn → Test) → ((c : SlotColumn) → NoSame (test c)) → AreTests names so_far
    → (after : PlainTests) → named_test names so_far name test ≡ Ok after → AreTests names after
AreTests-named names so_far name test none are after e =
    let first = bind_ok (meaning names name) (λ c. Ok (with_test so_far c (test c))) after e in
    subst (AreTests names) (ok_is (with_test so_far first.0 (test first.0)) after first.2)
    (AreTests-test names so_far first.0 (test first.0) (none first.0) are (IsColumn-meaning names name first.0 first.1))

AreTests-tied : (names : Names) (so_far : PlainTests) (left right : NameUse) → AreTests names so_far → (after : PlainTests) → named_equality names so_far left right ≡ Ok after → AreTests names after
AreTests-tied names so_far left right are after e =
    let first = bind_ok (meaning names left) (λ c. meaning names right >>= λ d. Ok (with_equality so_far c d)) after e in
    let second = bind_ok (meaning names right) (λ d. Ok (with_equality so_far first.0 d)) after first.2 in
    subst (AreTests names) (ok_is (with_equality so_far first.0 second.0) after second.2)
    (AreTests-equality names so_far first.0 second.0 are (IsColumn-meaning names left first.0 first.1) (IsColumn-meaning names right second.0 second.1))

compare_test-plain : (compare : Compare) (value : Value) → NoSame (compare_test compare value)
compare_test-plain compares.Equal value d e = cc
compare_test-plain compares.NotEqual value d e = cc
compare_test-plain compares.Below value d e = cc
compare_test-plain compares.Above value d e = cc

AreTests-condition : (names : Names) (so_far : PlainTests) (condition : Condition) (after : PlainTests) → AreTests names so_far → with_condition names so_far condition ≡ Ok after → AreTests names after
unfolding with_condition
AreTests-condition names so_far (conditions.Compared name compare literal) after are e =
    AreTests-named names so_far name (λ c. compare_test compare (literal_value names c literal)) (λ c. compare_test-plain compare (literal_value names c literal)) are after e
AreTests-condition names so_far (conditions.Tied left right) after are e = AreTests-tied names so_far left right are after e
AreTests-condition names so_far (conditions.Between name low high) after are e =
    AreTests-named names so_far name (λ c. tests.Between (literal_value names c low) (literal_value names c high)) (λ c d f. cc) are after e
AreTests-condition names so_far (conditions.OneOf name n) after are e = AreTests-named names so_far name (λ c. tests.OneOf n) (λ c d f. cc) are after e
AreTests-condition names so_far (conditions.Like name) after are e = AreTests-named names so_far name (λ c. tests.Like) (λ c d f. cc) are after e
AreTests-condition names so_far (conditions.IsNull name) after are e = AreTests-named names so_far name (λ c. tests.IsNull) (λ c d f. cc) are after e
AreTests-condition names so_far (conditions.NotNull name) after are e = AreTests-named names so_far name (λ c. tests.NotNull) (λ c d f. cc) are after e

-- the tests of conditions speak of columns of the sources
pub AreTests-tests : (names : Names) (conds : List Condition) (after : PlainTests) → tests_of names conds ≡ Ok after → AreTests names after
AreTests-tests names conds after e =
    in_turn-keeps (with_condition names) (AreTests names) (λ so_far condition next are step. AreTests-condition names so_far condition next are step)
    conds no_tests after (record { preds = All-nil (IsPred names); edges = All-nil (IsEdge names) }) e

-- the test that a name is given adds no edge
edges-named : (names : Names) (so_far : PlainTests) (name : NameUse) (test : SlotColumn → Test) (after : PlainTests) → named_test names so_far name test ≡ Ok after → length after.edges ≤ length so_far.edges + 1
edges-named names so_far name test after e =
    let first = bind_ok (meaning names name) (λ c. Ok (with_test so_far c (test c))) after e in
    let same = ap (λ (t : PlainTests). length t.edges) (ok_is (with_test so_far first.0 (test first.0)) after first.2) in
    omega arith

edges-equality : (so_far : PlainTests) (c d : SlotColumn) → length (with_equality so_far c d).edges ≤ length so_far.edges + 1
edges-equality so_far c d = by (eqb c.slot d.slot) refl
  where
    by : (t : Bool) → eqb c.slot d.slot ≡ t → length (with_equality so_far c d).edges ≤ length so_far.edges + 1
    by true e = rw e (omega arith)
    by false e = rw e (let more = length-append so_far.edges (edge_of c d ∷ []) in omega arith)

edges-tied : (names : Names) (so_far : PlainTests) (left right : NameUse) (after : PlainTests) → named_equality names so_far left right ≡ Ok after → length after.edges ≤ length so_far.edges + 1
edges-tied names so_far left right after e =
    let first = bind_ok (meaning names left) (λ c. meaning names right >>= λ d. Ok (with_equality so_far c d)) after e in
    let second = bind_ok (meaning names right) (λ d. Ok (with_equality so_far first.0 d)) after first.2 in
    let same = ap (λ (t : PlainTests). length t.edges) (ok_is (with_equality so_far first.0 second.0) after second.2) in
    let most = edges-equality so_far first.0 second.0 in
    omega arith

edges-condition : (names : Names) (so_far : PlainTests) (condition : Condition) (after : PlainTests) → with_condition names so_far condition ≡ Ok after → length after.edges ≤ length so_far.edges + 1
unfolding with_condition
edges-condition names so_far (conditions.Compared name compare literal) after e = edges-named names so_far name (λ c. compare_test compare (literal_value names c literal)) after e
edges-condition names so_far (conditions.Tied left right) after e = edges-tied names so_far left right after e
edges-condition names so_far (conditions.Between name low high) after e = edges-named names so_far name (λ c. tests.Between (literal_value names c low) (literal_value names c high)) after e
edges-condition names so_far (conditions.OneOf name n) after e = edges-named names so_far name (λ c. tests.OneOf n) after e
edges-condition names so_far (conditions.Like name) after e = edges-named names so_far name (λ c. tests.Like) after e
edges-condition names so_far (conditions.IsNull name) after e = edges-named names so_far name (λ c. tests.IsNull) after e
edges-condition names so_far (conditions.NotNull name) after e = edges-named names so_far name (λ c. tests.NotNull) after e

-- there are no more join edges than conditions
pub edges-tests : (names : Names) (conds : List Condition) (after : PlainTests) → tests_of names conds ≡ Ok after → length after.edges ≤ length conds
edges-tests names conds after e =
    let most = in_turn-counts (with_condition names) (λ (t : PlainTests). length t.edges) (λ so_far condition next step. edges-condition names so_far condition next step) conds no_tests after e in
    omega arith
