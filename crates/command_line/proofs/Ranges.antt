-- What holds of each row of the table of commands: its numbers are below 2^64, and what it asks for is in its ranges.
use Rattle.std.proofs.Common.{◌≡◌, ◌∙◌, inl, inr, ℕ, ◌≤◌, Bool, true, false, cond, nat_le, List, [], ◌∷◌, ◌<◌, ◌^◌, Option, Some, None, Ok, refl, ap, subst, arith}
use Rattle.std.specs.Prelude.{IfSome}
use Rattle.std.proofs.lemmas.Bool.{leb-true}
use Rattle.command_line.specs.Spellings.{IsWithin, AreSweepBudgets, AreBudgets, IsLineOf, SomeRow, IsInRange}
use Rattle.command_line.specs.CommandLine.{PlainCommand, Advise, Ruled, Sweep, Retune, PlainOptions, WordKind, File, Number, Row, Plain, Search, nodes_of, last_budget, asked_sweep, advise_row, ruled_row, sweep_row, retune_row, bench_row, commands}

nodes_within : (options : PlainOptions) → IfSome options.nodes (IsWithin 1 1000000) → IsWithin 1 1000000 (nodes_of options)
nodes_within options range = by_given options.nodes range
  where
    by_given : (given : Option ℕ) → IfSome given (IsWithin 1 1000000) → IsWithin 1 1000000 (nodes_of (record { nodes = given; cert = None }))
    by_given None range = record { low = omega arith; high = omega arith }
    by_given (Some n) range = range

budgets : (budget : ℕ) (options : PlainOptions) → IsWithin 0 1000000000000 budget → IfSome options.nodes (IsWithin 1 1000000) → AreBudgets budget (nodes_of options)
budgets budget options is range =
    let within = nodes_within options range in
    record { budget_most = is.high; some_node = within.low; nodes_most = within.high }

-- the command that a search asks for
asked_for : (asks told : PlainOptions → PlainCommand) (options : PlainOptions) (command : PlainCommand) → asks ≡ told → told options ≡ command → IsInRange (asks options) → IsInRange command
asked_for asks told options command same is h = subst IsInRange (ap (λ (f : PlainOptions → PlainCommand). f options) same ∙ is) h

one : {A : Type 0} (x y : A) → Some x ≡ Some y → x ≡ y
one x y e = cc

-- the budgets of a sweep go together only where the last is one
last_within : (cat load : List ℕ) (first step count : ℕ) (told : PlainOptions → PlainCommand) → asked_sweep cat load first step count ≡ Some told →
    (last_budget first step count ≤ 1000000000000) × ((λ options. Sweep cat load first step count (nodes_of options) options.cert) ≡ told)
last_within cat load first step count told e =
    by_test (nat_le (last_budget first step count) 1000000000000) _ told refl e
  where
    by_test : (test : Bool) (asks told : PlainOptions → PlainCommand) → nat_le (last_budget first step count) 1000000000000 ≡ test → cond test (Some asks) None ≡ Some told →
        (last_budget first step count ≤ 1000000000000) × (asks ≡ told)
    by_test true asks told is e = (leb-true (last_budget first step count) 1000000000000 is, one asks told e)
    by_test false asks told is e = absurd cc

-- ## Rows

-- the numbers of these kinds
abbrev pub AreSmall : List WordKind → Type 0
AreSmall [] = Unit {0}
AreSmall (File ∷ kinds) = AreSmall kinds
AreSmall (Number least most ∷ kinds) = (most < 2 ^ 64) × AreSmall kinds

-- those of a row
abbrev pub IsSmall : Row → Type 0
IsSmall (Plain name kinds asked) = AreSmall kinds
IsSmall (Search name certifies kinds asked) = AreSmall kinds

abbrev Ranged : Row → Type 0
Ranged row = (words : List (List ℕ)) (command : PlainCommand) → IsLineOf words command row → IsInRange command

abbrev pub IsFit : Row → Type 0
IsFit row = IsSmall row × Ranged row

abbrev AllFit : List Row → Type 0
AllFit [] = Unit {0}
AllFit (row ∷ rows) = IsFit row × AllFit rows

-- so it is with the row that has P
pub fit_too : (P : Row → Type 0) (rows : List Row) → AllFit rows → SomeRow P rows → SomeRow (λ row. IsFit row × P row) rows
fit_too P [] fit h = absurd h
fit_too P (row ∷ rows) fit (inl h) = inl (fit.0, h)
fit_too P (row ∷ rows) fit (inr h) = inr (fit_too P rows fit.1 h)

advised : Ranged advise_row
advised words command h =
    asked_for (λ options. Advise h.values.0 h.values.1.0 h.values.1.1.0 (nodes_of options) options.cert) h.asks h.options command (one _ h.asks h.go_together) h.command_is
    (budgets h.values.1.1.0 h.options h.within.0 h.chosen.range)

obeying : Ranged ruled_row
obeying words command h =
    asked_for (λ options. Ruled h.values.0 h.values.1.0 h.values.1.1.0 h.values.1.1.1.0 (nodes_of options) options.cert) h.asks h.options command (one _ h.asks h.go_together) h.command_is
    (budgets h.values.1.1.0 h.options h.within.0 h.chosen.range)

retuned : Ranged retune_row
retuned words command h =
    asked_for (λ options. Retune h.values.0 h.values.1.0 h.values.1.1.0 h.values.1.1.1.0 (nodes_of options)) h.asks h.options command (one _ h.asks h.go_together) h.command_is
    (budgets h.values.1.1.1.0 h.options h.within.0 h.chosen.range)

swept : Ranged sweep_row
swept words command h =
    let v = h.values.1.1 in
    let told = last_within h.values.0 h.values.1.0 v.0 v.1.0 v.1.1.0 h.asks h.go_together in
    let within = nodes_within h.options h.chosen.range in
    let steps : AreSweepBudgets v.0 v.1.0 v.1.1.0 = record { first_is = h.within.0; step_is = h.within.1.0; count_is = h.within.1.1.0; last_is = record { low = omega arith; high = told.0 } } in
    asked_for (λ options. Sweep h.values.0 h.values.1.0 v.0 v.1.0 v.1.1.0 (nodes_of options) options.cert) h.asks h.options command told.1 h.command_is
    (record { steps = steps; some_node = within.low; nodes_most = within.high })

benched : Ranged bench_row
benched words command h = subst IsInRange h.command_is (record {
  seed_most = h.within.0.high;
  tables_some = h.within.1.0.low;
  tables_few = h.within.1.0.high;
  statements_some = h.within.1.1.0.low;
  statements_few = h.within.1.1.0.high;
  budget_most = h.within.1.1.1.0.high;
})

-- in the order of the table
pub all_fit : AllFit commands
all_fit =
    let budget : 1000000000000 < 2 ^ 64 = omega arith in (
      (tt, λ words command h. subst IsInRange h.command_is tt),
      (
        (tt, λ words command h. subst IsInRange h.command_is tt),
        (
          ((omega arith, tt), λ words command h. subst IsInRange h.command_is tt),
          (
            (tt, λ words command h. subst IsInRange h.command_is tt),
            (
              ((budget, tt), advised),
              (
                ((budget, tt), obeying),
                (
                  ((budget, (budget, (omega arith, tt))), swept),
                  (
                    ((budget, tt), retuned),
                    (
                      (tt, λ words command h. subst IsInRange h.command_is tt),
                      (
                        (tt, λ words command h. subst IsInRange h.command_is tt),
                        (
                          (tt, λ words command h. subst IsInRange h.command_is tt),
                          (((omega arith, (omega arith, (omega arith, (budget, tt)))), benched), tt),
                        ),
                      ),
                    ),
                  ),
                ),
              ),
            ),
          ),
        ),
      ),
    )
