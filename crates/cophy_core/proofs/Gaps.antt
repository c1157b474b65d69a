-- Status 1 is that of advice or of a sweep whose search gave up.
use Rattle.std.proofs.Common.{◌≡◌, inl, inr, ℕ, ℤ, pos, negsuc, suc, Bool, true, false, List, [], ◌∷◌, map, length, Option, Some, Result, Ok, Err, refl, sym, ap, subst, ◌∙◌, arith}
use Rattle.std.specs.Prelude.{◌<ℤ◌, max, slice_get}
use Rattle.std.proofs.lemmas.Bool.Decides.{nat_tests}
use Rattle.std.proofs.lemmas.Int.{ints}
use Rattle.bip_model.specs.declared.answer.Answer.{Answer}
use Rattle.bip_model.specs.declared.point.Point.{Point}
use Rattle.plan_model.specs.Lagrangian.{IsAtMost}
use Rattle.report.specs.Sweeps.{has_no_gap}
use Rattle.adv_base.specs.Nodes as nodes
use Rattle.adv_base.specs.Settings.{TheSetting}
use Rattle.adv_base.specs.declared.catalogue.Catalogue.{Catalogue}
use Rattle.adv_base.specs.declared.workload.Statement.{Statement}
use Rattle.edit_script.specs.Scripts as script
use Rattle.edit_script.specs.Scripts.{TheEdit}
use Rattle.bip_model.specs.Best.{IsBest}
use Rattle.adv_shelf.specs.Shelf.{Files}
use Rattle.report.specs.declared.done.Advice.{Advice}
use Rattle.report.specs.declared.done.Bench.{Bench as Made}
use Rattle.report.specs.Advices.{SomeAdvice}
use Rattle.report.specs.declared.done.Done.{Done}
use Rattle.report.specs.declared.done.Tuned.{Tuned}
use Rattle.report.specs.declared.done.Ruled.{Ruled as Obeying}
use Rattle.report.specs.declared.done.Done.TheVariants.{Advised, Ruled as RuledDone, Swept, Retuned, Benched}
use Rattle.command_line.specs.declared.fault.WordFault.{WordFault}
use Rattle.bip_model.specs.Proves.{free_node}
use Rattle.bip_model.specs.Views.{node_of}
use Rattle.cophy_core.specs.Answers.{Answers}
use Rattle.cophy_core.specs.commands.Advise.{IsAdvice}
use Rattle.cophy_core.specs.commands.Retune.{AreTunedOver}
use Rattle.cophy_core.specs.Causes.{gap_status, search_status, sweep_status, HasGivenUp, GapIsTrue, IsAnswered}
use Rattle.cophy_core.specs.Endings.{Outside}
use Rattle.command_line.specs.CommandLine.{PlainCommand, Advise, Ruled, Sweep, Retune, CheckRuled, Bench, command_of}
use Rattle.cophy_core.specs.Replies.{IsRun}
use Rattle.cophy_core.proofs.CauseLemmas.{answer}
use Rattle.cophy_core.proofs.Statuses.{none_lost}
use Rattle.cophy_core.proofs.Headlines.{spent_nodes, gap_by}

-- at some point the greatest bound is below the least cost
record HasGap (points : List Point) : Type 0 where
  at : ℕ
  point : Point
  found : slice_get points at ≡ Some point
  below : point.low <ℤ pos point.best

is_below : (best : ℕ) (low : ℤ) → IsAtMost low best → has_no_gap best low ≡ false → low <ℤ pos best
is_below best (pos low) most is = grind (arith, nat_tests, most, is)
is_below best (negsuc low) most is = omega (arith, ints)

-- a search that left a gap gave up
stopped : (root : nodes.Node) (budget nodes : ℕ) (setting : TheSetting) (answer : Answer) → IsBest setting budget nodes root answer → answer.bound <ℤ pos answer.cost → HasGivenUp nodes answer
stopped root budget nodes setting answer best left =
    let given = best.gave_up left in
    record { below = left; spent = spent_nodes (length answer.tree) nodes given.spent best.nodes_most; fewer = given.fewer }

given_up : (root : nodes.Node) (budget nodes : ℕ) (setting : TheSetting) (advice : Advice) → advice.nodes ≡ nodes → IsBest setting budget nodes root advice.answer → gap_status advice.answer.cost advice.answer.bound ≡ 1 → HasGivenUp advice.nodes advice.answer
given_up root budget nodes setting advice nodes_is best one =
    let answer = advice.answer in
    elim (gap_by answer.cost answer.bound best.bound_most) [
      | inl closed ↦ absurd (let none : 0 ≡ 1 = sym closed.1 ∙ one in omega arith)
      | inr left ↦ subst (λ (n : ℕ). HasGivenUp n answer) (sym nodes_is) (stopped root budget nodes setting answer best left.0)
    ]

of_advice : (command : PlainCommand) (files : Option Files) (advice : Advice) → Answers command files (Advised advice) → GapIsTrue (Ok command) (Advised advice)
of_advice (Advise cat load budget nodes cert) files advice h = λ one. inl (given_up free_node budget nodes h.setting advice h.holds.nodes_is h.holds.best one)
of_advice (CheckRuled cat load rules cert) files advice h = absurd h.holds.gives
of_advice command files advice h = absurd h.holds

of_bench : (command : PlainCommand) (files : Option Files) (bench : Made) → Answers command files (Benched bench) → GapIsTrue (Ok command) (Benched bench)
of_bench (Bench seed tables statements budget) files bench h = λ one. inl (given_up free_node budget 20000 h.setting bench.advice h.holds.advice_is.nodes_is h.holds.advice_is.best one)
of_bench (CheckRuled cat load rules cert) files bench h = absurd h.holds.gives
of_bench command files bench h = absurd h.holds

of_ruled : (command : PlainCommand) (files : Option Files) (ruled : Obeying) → Answers command files (RuledDone ruled) → GapIsTrue (Ok command) (RuledDone ruled)
of_ruled (Ruled cat load budget rules nodes cert) files ruled h =
    λ one. inl (given_up (node_of h.holds.root) budget nodes h.setting ruled.advice h.holds.advice_is.nodes_is h.holds.advice_is.best one)
of_ruled (CheckRuled cat load rules cert) files ruled h = absurd h.holds.gives
of_ruled command files ruled h = absurd h.holds

-- a point at which a gap is left, where there is one
gap_point : (points : List Point) → ((i : ℕ) (point : Point) → slice_get points i ≡ Some point → IsAtMost point.low point.best) → sweep_status points ≡ 1 → HasGap points
gap_point [] most one = absurd (omega (arith, one))
gap_point (point ∷ points) most one =
    by_test (has_no_gap point.best point.low) refl (λ rest. gap_point points (λ i p found. most (suc i) p found) rest)
  where
    same_behind : has_no_gap point.best point.low ≡ true → sweep_status (point ∷ points) ≡ sweep_status points
    same_behind e = rw e refl

    by_test : (test : Bool) → has_no_gap point.best point.low ≡ test → (sweep_status points ≡ 1 → HasGap points) → HasGap (point ∷ points)
    by_test false is behind = record { at = 0; point = point; found = refl; below = is_below point.best point.low (most 0 point refl) is }
    by_test true is behind =
        let rest = behind (sym (same_behind is) ∙ one) in
        record { at = suc rest.at; point = rest.point; found = rest.found; below = rest.below }

of_sweep : (command : PlainCommand) (files : Option Files) (points : List Point) → Answers command files (Swept points) → GapIsTrue (Ok command) (Swept points)
of_sweep (Sweep cat load first step count nodes cert) files points h = λ one.
    let is = h.holds in
    let there = gap_point points (λ i point found. (is.each i point found).bounded.bounded.own) one in
    let best = (is.curve_is.each there.at there.point there.found).answer_is in
    record {
      at = there.at;
      point = there.point;
      found = there.found;
      below = there.below;
      given_up = stopped free_node there.point.budget nodes h.setting there.point.answer best ((is.each there.at there.point there.found).gap_own there.below);
    }
of_sweep (CheckRuled cat load rules cert) files points h = absurd h.holds.gives
of_sweep command files points h = absurd h.holds

-- the advice of a script, each on some statements
abbrev AreAdvised : ℕ → ℕ → List Tuned → Type 0
AreAdvised budget nodes [] = Unit {0}
AreAdvised budget nodes (tuned ∷ more) = ((setting : TheSetting) × IsAdvice budget nodes setting tuned.advice) × AreAdvised budget nodes more

are_advised : (cat : Catalogue) (budget nodes : ℕ) (statements : List Statement) (edits : List TheEdit) (tuned : List Tuned) → AreTunedOver cat budget nodes statements edits tuned → AreAdvised budget nodes tuned
are_advised cat budget nodes statements [] [] h = tt
are_advised cat budget nodes statements [] (tuned ∷ more) h = absurd cc
are_advised cat budget nodes statements (script.Advise ∷ edits) [] h = absurd h
are_advised cat budget nodes statements (script.Advise ∷ edits) (tuned ∷ more) h =
    ((record { cat = cat; statements = statements; shapes = tuned.shapes }, h.0.advice_is), are_advised cat budget nodes statements edits more h.1)
are_advised cat budget nodes statements (script.Add weight sql ∷ edits) tuned h = are_advised cat budget nodes h.0 edits tuned h.2
are_advised cat budget nodes statements (script.Remove number ∷ edits) tuned h = are_advised cat budget nodes h.0 edits tuned h.2
are_advised cat budget nodes statements (script.Weigh number weight ∷ edits) tuned h = are_advised cat budget nodes h.0 edits tuned h.2

abbrev GaveUp : Advice → Type 0
GaveUp advice = HasGivenUp advice.nodes advice.answer

some_gave_up : (budget nodes : ℕ) (tuned : List Tuned) → AreAdvised budget nodes tuned → search_status (map (λ t. t.advice) tuned) ≡ 1 → SomeAdvice GaveUp (map (λ t. t.advice) tuned)
some_gave_up budget nodes [] are one = absurd (omega (arith, one))
some_gave_up budget nodes (tuned ∷ []) are one = inl (given_up free_node budget nodes are.0.0 tuned.advice are.0.1.nodes_is are.0.1.best one)
some_gave_up budget nodes (tuned ∷ other ∷ more) are one =
    by_test (has_no_gap tuned.advice.answer.cost tuned.advice.answer.bound) refl (some_gave_up budget nodes (other ∷ more) are.1)
  where
    by_test : (test : Bool) → has_no_gap tuned.advice.answer.cost tuned.advice.answer.bound ≡ test →
        (search_status (map (λ t. t.advice) (other ∷ more)) ≡ 1 → SomeAdvice GaveUp (map (λ t. t.advice) (other ∷ more))) → SomeAdvice GaveUp (map (λ t. t.advice) (tuned ∷ other ∷ more))
    by_test false is behind =
        let own : gap_status tuned.advice.answer.cost tuned.advice.answer.bound ≡ 1 = rw is refl in
        inl (given_up free_node budget nodes are.0.0 tuned.advice are.0.1.nodes_is are.0.1.best own)
    by_test true is behind =
        let none : gap_status tuned.advice.answer.cost tuned.advice.answer.bound ≡ 0 = rw is refl in
        let rest : search_status (map (λ t. t.advice) (other ∷ more)) ≡ 1 =
        sym (none_lost (search_status (map (λ t. t.advice) (other ∷ more)))) ∙ (sym (ap (λ (k : ℕ). max k (search_status (map (λ t. t.advice) (other ∷ more)))) none) ∙ one) in
        inr (behind rest)

of_retuned : (command : PlainCommand) (files : Option Files) (tuned : List Tuned) → Answers command files (Retuned tuned) → GapIsTrue (Ok command) (Retuned tuned)
of_retuned (Retune cat load edits budget nodes) files tuned h =
    λ one. some_gave_up budget nodes tuned (are_advised h.setting.cat budget nodes h.setting.statements h.holds.edits tuned h.holds.tuned_are) one
of_retuned (CheckRuled cat load rules cert) files tuned h = absurd h.holds.gives
of_retuned command files tuned h = absurd h.holds

of_answer : (words : Result PlainCommand WordFault) (before after : Outside) (done : Done) → IsAnswered words before after done → GapIsTrue words done
of_answer (Ok command) before after (Advised advice) h = of_advice command before.files advice h
of_answer (Ok command) before after (Benched bench) h = of_bench command before.files bench h
of_answer (Ok command) before after (RuledDone ruled) h = of_ruled command before.files ruled h
of_answer (Ok command) before after (Swept points) h = of_sweep command before.files points h
of_answer (Ok command) before after (Retuned tuned) h = of_retuned command before.files tuned h
of_answer (Err fault) before after (Retuned tuned) h = absurd h
of_answer (Err fault) before after (RuledDone ruled) h = absurd h
of_answer (Err fault) before after (Swept points) h = absurd h
of_answer (Err fault) before after (Advised advice) h = absurd h
of_answer (Err fault) before after (Benched bench) h = absurd h
of_answer words before after done h = λ e. omega arith

pub gap : {words : List (List ℕ)} {before after : Outside} {done : Done} → IsRun words before after done → GapIsTrue (command_of words) done
gap {words = words} {before = before} {after = after} {done = done} run = of_answer (command_of words) before after done (answer run)
