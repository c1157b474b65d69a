-- Laws of answers.
use Rattle.std.specs.Prelude.{◌≡◌, ◌≢◌, ◌↔◌, ℕ, ◌+◌, ◌≤◌, List, ◌++◌, decimal, slice_get, Some}
use Rattle.adv_shelf.specs.Shelf.{Files}
use Rattle.bip_model.specs.declared.point.Point.{Point}
use Rattle.report.specs.declared.done.Done.{Done}
use Rattle.report.specs.declared.done.Done.TheVariants.{Refused, Ruled as RuledDone, Swept, Checked}
use Rattle.report.specs.declared.done.Refusal.{Refusal}
use Rattle.report.specs.declared.done.Ruled.{Ruled as UnderRules}
use Rattle.cophy_core.specs.Answers.{Answers}
use Rattle.command_line.specs.CommandLine.{PlainCommand, Ruled, Sweep, Check, CheckRuled}
use Rattle.command_line.specs.Spellings.{IsInRange}
use Rattle.cophy_core.specs.Endings.{Put, put_all}
use Rattle.cophy_core.specs.Replies.{ArePuts}

-- where the shelf tells its files and a command is refused over them, it has no other refusal and no other answer
abbrev pub RefusalsStandAlone : Type 0
RefusalsStandAlone =
    (command : PlainCommand) (files : Files) (why : Refusal) (done : Done) →
    Answers command (Some files) (Refused why) → Answers command (Some files) done → done ≡ Refused why

-- where the shelf tells its files, `check` has one answer over them, and so has `check-ruled`
abbrev pub ChecksStandAlone : Type 0
ChecksStandAlone =
    (cat load cert : List ℕ) (files : Files) (done other : Done) →
    Answers (Check cat load cert) (Some files) done → Answers (Check cat load cert) (Some files) other → done ≡ other

abbrev pub RuledChecksStandAlone : Type 0
RuledChecksStandAlone =
    (cat load rules cert : List ℕ) (files : Files) (done other : Done) →
    Answers (CheckRuled cat load rules cert) (Some files) done → Answers (CheckRuled cat load rules cert) (Some files) other → done ≡ other

-- The certificate of advice under rules was put into a file that is none of those that were read: then `check-ruled` of these
-- and of that one finds the budget, the cost and the bound proved, and nothing else.
abbrev pub RuledAreAccepted : Type 0
RuledAreAccepted =
    (cat load rules file : List ℕ) (budget nodes : ℕ) (files : Files) (words : List (List ℕ)) (under : UnderRules) (puts : List Put) (text : List ℕ) (done : Done) →
    ArePuts (Ruled cat load budget rules nodes (Some file)) (Some files) words (RuledDone under) puts text → file ≢ cat → file ≢ load → file ≢ rules →
    Answers (CheckRuled cat load rules file) (put_all (Some files) puts) done
    ↔ (done ≡ Checked (record { budget = budget; cost = under.advice.answer.cost; bound = under.advice.answer.bound }))

-- The certificates of a sweep, whose budgets and nodes are in their ranges, were put into files that are none of those that were
-- read: then `check` of these and of the file of a point finds that point's budget, cost and bound proved, and nothing else.
abbrev pub SweptAreAccepted : Type 0
SweptAreAccepted =
    (cat load prefix : List ℕ) (first step count nodes : ℕ) (files : Files) (words : List (List ℕ)) (points : List Point) (puts : List Put) (text : List ℕ) (i : ℕ) (point : Point) (done : Done) →
    ArePuts (Sweep cat load first step count nodes (Some prefix)) (Some files) words (Swept points) puts text →
    IsInRange (Sweep cat load first step count nodes (Some prefix)) →
    ((k : ℕ) → 1 ≤ k → k ≤ count → (prefix ++ decimal k ≢ cat) × (prefix ++ decimal k ≢ load)) → slice_get points i ≡ Some point →
    Answers (Check cat load (prefix ++ decimal (i + 1))) (put_all (Some files) puts) done
    ↔ (done ≡ Checked (record { budget = point.budget; cost = point.answer.cost; bound = point.answer.bound }))
