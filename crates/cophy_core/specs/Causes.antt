-- When each answer comes, and what it says.
use Rattle.std.specs.Prelude.{◌≡◌, ℕ, ◌+◌, ◌-◌, ◌*◌, ◌^◌, ◌<◌, if◌then◌else◌, ℤ, pos, ◌<ℤ◌, ◌⊎◌, max, List, [], ◌∷◌, length, slice_get, All, Option, Some, Result, Ok, Err}
use Rattle.adv_base.specs.declared.limits.TheConstants.{MOST_CANDIDATES, MOST_INDEXES, MOST_UPKEEP}
use Rattle.adv_shelf.specs.Faults.{Rose}
use Rattle.adv_shelf.specs.Shelf.{Files}
use Rattle.adv_shelf.specs.Sink.{append_to}
use Rattle.bip_model.specs.Proves.{free_node}
use Rattle.bip_model.specs.declared.answer.Answer.{Answer}
use Rattle.bip_model.specs.declared.point.Point.{Point}
use Rattle.plan_model.specs.declared.plan.TheConstants.{MOST_COST, MOST_TOTAL}
use Rattle.report.specs.Advices.{advices, EachAdvice, SomeAdvice}
use Rattle.report.specs.Sweeps.{has_no_gap, have_no_gap}
use Rattle.report.specs.declared.done.Advice.{Advice}
use Rattle.report.specs.declared.done.Done.{Done}
use Rattle.report.specs.declared.done.Done.TheVariants.{Usage, ReadFault, WriteFault, Refused, Memory, Priced, Explained as ExplainedDone, Swept, Checked as CheckedDone, NotProved as NotProvedDone, Folded as FoldedDone}
use Rattle.report.specs.declared.done.NotProved.{NotProved}
use Rattle.command_line.specs.declared.fault.WordFault.{WordFault}
use Rattle.cophy_core.specs.Answers.{Answers, OfSetting}
use Rattle.command_line.specs.CommandLine.{PlainCommand, command_of, Sweep, Check, CheckRuled}
use Rattle.cophy_core.specs.Files.{IsReadFault, input}
use Rattle.cophy_core.specs.commands.{files_of}
use Rattle.cophy_core.specs.Endings.{Outside}
use Rattle.cophy_core.specs.Left.{PutsFileTo, IsCutShort}
use Rattle.cophy_core.specs.commands.Check as check
use Rattle.cophy_core.specs.commands.CheckRuled as check_ruled
use Rattle.cophy_core.specs.Replies.{MayAnswerWords, IsTextTo}

-- the exit status of a search: 1 where its bound isn't its cost
abbrev pub gap_status : ℕ → ℤ → ℕ
gap_status cost bound = if has_no_gap cost bound then 0 else 1

-- that of searches, the greatest of theirs
abbrev pub search_status : List Advice → ℕ
search_status [] = 0
search_status (advice ∷ []) = gap_status advice.answer.cost advice.answer.bound
search_status (advice ∷ other ∷ more) = max (gap_status advice.answer.cost advice.answer.bound) (search_status (other ∷ more))

-- that of a sweep: 1 where at some point the greatest bound isn't the least cost
abbrev pub sweep_status : List Point → ℕ
sweep_status points = if have_no_gap points then 0 else 1

-- the exit status of an answer; where nothing failed, that of its searches
abbrev pub status_of : Done → ℕ
status_of (Usage fault) = 2
status_of (ReadFault role) = 3
status_of WriteFault = 4
status_of (Refused why) = 5
status_of (NotProvedDone why) = 6
status_of Memory = 7
status_of (Swept points) = sweep_status points
status_of done = search_status (advices done)

-- The search of at most so many nodes gave up: its bound is below its cost, its tree has as many nodes as it might have or one
-- less, and these were fewer than a whole tree over the useful candidates has.
pub record HasGivenUp (nodes : ℕ) (answer : Answer) : Type 0 where
  pub below : answer.bound <ℤ pos answer.cost
  pub spent : (length answer.tree ≡ nodes) ⊎ (length answer.tree + 1 ≡ nodes)
  pub fewer : nodes < 2 ^ (answer.useful + 1) - 1

-- at some point of a sweep the greatest bound is below the least cost, and its search gave up
pub record HasGapPoint (nodes : ℕ) (points : List Point) : Type 0 where
  pub at : ℕ
  pub point : Point
  pub found : slice_get points at ≡ Some point
  pub below : point.low <ℤ pos point.best
  pub given_up : HasGivenUp nodes point.answer

-- so it is with the nodes that the words say
abbrev pub HasGapPointBy : Result PlainCommand WordFault → List Point → Type 0
HasGapPointBy (Ok (Sweep cat load first step count nodes cert)) points = HasGapPoint nodes points
HasGapPointBy words points = ⊥

-- status 1 is that of advice, of which there may be several, or of a sweep, and comes only where a search gave up
abbrev pub GapIsTrue : Result PlainCommand WordFault → Done → Type 0
GapIsTrue words (Swept points) = sweep_status points ≡ 1 → HasGapPointBy words points
GapIsTrue words done = status_of done ≡ 1 → SomeAdvice (λ advice. HasGivenUp advice.nodes advice.answer) (advices done)

-- this answer, or want of memory
abbrev pub IsOrMemory : Done → Done → Type 0
IsOrMemory wanted done = (done ≡ wanted) ⊎ (done ≡ Memory)

-- the count didn't rise
abbrev pub IsSteady : ℕ → ℕ → Type 0
IsSteady before after = Rose before after → ⊥

-- The answer is a write fault, or what may be answered to the words. What is said below of each other answer follows from
-- this, and from when a write fault comes.
abbrev pub IsAnswered : Result PlainCommand WordFault → Outside → Outside → Done → Type 0
IsAnswered words before after WriteFault = Unit {0}
IsAnswered words before after done = MayAnswerWords words before.files before.reads after.reads done

-- a fault of the words comes only where they have it first
abbrev pub UsageIsTrue : Result PlainCommand WordFault → Done → Type 0
UsageIsTrue words (Usage fault) = words ≡ Err fault
UsageIsTrue words done = Unit {0}

-- a read fault comes only where the command reads that file, those before it are whole, and the counts rose
abbrev pub ReadFaultIsTrue : Result PlainCommand WordFault → Outside → Outside → Done → Type 0
ReadFaultIsTrue words before after (ReadFault role) =
    (command : PlainCommand) × (words ≡ Ok command) × IsReadFault before.files (files_of command) before.reads after.reads role
ReadFaultIsTrue words before after done = Unit {0}

-- a write fault comes only where the count of the sink's faults rose, or the command puts files and that of failed puts did
abbrev pub WriteFaultIsTrue : Result PlainCommand WordFault → Outside → Outside → Done → Type 0
WriteFaultIsTrue words before after WriteFault =
    Rose before.faults after.faults ⊎ (PutsFileTo words × Rose before.put_faults after.put_faults)
WriteFaultIsTrue words before after done = Unit {0}

-- a refusal comes only where it is the first of a command's files
abbrev pub RefusalIsTrue : Result PlainCommand WordFault → Option Files → Done → Type 0
RefusalIsTrue words files (Refused why) = (command : PlainCommand) × (words ≡ Ok command) × Answers command files (Refused why)
RefusalIsTrue words files done = Unit {0}

-- the command checks a certificate, nothing is refused, and the certificate's file proves nothing of the setting: this is
-- why, first
abbrev pub FirstFails : PlainCommand → Option Files → NotProved → Type 0
FirstFails (Check cat load cert) files why =
    OfSetting files (Check cat load cert) (λ inputs setting. check.ProvesNothing setting free_node (input inputs 2) why)
FirstFails (CheckRuled cat load rules cert) files why =
    OfSetting files (CheckRuled cat load rules cert) (λ inputs setting. check_ruled.ProvesNothing (input inputs 2) (input inputs 3) setting why)
FirstFails command files why = ⊥

-- the words are such a command
pub record IsUnproved (words : Result PlainCommand WordFault) (files : Option Files) (why : NotProved) : Type 0 where
  pub command : PlainCommand
  pub words_are : words ≡ Ok command
  pub first : FirstFails command files why

-- a certificate is said to prove nothing only so
abbrev pub NotProvedIsTrue : Result PlainCommand WordFault → Option Files → Done → Type 0
NotProvedIsTrue words files (NotProvedDone why) = IsUnproved words files why
NotProvedIsTrue words files done = Unit {0}

-- where memory ran out, nothing was written
abbrev pub MemoryWritesNothing : Option (List ℕ) → Option (List ℕ) → Done → Type 0
MemoryWritesNothing old new Memory = new ≡ old
MemoryWritesNothing old new done = Unit {0}

-- every answer but a read fault, a write fault and want of memory is the command's over the files
abbrev pub IsSound : PlainCommand → Option Files → Done → Type 0
IsSound command files (ReadFault role) = Unit {0}
IsSound command files WriteFault = Unit {0}
IsSound command files Memory = Unit {0}
IsSound command files done = Answers command files done

-- All of an answer's text came behind what was written. Where a write failed, a prefix of that of a reply did, for which the
-- files were put; where a put failed, nothing was written.
abbrev pub IsWritten : List (List ℕ) → Outside → Outside → Done → Type 0
IsWritten words before after WriteFault = IsCutShort words before after WriteFault
IsWritten words before after done =
    (text : List ℕ) × (IsTextTo (command_of words) before.files words done text × (after.written ≡ append_to before.written text))

-- a statement costs less than this: a plan, and the upkeep of all indexes
abbrev pub most_statement_cost : ℕ
most_statement_cost = MOST_COST + (MOST_INDEXES + MOST_CANDIDATES) * MOST_UPKEEP

-- each cost of a plan is below 10^21, that of a statement is no more than upkeep above it, each total is below 10^31
abbrev pub IsBounded : Done → Type 0
IsBounded (Priced prices) = All (λ cost. cost < most_statement_cost) prices.costs × (prices.total < MOST_TOTAL)
IsBounded (ExplainedDone explained) = explained.cost < MOST_COST
IsBounded (CheckedDone checked) = checked.cost < MOST_TOTAL
IsBounded (Swept points) = (i : ℕ) (point : Point) → slice_get points i ≡ Some point → point.answer.cost < MOST_TOTAL
IsBounded (FoldedDone folded) = folded.total < MOST_TOTAL
IsBounded done = EachAdvice (λ advice. advice.answer.cost < MOST_TOTAL) (advices done)
