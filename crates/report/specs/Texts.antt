-- The texts that stand for answers. Each line ends with a line feed.
use Rattle.std.specs.Str.{bytes_eq}
use Rattle.std.specs.Prelude.{◌≡◌, ℕ, ◌+◌, ◌<◌, ◌≤◌, if◌then◌else◌, ℤ, pos, ◌≤ℤ◌, All, List, [], ◌∷◌, ◌++◌, length, codes, Option, Some, None, slice_get, unwrap_or}
use Rattle.adv_base.specs.declared.workload.Statement.{Statement}
use Rattle.adv_base.specs.declared.catalogue.Catalogue.{Catalogue as TheCatalogue}
use Rattle.adv_base.specs.declared.limits.TheConstants.{MOST_CANDIDATES}
use Rattle.adv_base.specs.Named.{NamesShape}
use Rattle.binder.specs.declared.fault.BindFault.{BindFault}
use Rattle.binder.specs.declared.fault.BindFault.TheVariants as bind
use Rattle.candidates.specs.declared.answer.Candidates.{Candidates}
use Rattle.catalogue.specs.declared.fault.CatFault.{CatFault}
use Rattle.catalogue.specs.declared.fault.CatFault.TheVariants as cat
use Rattle.dba_rules.specs.declared.fault.RuleFault.{RuleFault}
use Rattle.dba_rules.specs.declared.fault.RuleFault.TheVariants as rules
use Rattle.gap_checker.specs.declared.fault.Checked.{Checked}
use Rattle.gap_checker.specs.declared.fault.CheckFault.{CheckFault}
use Rattle.gap_checker.specs.declared.fault.CheckFault.TheVariants as check
use Rattle.plan_model.specs.declared.plan.TheConstants.{MOST_TOTAL}
use Rattle.sql_reader.specs.declared.parsed.SqlFault.{SqlFault}
use Rattle.sql_reader.specs.declared.parsed.SqlFault.TheVariants as sql
use Rattle.report.specs.declared.done.Advice.{Advice}
use Rattle.report.specs.declared.done.Bench.{Bench}
use Rattle.report.specs.declared.done.Done.{Done}
use Rattle.report.specs.declared.done.Done.TheVariants.{Usage, ReadFault, Refused, Priced, Listed, Explained as ExplainedDone, Advised, Ruled as RuledDone, Swept, Retuned, Checked as CheckedDone, NotProved as NotProvedDone, Folded, Benched}
use Rattle.report.specs.declared.done.EditFault.{EditFault}
use Rattle.report.specs.declared.done.EditFault.TheVariants as edit
use Rattle.report.specs.declared.done.Explained.{Explained}
use Rattle.report.specs.declared.done.FoldDone.{FoldDone}
use Rattle.report.specs.declared.done.Ruled.{Ruled}
use Rattle.report.specs.declared.done.NotProved.{NotProved}
use Rattle.report.specs.declared.done.NotProved.TheVariants.{Malformed, Disobeys, Fault}
use Rattle.report.specs.declared.done.Prices.{Prices}
use Rattle.report.specs.declared.done.Refusal.{Refusal}
use Rattle.report.specs.declared.done.Refusal.TheVariants.{TooLong, Cat, Sql, Bind, NoStatement, BadConf, Rules, TooManyCombinations, FoldTooLong, Edit}
use Rattle.report.specs.declared.done.Role.{Role}
use Rattle.report.specs.declared.done.Role.TheVariants.{Catalogue, Workload, Third, Fourth}
use Rattle.report.specs.declared.done.Tuned.{Tuned}
use Rattle.command_line.specs.declared.fault.WordFault.{WordFault}
use Rattle.command_line.specs.declared.fault.WordFault.TheVariants.{NoCommand, UnknownCommand, Missing, Extra, UnknownOption, Twice, BadNumber}
use Rattle.report.specs.Advised.{advice_text}
use Rattle.report.specs.Advices.{advices, EachAdvice}
use Rattle.report.specs.Listings.{candidate_lines}
use Rattle.report.specs.Paths.{path_text}
use Rattle.report.specs.Retuned.{retuned_text}
use Rattle.report.specs.Sweeps.{swept_text}
use Rattle.report.specs.Words.{numbered, signed, line}
use Rattle.adv_base.specs.Settings.{TheSetting}

-- a fault of the words, behind `usage: `
abbrev pub word_fault : WordFault → List ℕ
word_fault NoCommand = codes "no command"
word_fault (UnknownCommand w) = numbered (codes "unknown command at word ") w
word_fault (Missing w) = numbered (codes "missing word ") w
word_fault (Extra w) = numbered (codes "extra word ") w
word_fault (UnknownOption w) = numbered (codes "unknown option at word ") w
word_fault (Twice w) = numbered (codes "option twice at word ") w
word_fault (BadNumber w) = numbered (codes "bad number at word ") w

-- `ruled` has its budget before its third file
abbrev pub third_word : Option (List ℕ) → ℕ
third_word None = 3
third_word (Some command) = if bytes_eq command (codes "ruled") then 4 else 3

-- the word that names a file
abbrev pub role_word : List (List ℕ) → Role → ℕ
role_word words Catalogue = 1
role_word words Workload = 2
role_word words Third = third_word (slice_get words 0)
role_word words Fourth = 4

-- the file's name, as the words give it
unfoldable pub file_name : List (List ℕ) → Role → List ℕ
file_name words role = unwrap_or (slice_get words (role_word words role)) []

abbrev pub cat_fault : CatFault → List ℕ
cat_fault cat.Memory = []
cat_fault cat.NotToml = codes "not toml"
cat_fault (cat.Missing path) = codes "missing " ++ path_text path
cat_fault (cat.WrongKind path) = codes "wrong kind " ++ path_text path
cat_fault (cat.OutOfRange path) = codes "out of range " ++ path_text path
cat_fault (cat.TwoNames path) = codes "name twice " ++ path_text path
cat_fault (cat.UnknownName path) = codes "unknown name " ++ path_text path

abbrev pub sql_fault : SqlFault → List ℕ
sql_fault sql.Memory = []
sql_fault (sql.BadByte p) = numbered (codes "bad byte at ") p
sql_fault (sql.OpenText p) = numbered (codes "open text at ") p
sql_fault (sql.Syntax p) = numbered (codes "syntax at ") p
sql_fault (sql.Unsupported p) = numbered (codes "unsupported at ") p
sql_fault (sql.BadWeight p) = numbered (codes "bad weight at ") p
sql_fault (sql.TooManyStatements p) = numbered (codes "more than 1000 statements at ") p

abbrev pub bind_fault : BindFault → List ℕ
bind_fault bind.Memory = []
bind_fault (bind.NoTable p) = numbered (codes "no table at ") p
bind_fault (bind.NoColumn p) = numbered (codes "no column at ") p
bind_fault (bind.Ambiguous p) = numbered (codes "ambiguous at ") p
bind_fault (bind.TwoAliases p) = numbered (codes "alias twice at ") p
bind_fault (bind.TooManySlots p) = numbered (codes "more than 8 slots at ") p
bind_fault (bind.Unjoined p) = numbered (codes "unjoined at ") p
bind_fault (bind.TooManySlotsInAll p) = numbered (codes "more than 2000 slots at ") p

abbrev pub rule_fault : RuleFault → List ℕ
rule_fault rules.Memory = []
rule_fault (rules.BadLine number) = numbered (codes "rules line ") number
rule_fault (rules.NoTable number) = numbered (codes "rules no table at line ") number
rule_fault (rules.NoColumn number) = numbered (codes "rules no column at line ") number
rule_fault (rules.NotCandidate number) = numbered (codes "rules no candidate at line ") number
rule_fault (rules.Contrary number candidate) = numbered (codes "rules line ") number ++ numbered (codes " contradicts on ") candidate
rule_fault (rules.TooLarge size budget) = numbered (codes "rules need ") size ++ numbered (codes " over ") budget
rule_fault (rules.Clash first second) = numbered (codes "rules clash on ") first ++ numbered (codes " and ") second

-- how many combinations of interesting orders a statement has
abbrev pub combinations : ℕ → ℕ → List ℕ
combinations number count = numbered (codes "statement ") number ++ (numbered (codes " has ") count ++ codes " combinations")

abbrev pub edit_fault : EditFault → List ℕ
edit_fault edit.BadLine = codes "bad line"
edit_fault (edit.Sql fault) = sql_fault fault
edit_fault (edit.Bind fault) = bind_fault fault
edit_fault (edit.NoStatement number) = numbered (codes "no statement ") number
edit_fault edit.TooManyStatements = codes "more than 1000 statements"
edit_fault edit.TooManySlots = codes "more than 2000 slots"
edit_fault (edit.TooManyCombinations number count) = combinations number count

-- a refusal, behind `refused: `
abbrev pub refusal : List (List ℕ) → Refusal → List ℕ
refusal words (TooLong role) = codes "too long " ++ file_name words role
refusal words (Cat fault) = cat_fault fault
refusal words (Sql fault) = sql_fault fault
refusal words (Bind fault) = bind_fault fault
refusal words (NoStatement n count) = numbered (codes "no statement ") n ++ numbered (codes " of ") count
refusal words (BadConf line) = numbered (codes "configuration line ") line
refusal words (Rules fault) = rule_fault fault
refusal words (TooManyCombinations n count) = combinations n count
refusal words (FoldTooLong length) = numbered (codes "folded workload too long ") length
refusal words (Edit number fault) = numbered (codes "edit line ") number ++ (codes ": " ++ edit_fault fault)

-- the pages of a configuration, where there is one
abbrev pub size_line : Option ℕ → List ℕ
size_line None = []
size_line (Some size) = line (numbered (codes "size ") size)

unfoldable pub cost_line : ℕ → ℕ → ℕ → List ℕ
cost_line number weight cost =
    line (numbered (codes "statement ") number ++ (numbered (codes " weight ") weight ++ numbered (codes " cost ") cost))

-- a line for each statement, from that number on, with its weight and its cost
unfoldable pub cost_lines : ℕ → List Statement → List ℕ → List ℕ
cost_lines number statements [] = []
cost_lines number [] (cost ∷ costs) = []
cost_lines number (statement ∷ statements) (cost ∷ costs) =
    cost_line number statement.weight cost ++ cost_lines (number + 1) statements costs

abbrev pub prices_text : List Statement → Prices → List ℕ
prices_text statements prices =
    size_line prices.size ++ (cost_lines 1 statements prices.costs ++ line (numbered (codes "total ") prices.total))

-- what a plan costs; an INSERT has none
abbrev pub plan_part : Explained → List ℕ
plan_part explained = if_planned explained.plan explained.cost
  where
    if_planned : {A : Type 0} → Option A → ℕ → List ℕ
    if_planned None cost = codes " insert"
    if_planned (Some plan) cost = numbered (codes " plan ") cost

-- the line of a statement and the lines of its plan
abbrev pub explained_text : Explained → List ℕ
explained_text explained =
    line (numbered (codes "statement ") explained.number ++ (plan_part explained ++ numbered (codes " upkeep ") explained.upkeep))
    ++ explained.text

-- the statements of a setting, where there is one
abbrev pub statements_in : Option TheSetting → List Statement
statements_in None = []
statements_in (Some setting) = setting.statements

-- a line for each candidate, with the names of the setting's catalogue, and how many more there were
abbrev pub listed_text : Option TheSetting → Candidates → List ℕ
listed_text None found = []
listed_text (Some setting) found =
    candidate_lines setting.cat 1 found.list ++ line (numbered (codes "left over ") found.left_over)

-- over the setting that is there
abbrev pub advised_text : Option TheSetting → Advice → List ℕ
advised_text None advice = []
advised_text (Some setting) advice = advice_text setting.cat setting.shapes advice

-- how many candidates rules make in, and how many out
abbrev pub rules_text : ℕ → ℕ → List ℕ
rules_text must never = line (numbered (codes "must ") must ++ numbered (codes " never ") never)

-- advice under rules
abbrev pub ruled_text : Option TheSetting → Ruled → List ℕ
ruled_text setting ruled = rules_text ruled.must ruled.never ++ advised_text setting ruled.advice

-- how many statements there were, how many there are, and what both workloads cost
abbrev pub folding_text : FoldDone → List ℕ
folding_text folded =
    line (numbered (codes "statements ") folded.statements
    ++ (numbered (codes " folded ") folded.groups ++ numbered (codes " total ") folded.total))

-- how large a made workload is
abbrev pub sizes_text : ℕ → ℕ → ℕ → List ℕ
sizes_text tables statements slots =
    line (numbered (codes "tables ") tables)
    ++ (line (numbered (codes "statements ") statements) ++ line (numbered (codes "slots ") slots))

-- advice on a made workload
abbrev pub benched_text : Option TheSetting → Bench → List ℕ
benched_text setting bench = sizes_text bench.tables bench.statements bench.slots ++ advised_text setting bench.advice

-- a bound under a budget
unfoldable pub bound_words : ℤ → ℕ → List ℕ
bound_words bound budget = signed (codes " bound ") bound ++ numbered (codes " budget ") budget

-- what a certificate proves
unfoldable pub proved_words : Checked → List ℕ
proved_words checked = numbered (codes "proved cost ") checked.cost ++ bound_words checked.bound checked.budget

abbrev pub checked_text : Checked → List ℕ
checked_text checked = line (proved_words checked)

-- where a certificate first fails to be a proof
abbrev pub check_fault : CheckFault → List ℕ
check_fault check.Memory = []
check_fault (check.BadConfig number) = numbered (codes "no candidate ") number
check_fault (check.OverBudget size budget) = numbered (codes "size ") size ++ numbered (codes " over ") budget
check_fault (check.CostDiffers claimed computed) = numbered (codes "cost ") claimed ++ numbered (codes " computed ") computed
check_fault (check.BadPair set entry) =
    (numbered (codes "set ") set ++ numbered (codes " entry ") entry) ++ codes " names no pair"
check_fault (check.BadBranch node) = numbered (codes "branch at node ") node
check_fault (check.LeafBelow node computed claimed) =
    numbered (codes "leaf ") node ++ (signed (codes " has ") computed ++ signed (codes " below ") claimed)
check_fault (check.NotInfeasible node size) = numbered (codes "leaf ") node ++ numbered (codes " has size ") size
check_fault (check.Clash first second) = (numbered (codes "candidates ") first ++ numbered (codes " and ") second) ++ codes " clash"

-- why a certificate proves nothing, behind `not proved: `
abbrev pub not_proved : NotProved → List ℕ
not_proved (Malformed number) = numbered (codes "malformed at line ") number
not_proved (Disobeys number) = numbered (codes "candidate ") number ++ codes " breaks a rule"
not_proved (Fault fault) = check_fault fault

-- the text of an answer to these words, over the setting of which it speaks
abbrev pub done_text : List (List ℕ) → Option TheSetting → Done → List ℕ
done_text words setting (Usage fault) = line (codes "usage: " ++ word_fault fault)
done_text words setting (ReadFault role) = line (codes "read fault: " ++ file_name words role)
done_text words setting (Refused why) = line (codes "refused: " ++ refusal words why)
done_text words setting (Priced prices) = prices_text (statements_in setting) prices
done_text words setting (Listed found) = listed_text setting found
done_text words setting (ExplainedDone explained) = explained_text explained
done_text words setting (Advised advice) = advised_text setting advice
done_text words setting (RuledDone ruled) = ruled_text setting ruled
done_text words setting (Swept points) = swept_text setting points
done_text words setting (Retuned tuned) = retuned_text setting tuned
done_text words setting (CheckedDone checked) = checked_text checked
done_text words setting (NotProvedDone why) = line (codes "not proved: " ++ not_proved why)
done_text words setting (Folded folded) = folding_text folded
done_text words setting (Benched bench) = benched_text setting bench
done_text words setting done = []

-- candidates name what the catalogue of their setting has
abbrev pub AreNamedIn : Option TheSetting → Candidates → Type 0
AreNamedIn None found = ⊥
AreNamedIn (Some setting) found = All (NamesShape setting.cat) found.list

-- a total that is within its limit, and a bound of at most that
pub record IsBoundedBy (cost : ℕ) (bound : ℤ) : Type 0 where
  pub small : cost < MOST_TOTAL
  pub most : bound ≤ℤ pos cost

-- there is a setting that the advice is of
abbrev pub IsAdvice : Option TheSetting → Advice → Type 0
IsAdvice None advice = ⊥
IsAdvice (Some setting) advice = IsBoundedBy advice.answer.cost advice.answer.bound

-- advice that has a bound of at most its cost, over candidates that name what the catalogue has
pub record FitsCatalogue (cat : TheCatalogue) (tuned : Tuned) : Type 0 where
  pub named : All (NamesShape cat) tuned.shapes
  pub few : length tuned.shapes ≤ MOST_CANDIDATES
  pub bounded : IsBoundedBy tuned.advice.answer.cost tuned.advice.answer.bound

-- so is each of them, over the catalogue of their setting
abbrev pub FitCatalogueOf : Option TheSetting → List Tuned → Type 0
FitCatalogueOf None tuned = ⊥
FitCatalogueOf (Some setting) tuned = All (FitsCatalogue setting.cat) tuned

-- Prices have a cost for each statement of their setting, candidates are of its catalogue, and each advice has a bound of at
-- most its cost.
abbrev pub FitsSetting : Option TheSetting → Done → Type 0
FitsSetting setting (Priced prices) = length prices.costs ≡ length (statements_in setting)
FitsSetting setting (Listed found) = AreNamedIn setting found
FitsSetting setting (Retuned tuned) = FitCatalogueOf setting tuned
FitsSetting setting done = EachAdvice (IsAdvice setting) (advices done)
