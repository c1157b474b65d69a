-- A command that is refused over its files has no other answer, and a check has one.
use Rattle.std.proofs.Common.{◌≡◌, ℕ, ◌≤◌, List, length, Some, Ok, Err, sym, ap, subst, ◌∙◌, arith}
use Rattle.adv_base.specs.declared.catalogue.Catalogue.{Catalogue}
use Rattle.adv_base.specs.declared.limits.TheConstants.{MOST_CANDIDATES}
use Rattle.adv_base.specs.Settings.{TheSetting}
use Rattle.adv_shelf.specs.Shelf.{Files}
use Rattle.binder.specs.Plain.{plain_statements}
use Rattle.binder.specs.Statements.{statements_of}
use Rattle.binder.specs.declared.fault.BindFault.{BindFault}
use Rattle.catalogue.specs.declared.fault.CatFault.{CatFault}
use Rattle.report.specs.declared.done.Done.{Done}
use Rattle.report.specs.declared.done.Done.TheVariants.{Refused, Priced, Explained, Advised, Ruled as RuledDone, Swept, Retuned, Folded, Benched}
use Rattle.report.specs.declared.done.Refusal.{Refusal}
use Rattle.report.specs.declared.done.Refusal.TheVariants.{TooLong, Cat, Sql, Bind, NoStatement, BadConf, Rules, TooManyCombinations, FoldTooLong}
use Rattle.report.specs.declared.done.Role.{Role}
use Rattle.sql_reader.proofs.Unique.{one_workload, workload_or_fault, one_sql_fault}
use Rattle.sql_reader.specs.declared.parsed.ParsedStatement.{ParsedStatement}
use Rattle.sql_reader.specs.declared.parsed.SqlFault.{SqlFault}
use Rattle.cophy_core.specs.Answers.{OfFiles, OfSetting, Answers}
use Rattle.cophy_core.specs.commands.{RefusesOver, GivesOver, files_of}
use Rattle.command_line.specs.CommandLine.{PlainCommand, WhatIf, Explain, Advise, Ruled, Sweep, Retune, Check, CheckRuled, Fold, Bench}
use Rattle.cophy_core.specs.Files.{InputFile, AreInputs, IsTooLong, input}
use Rattle.cophy_core.specs.Inputs.{HasInputs}
use Rattle.cophy_core.specs.Settings.{IsCatalogueOf, IsSetting, HasCatFault, IsSqlRefusal, IsBindRefusal}
use Rattle.cophy_core.specs.commands.Check.{OneAnswer}
use Rattle.cophy_core.specs.commands.CheckRuled as check_ruled
use Rattle.cophy_core.proofs.Combinations.{none_beyond, one_beyond}
use Rattle.cophy_core.proofs.FilesRead.{one_each, none_long, one_long}
use Rattle.cophy_core.proofs.Folding.{one_length, long_or_folded}
use Rattle.cophy_core.proofs.Lines.{not_nothing, conf_or_fault, one_conf_fault}
use Rattle.cophy_core.proofs.Obeying.{not_both, one_rule_fault, faulty_or_root}
use Rattle.cophy_core.proofs.Retuning.{one_retune_refusal, refused_or_tuned}
use Rattle.cophy_core.proofs.OneSetting.{one_catalogue, one_setting, few_shapes}

-- ## The bytes that a command answers from

pub one_inputs : (command : PlainCommand) (files : Files) (xs ys : List (List ℕ)) → HasInputs (Some files) command xs → HasInputs (Some files) command ys → xs ≡ ys
one_inputs (Bench seed tables statements budget) files xs ys a b = a ∙ sym b
one_inputs command files xs ys a b = one_each files (files_of command) xs ys a b

none_too_long : (files : Files) (uses : List InputFile) (role : Role) (inputs : List (List ℕ)) → IsTooLong (Some files) uses role → AreInputs (Some files) uses inputs → ⊥
none_too_long files uses role inputs long are =
    none_long files long.front long.rest long.file inputs (subst (λ (us : List InputFile). AreInputs (Some files) us inputs) long.uses_are are) long.bad.long

-- a command with a file that is too long answers from no bytes
no_inputs : (command : PlainCommand) (files : Files) (role : Role) (inputs : List (List ℕ)) → IsTooLong (Some files) (files_of command) role → HasInputs (Some files) command inputs → ⊥
no_inputs (Bench seed tables statements budget) files role inputs long are = not_nothing long.front long.rest long.file long.uses_are
no_inputs command files role inputs long are = none_too_long files (files_of command) role inputs long are

-- what was found of some bytes holds of these, since there are no others
over_inputs : (command : PlainCommand) (files : Files) (P : List (List ℕ) → Type 0) (inputs : List (List ℕ)) → OfFiles (Some files) command P → HasInputs (Some files) command inputs → P inputs
over_inputs command files P inputs h are = subst P (one_inputs command files h.inputs inputs h.inputs_are are) h.holds

setting_over : (command : PlainCommand) (files : Files) (P : List (List ℕ) → TheSetting → Type 0) (inputs : List (List ℕ)) (h : OfSetting (Some files) command P) → HasInputs (Some files) command inputs → IsSetting (input inputs 0) (input inputs 1) h.setting h.left_over
setting_over command files P inputs h are =
    subst (λ (xs : List (List ℕ)). IsSetting (input xs 0) (input xs 1) h.setting h.left_over) (one_inputs command files h.inputs inputs h.inputs_are are) h.setting_is

-- and so it is with settings
over_setting : (command : PlainCommand) (files : Files) (P Q : List (List ℕ) → TheSetting → Type 0) (x : OfSetting (Some files) command P) (y : OfSetting (Some files) command Q) → P y.inputs y.setting
over_setting command files P Q x y =
    let mine = setting_over command files P y.inputs x y.inputs_are in
    let settings = one_setting (input y.inputs 0) (input y.inputs 1) x.setting y.setting x.left_over y.left_over mine y.setting_is in
    subst (P y.inputs) settings (subst (λ (xs : List (List ℕ)). P xs x.setting) (one_inputs command files x.inputs y.inputs x.inputs_are y.inputs_are) x.holds)

-- ## Faults of the catalogue and of the names

one_cat_fault : (bytes : List ℕ) (fault other : CatFault) → HasCatFault bytes fault → HasCatFault bytes other → other ≡ fault
one_cat_fault bytes fault other a b =
    let mine = a.first in
    let yours = b.first in
    let both : Err other ≡ Err fault = sym yours ∙ mine in
    cc

faulty_or_catalogue : (bytes : List ℕ) (fault : CatFault) (catalogue : Catalogue) → HasCatFault bytes fault → IsCatalogueOf bytes catalogue → ⊥
faulty_or_catalogue bytes fault catalogue a b = let mine = a.first in let yours = b in cc

-- the names of a workload have one first fault
one_bind_fault : (cat load : List ℕ) (fault other : BindFault) → IsBindRefusal cat load fault → IsBindRefusal cat load other → other ≡ fault
one_bind_fault cat load fault other a b =
    let cats = one_catalogue cat a.catalogue b.catalogue a.catalogue_is b.catalogue_is in
    let parsed = one_workload load a.first.parsed b.first.parsed a.first.is_workload b.first.is_workload in
    let mine : statements_of b.catalogue load b.first.parsed ≡ Err fault = subst (λ (c : Catalogue). statements_of c load b.first.parsed ≡ Err fault) cats (subst (λ (ps : List ParsedStatement). statements_of a.catalogue load ps ≡ Err fault) parsed a.first.first) in
    let both : Err other ≡ Err fault = sym b.first.first ∙ mine in
    cc

-- what has one is no setting
unbound_or_setting : (cat load : List ℕ) (fault : BindFault) (setting : TheSetting) (left_over : ℕ) → IsBindRefusal cat load fault → IsSetting cat load setting left_over → ⊥
unbound_or_setting cat load fault setting left_over a b =
    let cats = one_catalogue cat a.catalogue setting.cat a.catalogue_is b.catalogue_is in
    let parsed = one_workload load a.first.parsed b.statements_are.parsed a.first.is_workload b.statements_are.is_workload in
    let mine : statements_of setting.cat load b.statements_are.parsed ≡ Err fault = subst (λ (c : Catalogue). statements_of c load b.statements_are.parsed ≡ Err fault) cats (subst (λ (ps : List ParsedStatement). statements_of a.catalogue load ps ≡ Err fault) parsed a.first.first) in
    let both : Err fault ≡ Ok (plain_statements setting.statements) = sym mine ∙ b.statements_are.bound in
    cc

-- ## What a command refuses by itself

too_many_same : (setting : TheSetting) (n m count other : ℕ) → (n ≡ m) × (count ≡ other) → TooManyCombinations m other ≡ TooManyCombinations n count
too_many_same setting n m count other same = let places = same.0 in let counts = same.1 in cc

-- it has one such refusal
one_own : (command : PlainCommand) (inputs : List (List ℕ)) (setting : TheSetting) (why other : Refusal) → length setting.shapes ≤ MOST_CANDIDATES → RefusesOver command inputs setting why → RefusesOver command inputs setting other → other ≡ why
one_own (WhatIf cat load conf) inputs setting (BadConf line) (BadConf told) few a b = ap BadConf (one_conf_fault (length setting.shapes) (input inputs 2) told line (omega (arith, few)) b a)
one_own (WhatIf cat load conf) inputs setting (BadConf line) (TooManyCombinations n count) few a b = absurd (conf_or_fault (length setting.shapes) (input inputs 2) b.config line (omega (arith, few)) b.config_is a)
one_own (WhatIf cat load conf) inputs setting (TooManyCombinations n count) (BadConf line) few a b = absurd (conf_or_fault (length setting.shapes) (input inputs 2) a.config line (omega (arith, few)) a.config_is b)
one_own (WhatIf cat load conf) inputs setting (TooManyCombinations n count) (TooManyCombinations m other) few a b =
    too_many_same setting n m count other (one_beyond setting n m count other a.first b.first)
one_own (WhatIf cat load conf) inputs setting (BadConf line) other few a b = absurd b
one_own (WhatIf cat load conf) inputs setting (TooManyCombinations n count) other few a b = absurd b
one_own (WhatIf cat load conf) inputs setting why other few a b = absurd a
one_own (Explain cat load conf number) inputs setting (NoStatement n count) (NoStatement m other) few a b =
    let mine = a.0 in
    let yours = b.0 in
    let counts = a.1.counts in
    let others = b.1.counts in
    cc
one_own (Explain cat load conf number) inputs setting (NoStatement n count) (BadConf line) few a b = absurd (let none = a.1.beyond in let there = b.statement_is in cc)
one_own (Explain cat load conf number) inputs setting (BadConf line) (NoStatement n count) few a b = absurd (let none = b.1.beyond in let there = a.statement_is in cc)
one_own (Explain cat load conf number) inputs setting (BadConf line) (BadConf told) few a b = ap BadConf (one_conf_fault (length setting.shapes) (input inputs 2) told line (omega (arith, few)) b.first a.first)
one_own (Explain cat load conf number) inputs setting (NoStatement n count) other few a b = absurd b
one_own (Explain cat load conf number) inputs setting (BadConf line) other few a b = absurd b
one_own (Explain cat load conf number) inputs setting why other few a b = absurd a
one_own (Advise cat load budget nodes cert) inputs setting (TooManyCombinations n count) (TooManyCombinations m other) few a b = too_many_same setting n m count other (one_beyond setting n m count other a b)
one_own (Advise cat load budget nodes cert) inputs setting (TooManyCombinations n count) other few a b = absurd b
one_own (Advise cat load budget nodes cert) inputs setting why other few a b = absurd a
one_own (Ruled cat load budget rules nodes cert) inputs setting (Rules fault) (Rules other) few a b = ap Rules (one_rule_fault setting (input inputs 2) budget fault other a b)
one_own (Ruled cat load budget rules nodes cert) inputs setting (Rules fault) (TooManyCombinations n count) few a b = absurd (faulty_or_root setting (input inputs 2) budget fault b.root a b.root_is)
one_own (Ruled cat load budget rules nodes cert) inputs setting (TooManyCombinations n count) (Rules fault) few a b = absurd (faulty_or_root setting (input inputs 2) budget fault a.root b a.root_is)
one_own (Ruled cat load budget rules nodes cert) inputs setting (TooManyCombinations n count) (TooManyCombinations m other) few a b =
    too_many_same setting n m count other (one_beyond setting n m count other a.first b.first)
one_own (Ruled cat load budget rules nodes cert) inputs setting (Rules fault) other few a b = absurd b
one_own (Ruled cat load budget rules nodes cert) inputs setting (TooManyCombinations n count) other few a b = absurd b
one_own (Ruled cat load budget rules nodes cert) inputs setting why other few a b = absurd a
one_own (Sweep cat load first step steps nodes cert) inputs setting (TooManyCombinations n count) (TooManyCombinations m other) few a b = too_many_same setting n m count other (one_beyond setting n m count other a b)
one_own (Sweep cat load first step steps nodes cert) inputs setting (TooManyCombinations n count) other few a b = absurd b
one_own (Sweep cat load first step steps nodes cert) inputs setting why other few a b = absurd a
one_own (Retune cat load edits budget nodes) inputs setting why other few a b = one_retune_refusal (input inputs 2) setting why other a b
one_own (Bench seed tables statements budget) inputs setting (TooManyCombinations n count) (TooManyCombinations m other) few a b = too_many_same setting n m count other (one_beyond setting n m count other a b)
one_own (Bench seed tables statements budget) inputs setting (TooManyCombinations n count) other few a b = absurd b
one_own (Bench seed tables statements budget) inputs setting why other few a b = absurd a
one_own (CheckRuled cat load rules cert) inputs setting (Rules fault) (Rules other) few a b =
    let mine = a.first in
    let yours = b.first in
    let both : Err other ≡ Err fault = sym yours ∙ mine in
    cc
one_own (CheckRuled cat load rules cert) inputs setting (Rules fault) other few a b = absurd b
one_own (CheckRuled cat load rules cert) inputs setting why other few a b = absurd a
one_own (Fold cat load out) inputs setting (FoldTooLong count) (FoldTooLong other) few a b = ap FoldTooLong (one_length (input inputs 1) setting other count b a)
one_own (Fold cat load out) inputs setting (FoldTooLong count) other few a b = absurd b
one_own (Fold cat load out) inputs setting why other few a b = absurd a
one_own command inputs setting why other few a b = absurd a

-- where it refuses it gives nothing
refused_or_given : (command : PlainCommand) (inputs : List (List ℕ)) (setting : TheSetting) (why : Refusal) (done : Done) → length setting.shapes ≤ MOST_CANDIDATES → RefusesOver command inputs setting why → GivesOver command inputs setting done → ⊥
refused_or_given (WhatIf cat load conf) inputs setting (BadConf line) (Priced prices) few a b = conf_or_fault (length setting.shapes) (input inputs 2) b.config line (omega (arith, few)) b.config_is a
refused_or_given (WhatIf cat load conf) inputs setting (TooManyCombinations n count) (Priced prices) few a b = none_beyond setting n count b.few a.first
refused_or_given (WhatIf cat load conf) inputs setting why (Priced prices) few a b = absurd a
refused_or_given (WhatIf cat load conf) inputs setting why done few a b = absurd b
refused_or_given (Explain cat load conf number) inputs setting (NoStatement n count) (Explained explained) few a b = absurd (let none = a.1.beyond in let there = b.statement_is in cc)
refused_or_given (Explain cat load conf number) inputs setting (BadConf line) (Explained explained) few a b = conf_or_fault (length setting.shapes) (input inputs 2) b.config line (omega (arith, few)) b.config_is a.first
refused_or_given (Explain cat load conf number) inputs setting why (Explained explained) few a b = absurd a
refused_or_given (Explain cat load conf number) inputs setting why done few a b = absurd b
refused_or_given (Advise cat load budget nodes cert) inputs setting (TooManyCombinations n count) (Advised advice) few a b = none_beyond setting n count b.few a
refused_or_given (Advise cat load budget nodes cert) inputs setting why (Advised advice) few a b = absurd a
refused_or_given (Advise cat load budget nodes cert) inputs setting why done few a b = absurd b
refused_or_given (Sweep cat load first step steps nodes cert) inputs setting (TooManyCombinations n count) (Swept points) few a b = none_beyond setting n count b.few a
refused_or_given (Sweep cat load first step steps nodes cert) inputs setting why (Swept points) few a b = absurd a
refused_or_given (Sweep cat load first step steps nodes cert) inputs setting why done few a b = absurd b
refused_or_given (Retune cat load edits budget nodes) inputs setting why (Retuned tuned) few a b = refused_or_tuned budget nodes (input inputs 2) setting why tuned a b
refused_or_given (Retune cat load edits budget nodes) inputs setting why done few a b = absurd b
refused_or_given (Ruled cat load budget rules nodes cert) inputs setting (Rules fault) (RuledDone ruled) few a b = faulty_or_root setting (input inputs 2) budget fault b.root a b.root_is
refused_or_given (Ruled cat load budget rules nodes cert) inputs setting (TooManyCombinations n count) (RuledDone ruled) few a b = none_beyond setting n count b.advice_is.few a.first
refused_or_given (Ruled cat load budget rules nodes cert) inputs setting why (RuledDone ruled) few a b = absurd a
refused_or_given (Ruled cat load budget rules nodes cert) inputs setting why done few a b = absurd b
refused_or_given (Bench seed tables statements budget) inputs setting (TooManyCombinations n count) (Benched bench) few a b = none_beyond setting n count b.advice_is.few a
refused_or_given (Bench seed tables statements budget) inputs setting why (Benched bench) few a b = absurd a
refused_or_given (Bench seed tables statements budget) inputs setting why done few a b = absurd b
refused_or_given (CheckRuled cat load rules cert) inputs setting (Rules fault) done few a b = not_both setting (input inputs 2) b.root fault b.root_is a.first
refused_or_given (CheckRuled cat load rules cert) inputs setting why done few a b = absurd a
refused_or_given (Fold cat load out) inputs setting (FoldTooLong count) (Folded told) few a b = long_or_folded (input inputs 1) setting count told a b
refused_or_given (Fold cat load out) inputs setting (FoldTooLong count) done few a b = absurd b
refused_or_given (Fold cat load out) inputs setting why done few a b = absurd a
refused_or_given command inputs setting why done few a b = absurd a

-- ## The order of work

too_long_alone : (command : PlainCommand) (files : Files) (role : Role) (done : Done) → IsTooLong (Some files) (files_of command) role → Answers command (Some files) done → done ≡ Refused (TooLong role)
too_long_alone command files role (Refused (TooLong other)) a b =
    let same = one_long files a.front b.front a.rest b.rest a.file b.file a.inputs b.inputs (sym a.uses_are ∙ b.uses_are) a.earlier b.earlier a.bad.long b.bad.long in
    let roles = b.bad.role_is ∙ ap (λ (f : InputFile). f.role) (sym same) ∙ sym a.bad.role_is in
    ap (λ (r : Role). Refused (TooLong r)) roles
too_long_alone command files role (Refused (Cat fault)) a b = absurd (no_inputs command files role b.inputs a b.inputs_are)
too_long_alone command files role (Refused (Sql fault)) a b = absurd (no_inputs command files role b.inputs a b.inputs_are)
too_long_alone command files role (Refused (Bind fault)) a b = absurd (no_inputs command files role b.inputs a b.inputs_are)
too_long_alone command files role (Refused why) a b = absurd (no_inputs command files role b.inputs a b.inputs_are)
too_long_alone command files role done a b = absurd (no_inputs command files role b.inputs a b.inputs_are)

-- a fault of the catalogue
abbrev CatAt : CatFault → List (List ℕ) → Type 0
CatAt fault inputs = HasCatFault (input inputs 0) fault

cat_alone : (command : PlainCommand) (files : Files) (fault : CatFault) (done : Done) → OfFiles (Some files) command (CatAt fault) → Answers command (Some files) done → done ≡ Refused (Cat fault)
cat_alone command files fault (Refused (TooLong role)) a b = absurd (no_inputs command files role a.inputs b a.inputs_are)
cat_alone command files fault (Refused (Cat other)) a b =
    ap (λ (f : CatFault). Refused (Cat f)) (one_cat_fault (input b.inputs 0) fault other (over_inputs command files (CatAt fault) b.inputs a b.inputs_are) b.holds)
cat_alone command files fault (Refused (Sql other)) a b =
    absurd (faulty_or_catalogue (input b.inputs 0) fault b.holds.catalogue (over_inputs command files (CatAt fault) b.inputs a b.inputs_are) b.holds.catalogue_is)
cat_alone command files fault (Refused (Bind other)) a b =
    absurd (faulty_or_catalogue (input b.inputs 0) fault b.holds.catalogue (over_inputs command files (CatAt fault) b.inputs a b.inputs_are) b.holds.catalogue_is)
cat_alone command files fault (Refused why) a b =
    absurd (faulty_or_catalogue (input b.inputs 0) fault b.setting.cat (over_inputs command files (CatAt fault) b.inputs a b.inputs_are) b.setting_is.catalogue_is)
cat_alone command files fault done a b =
    absurd (faulty_or_catalogue (input b.inputs 0) fault b.setting.cat (over_inputs command files (CatAt fault) b.inputs a b.inputs_are) b.setting_is.catalogue_is)

-- a fault of the workload's text
abbrev SqlAt : SqlFault → List (List ℕ) → Type 0
SqlAt fault inputs = IsSqlRefusal (input inputs 0) (input inputs 1) fault

sql_alone : (command : PlainCommand) (files : Files) (fault : SqlFault) (done : Done) → OfFiles (Some files) command (SqlAt fault) → Answers command (Some files) done → done ≡ Refused (Sql fault)
sql_alone command files fault (Refused (TooLong role)) a b = absurd (no_inputs command files role a.inputs b a.inputs_are)
sql_alone command files fault (Refused (Cat other)) a b =
    let mine = over_inputs command files (SqlAt fault) b.inputs a b.inputs_are in
    absurd (faulty_or_catalogue (input b.inputs 0) other mine.catalogue b.holds mine.catalogue_is)
sql_alone command files fault (Refused (Sql other)) a b =
    let mine = over_inputs command files (SqlAt fault) b.inputs a b.inputs_are in
    ap (λ (f : SqlFault). Refused (Sql f)) (one_sql_fault (input b.inputs 1) other fault b.holds.first mine.first)
sql_alone command files fault (Refused (Bind other)) a b =
    let mine = over_inputs command files (SqlAt fault) b.inputs a b.inputs_are in
    absurd (workload_or_fault (input b.inputs 1) b.holds.first.parsed fault b.holds.first.is_workload mine.first)
sql_alone command files fault (Refused why) a b =
    let mine = over_inputs command files (SqlAt fault) b.inputs a b.inputs_are in
    absurd (workload_or_fault (input b.inputs 1) b.setting_is.statements_are.parsed fault b.setting_is.statements_are.is_workload mine.first)
sql_alone command files fault done a b =
    let mine = over_inputs command files (SqlAt fault) b.inputs a b.inputs_are in
    absurd (workload_or_fault (input b.inputs 1) b.setting_is.statements_are.parsed fault b.setting_is.statements_are.is_workload mine.first)

-- a fault of the workload's names
abbrev BindAt : BindFault → List (List ℕ) → Type 0
BindAt fault inputs = IsBindRefusal (input inputs 0) (input inputs 1) fault

bind_alone : (command : PlainCommand) (files : Files) (fault : BindFault) (done : Done) → OfFiles (Some files) command (BindAt fault) → Answers command (Some files) done → done ≡ Refused (Bind fault)
bind_alone command files fault (Refused (TooLong role)) a b = absurd (no_inputs command files role a.inputs b a.inputs_are)
bind_alone command files fault (Refused (Cat other)) a b =
    let mine = over_inputs command files (BindAt fault) b.inputs a b.inputs_are in
    absurd (faulty_or_catalogue (input b.inputs 0) other mine.catalogue b.holds mine.catalogue_is)
bind_alone command files fault (Refused (Sql other)) a b =
    let mine = over_inputs command files (BindAt fault) b.inputs a b.inputs_are in
    absurd (workload_or_fault (input b.inputs 1) mine.first.parsed other mine.first.is_workload b.holds.first)
bind_alone command files fault (Refused (Bind other)) a b =
    ap (λ (f : BindFault). Refused (Bind f)) (one_bind_fault (input b.inputs 0) (input b.inputs 1) fault other (over_inputs command files (BindAt fault) b.inputs a b.inputs_are) b.holds)
bind_alone command files fault (Refused why) a b =
    absurd (unbound_or_setting (input b.inputs 0) (input b.inputs 1) fault b.setting b.left_over (over_inputs command files (BindAt fault) b.inputs a b.inputs_are) b.setting_is)
bind_alone command files fault done a b =
    absurd (unbound_or_setting (input b.inputs 0) (input b.inputs 1) fault b.setting b.left_over (over_inputs command files (BindAt fault) b.inputs a b.inputs_are) b.setting_is)

-- what a command refuses by itself
abbrev OwnAt : PlainCommand → Refusal → List (List ℕ) → TheSetting → Type 0
OwnAt command why inputs setting = RefusesOver command inputs setting why

abbrev GivenAt : PlainCommand → Done → List (List ℕ) → TheSetting → Type 0
GivenAt command done inputs setting = GivesOver command inputs setting done

own_alone : (command : PlainCommand) (files : Files) (why : Refusal) (done : Done) → OfSetting (Some files) command (OwnAt command why) → Answers command (Some files) done → done ≡ Refused why
own_alone command files why (Refused (TooLong role)) a b = absurd (no_inputs command files role a.inputs b a.inputs_are)
own_alone command files why (Refused (Cat fault)) a b =
    absurd (faulty_or_catalogue (input b.inputs 0) fault a.setting.cat b.holds (setting_over command files (OwnAt command why) b.inputs a b.inputs_are).catalogue_is)
own_alone command files why (Refused (Sql fault)) a b =
    let mine = setting_over command files (OwnAt command why) b.inputs a b.inputs_are in
    absurd (workload_or_fault (input b.inputs 1) mine.statements_are.parsed fault mine.statements_are.is_workload b.holds.first)
own_alone command files why (Refused (Bind fault)) a b =
    absurd (unbound_or_setting (input b.inputs 0) (input b.inputs 1) fault a.setting a.left_over b.holds (setting_over command files (OwnAt command why) b.inputs a b.inputs_are))
own_alone command files why (Refused other) a b =
    ap Refused (one_own command b.inputs b.setting why other (few_shapes (input b.inputs 0) (input b.inputs 1) b.setting b.left_over b.setting_is) (over_setting command files (OwnAt command why) (OwnAt command other) a b) b.holds)
own_alone command files why done a b =
    absurd (refused_or_given command b.inputs b.setting why done (few_shapes (input b.inputs 0) (input b.inputs 1) b.setting b.left_over b.setting_is) (over_setting command files (OwnAt command why) (GivenAt command done) a b) b.holds)

-- a refusal is the only answer
pub refusal_alone : (command : PlainCommand) (files : Files) (why : Refusal) (done : Done) → Answers command (Some files) (Refused why) → Answers command (Some files) done → done ≡ Refused why
refusal_alone command files (TooLong role) done a b = too_long_alone command files role done a b
refusal_alone command files (Cat fault) done a b = cat_alone command files fault done a b
refusal_alone command files (Sql fault) done a b = sql_alone command files fault done a b
refusal_alone command files (Bind fault) done a b = bind_alone command files fault done a b
refusal_alone command files why done a b = own_alone command files why done a b

-- a check has one answer
pub check_alone : OneAnswer → (cat load cert : List ℕ) (files : Files) (done other : Done) → Answers (Check cat load cert) (Some files) done → Answers (Check cat load cert) (Some files) other → done ≡ other
check_alone one cat load cert files (Refused why) other a b = sym (refusal_alone (Check cat load cert) files why other a b)
check_alone one cat load cert files done (Refused why) a b = refusal_alone (Check cat load cert) files why done b a
check_alone one cat load cert files done other a b =
    one b.setting (input b.inputs 2) done other
    (over_setting (Check cat load cert) files (GivenAt (Check cat load cert) done) (GivenAt (Check cat load cert) other) a b) b.holds

-- and so has one under rules
pub ruled_check_alone : check_ruled.OneAnswer → (cat load rules cert : List ℕ) (files : Files) (done other : Done) →
    Answers (CheckRuled cat load rules cert) (Some files) done → Answers (CheckRuled cat load rules cert) (Some files) other → done ≡ other
ruled_check_alone one cat load rules cert files (Refused why) other a b = sym (refusal_alone (CheckRuled cat load rules cert) files why other a b)
ruled_check_alone one cat load rules cert files done (Refused why) a b = refusal_alone (CheckRuled cat load rules cert) files why done b a
ruled_check_alone one cat load rules cert files done other a b =
    let command = CheckRuled cat load rules cert in
    one b.setting (input b.inputs 2) (input b.inputs 3) done other (over_setting command files (GivenAt command done) (GivenAt command other) a b) b.holds
