use Rattle.std.proofs.Common.{◌≡◌, List, ℕ, Ok, subst, sym, ◌∙◌}
use Rattle.std.proofs.lemmas.Result.{err_from_is_err_and}
use Rattle.adv_base.specs.Settings.{the_setting}
use Rattle.adv_base.specs.declared.catalogue.Catalogue.{Catalogue}
use Rattle.adv_base.specs.declared.workload.Statement.{Statement}
use Rattle.binder.specs.Plain.{plain_statements}
use Rattle.binder.specs.Statements.{statements_of}
use Rattle.binder.specs.declared.fault.BindFault.TheVariants as bind
use Rattle.candidates.specs.Growing.{IsProposed}
use Rattle.programme_parts.specs.Combinations.{AreFew, IsFirstBeyond}
use Rattle.report.specs.declared.done.Refusal.TheVariants.{Sql, Bind}
use Rattle.sql_reader.specs.Workload.{IsWorkload}
use Rattle.sql_reader.specs.declared.parsed.ParsedStatement.{ParsedStatement}
use Rattle.sql_reader.specs.declared.parsed.SqlFault.TheVariants as sql
use Rattle.cophy_core.specs.Settings.{AreStatementsOf}
use Rattle.cophy_core.specs.Stops.{LacksProgramme}
use Rattle.cophy_core.proofs.OneSetting.{one_list}
use Rattle.cophy_core.proofs.Stopped.{stops_at}
use Rattle.cophy_core.proofs.Taking.{no_fault}
use Rattle.cophy_core.proofs.commands.session.session_of.Goals as goal

-- what is read once more is what was read before
again : (cat : Catalogue) (load text : List ℕ) (parsed : List ParsedStatement) (found statements : List Statement) → IsWorkload load parsed → text ≡ load →
    statements_of cat text parsed ≡ Ok (plain_statements found) → AreStatementsOf cat load statements → found ≡ statements
again cat load text parsed found statements is same bound read =
    one_list cat load found statements (record { parsed = parsed; is_workload = is; bound = rw (sym same) bound }) read

-- the text was read before, so that memory alone can be wanting
pub returns-in_err-parsed-clause-stop : goal.returns-in_err-parsed-clause-stop
returns-in_err-parsed-clause-stop c =
    let p = err_from_is_err_and c.from_residual.result c.from_residual.ensures.1 in
    let wanting : c.in_err-parsed.field-0.0 ≡ sql.Memory = c.in_err-parsed.ensures.only c.requires.read.parsed c.requires.read.is_workload in
    rw p.1 (stops_at (LacksProgramme (the_setting c.args.setting.now)) sql.Memory Sql c.in_err-parsed.field-0.0 p.0 p.2 (λ apart. absurd (apart wanting)))

pub returns-in_err-statements-clause-stop : goal.returns-in_err-statements-clause-stop
returns-in_err-statements-clause-stop c =
    let p = err_from_is_err_and c.from_residual-in_err-statements.result c.from_residual-in_err-statements.ensures.1 in
    let same = c.in_ok-parsed.ensures.only c.requires.read.parsed c.requires.read.is_workload in
    let found : statements_of c.args.setting.now.cat.now c.in_ok-parsed.parsed.text.now c.in_ok-parsed.parsed.statements ≡ Ok (plain_statements c.args.setting.now.statements.now) =
    rw (c.in_ok-parsed.ensures.same_text, same) c.requires.read.bound in
    rw p.1 (stops_at (LacksProgramme (the_setting c.args.setting.now)) bind.Memory Bind c.in_err-statements.field-0.0 p.0 p.2 (λ apart. absurd (no_fault found (c.in_err-statements.ensures.exact apart))))

pub over-requires-clause-proposed : goal.over-requires-clause-proposed
over-requires-clause-proposed c =
    let same = again c.args.setting.now.cat.now c.args.load.now c.in_ok-parsed.parsed.text.now c.in_ok-parsed.parsed.statements c.in_ok-statements.statements
    c.args.setting.now.statements.now c.in_ok-parsed.ensures.found c.in_ok-parsed.ensures.same_text c.in_ok-statements.ensures.exact c.requires.read in
    subst (λ (xs : List Statement). IsProposed c.args.setting.now.cat.now xs c.args.proposed) (sym same) c.requires.proposed

pub returns-in-Ok-clause-statements : goal.returns-in-Ok-clause-statements
returns-in-Ok-clause-statements c =
    c.in-Ok.ensures.statements ∙ again c.args.setting.now.cat.now c.args.load.now c.in_ok-parsed.parsed.text.now c.in_ok-parsed.parsed.statements c.in_ok-statements.statements
    c.args.setting.now.statements.now c.in_ok-parsed.ensures.found c.in_ok-parsed.ensures.same_text c.in_ok-statements.ensures.exact c.requires.read

pub returns-in-Ok-clause-few : goal.returns-in-Ok-clause-few
returns-in-Ok-clause-few c =
    let same = again c.args.setting.now.cat.now c.args.load.now c.in_ok-parsed.parsed.text.now c.in_ok-parsed.parsed.statements c.in_ok-statements.statements
    c.args.setting.now.statements.now c.in_ok-parsed.ensures.found c.in_ok-parsed.ensures.same_text c.in_ok-statements.ensures.exact c.requires.read in
    subst (AreFew c.args.setting.now.cat.now) same c.in-Ok.ensures.few

pub returns-in-Err-TooManyCombinations-clause-stop : goal.returns-in-Err-TooManyCombinations-clause-stop
returns-in-Err-TooManyCombinations-clause-stop c =
    let arm = c.in-Err-TooManyCombinations in
    let same = again c.args.setting.now.cat.now c.args.load.now c.in_ok-parsed.parsed.text.now c.in_ok-parsed.parsed.statements c.in_ok-statements.statements
    c.args.setting.now.statements.now c.in_ok-parsed.ensures.found c.in_ok-parsed.ensures.same_text c.in_ok-statements.ensures.exact c.requires.read in
    let beyond : IsFirstBeyond c.args.setting.now.cat.now c.in_ok-statements.statements arm.number arm.count = rw arm.field-0-is at arm.ensures.fault in
    subst (λ (xs : List Statement). IsFirstBeyond c.args.setting.now.cat.now xs arm.number arm.count) same beyond
