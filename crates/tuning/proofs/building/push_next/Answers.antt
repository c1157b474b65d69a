use Rattle.std.proofs.Common.{◌+◌, refl, subst}
use Rattle.adv_base.specs.Settings.{the_setting}
use Rattle.programme_parts.specs.Caches.{IsStatementFault}
use Rattle.programme_parts.proofs.Counting.{few-more, first-beyond}
use Rattle.programme_parts.proofs.Statements.{named-statement}
use Rattle.tuning.proofs.building.push_next.Goals as goal

pub statement_cache-requires : goal.statement_cache-requires
statement_cache-requires c = named-statement (the_setting c.args.setting.now) c.args.at c.args.statement.now c.args.setting.now.limits c.requires.found

pub returns-in_ok-push_statement-in-Ok-clause-few : goal.returns-in_ok-push_statement-in-Ok-clause-few
returns-in_ok-push_statement-in-Ok-clause-few c =
    let setting = c.args.setting.now in
    few-more setting.cat.now setting.statements.now c.args.at c.args.statement.now c.requires.found c.requires.few_before c.in-Ok.ensures.few

pub returns-in-Err-TooManyCombinations-clause-fault : goal.returns-in-Err-TooManyCombinations-clause-fault
returns-in-Err-TooManyCombinations-clause-fault c =
    let setting = c.args.setting.now in
    let arm = c.in-Err-TooManyCombinations in
    let own = subst (IsStatementFault setting.cat.now c.args.statement.now) arm.field-0-is arm.ensures.fault in
    rw arm.field-0-is (first-beyond setting.cat.now setting.statements.now c.args.at (c.args.at + 1) arm.count c.args.statement.now c.requires.found c.requires.few_before refl own)
