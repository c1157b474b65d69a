use Rattle.std.proofs.lemmas.Result.{err_from_is_err_and}
use Rattle.dba_rules.specs.declared.fault.RuleFault.TheVariants.{Memory}
use Rattle.dba_rules.specs.Names.{column_named, keys_named}
use Rattle.dba_rules.proofs.Turns.{each_goes, each_fails, each_ends}
use Rattle.dba_rules.proofs.names.keys_named.Goals as goal

pub returns-in_err-column : goal.returns-in_err-column
returns-in_err-column c =
    let columns = c.args.columns.now in
    let words = c.args.words.now in
    let p = err_from_is_err_and c.from_residual.result c.from_residual.ensures.1 in
    rw (p.1, p.2) (each_fails (column_named columns c.args.number) words (keys_named columns c.args.number words) Memory c.loop-name.items.items c.loop-name.name-index _ _
    c.in_err-column.field-0.0 c.loop-name-test.true c.name-item.is c.in_err-column.ensures c.loop-name.invariant)

pub loop-name-preserved : goal.loop-name-preserved
loop-name-preserved c =
    let columns = c.args.columns.now in
    let words = c.args.words.now in
    each_goes (column_named columns c.args.number) words (keys_named columns c.args.number words) c.loop-name.items.items c.push.new.self.items c.loop-name.name-index _ _
    c.in_ok-column.column c.loop-name-test.true c.name-item.is c.in_ok-column.ensures c.in_ok-push.ensures.items c.loop-name.invariant

pub returns : goal.returns
returns c =
    let columns = c.args.columns.now in
    let words = c.args.words.now in
    each_ends (column_named columns c.args.number) words (keys_named columns c.args.number words) c.loop-name.items.items c.loop-name.name-index c.loop-name-test.false c.loop-name.invariant
